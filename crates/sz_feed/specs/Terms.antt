-- The words that clauses of this crate are written in, each from the file that defines it.
pub use Rattle.std.specs.List.{AllByRecursion}
pub use Rattle.std.specs.Prelude.{Err, IfOk, List, MatchOption, None, OnErr, OnOk, Option, [], drop}
pub use Rattle.std.specs.Prelude.{false, length, slice_index, take, true, ℕ}
pub use Rattle.sz_commands.specs.Asks.{IsAskLine, asks_text}
pub use Rattle.sz_commands.specs.Given.{IsRight, LineGives, Takes}
pub use Rattle.sz_commands.specs.Lines.{is_blank, is_within_line, last_line}
pub use Rattle.sz_commands.specs.States.{apart, nothing_held}
pub use Rattle.sz_commands.specs.Transcript.{after_lines}
pub use Rattle.sz_script.specs.Right.{is_right}
pub use Rattle.sz_feed.specs.Calls.{AreWaiting, IsAnswered, IsSaid, IsTaken, SaysReplies, SaysText}
pub use Rattle.sz_feed.specs.Moments.{Alike, cut_after, moment_before, told_at_end, told_in}
pub use Rattle.sz_feed.specs.Running.{IsBeside}
pub use Rattle.sz_feed.specs.Serving.{Advances, line_to_say}
pub use Rattle.sz_feed.specs.Waiting.{Lags, SaysBy, stop_halt, told_text}
