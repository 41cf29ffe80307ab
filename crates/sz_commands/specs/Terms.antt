-- The words that clauses of this crate are written in, each from the file that defines it.
pub use Rattle.std.specs.Arc.{arc_value}
pub use Rattle.std.specs.List.{AllByRecursion, AllZip}
pub use Rattle.std.specs.Prelude.{Err, IfOk, List, None, Ok, OnErr, OnOk, Some, [], false, is_some}
pub use Rattle.std.specs.Prelude.{length, map, option_map, true, ℕ}
pub use Rattle.sz_catalogue.specs.Changes.{changes_no_version, traced, way_of}
pub use Rattle.sz_catalogue.specs.Refreshes.{base_at, cells_affected, has_input}
pub use Rattle.sz_catalogue.specs.Rules.{has_no_version, is_not_joined, is_out_of_range, judged}
pub use Rattle.sz_catalogue.specs.Rules.{version_of}
pub use Rattle.sz_catalogue.specs.Seen.{response_of}
pub use Rattle.sz_flow.specs.Executions.{execution_of}
pub use Rattle.sz_formats.specs.Formats.{is_format}
pub use Rattle.sz_recover.specs.Logs.{is_of_kind}
pub use Rattle.sz_script.specs.Reading.{reading}
pub use Rattle.sz_script.specs.Right.{is_right}
pub use Rattle.sz_versions.specs.Efforts.{most_traced}
pub use Rattle.sz_versions.specs.Merging.{IsMergedIn}
pub use Rattle.sz_versions.specs.Residents.{IsInService, logged_in, stored_in}
pub use Rattle.sz_versions.specs.Runs.{executions_of}
pub use Rattle.sz_versions.specs.Stores.{IsTrailOf}
pub use Rattle.sz_versions.specs.Views.{strategy_told}
pub use Rattle.sz_writing.specs.Orders.{array_order}
pub use Rattle.sz_commands.specs.Asks.{IsAskLine, IsBegun, IsEnded, IsWorked, ask_reply, is_ask}
pub use Rattle.sz_commands.specs.Asks.{most_for_asks, traced_for_asks}
pub use Rattle.sz_commands.specs.Carrying.{AddsEntry, AreGiven, FinishesEntry, IsFinishedIn}
pub use Rattle.sz_commands.specs.Carrying.{StoredAfter, StoredBehind, StoredBy}
pub use Rattle.sz_commands.specs.Commands.{Responds, most_along, most_for, most_for_line}
pub use Rattle.sz_commands.specs.Commands.{traced_along, traced_for, traced_for_line}
pub use Rattle.sz_commands.specs.Faults.{CountsTell}
pub use Rattle.sz_commands.specs.Given.{IsRight, LineGives, Takes, most_for_given, traced_for_given}
pub use Rattle.sz_commands.specs.Inquiries.{IsInquiryOf}
pub use Rattle.sz_commands.specs.Lines.{is_blank}
pub use Rattle.sz_commands.specs.Logged.{Appends, HasLog, IsArrayGroup, IsGroupFor, IsGroupOf}
pub use Rattle.sz_commands.specs.Logged.{IsLasting, IsLineGroup, IsLogOf, IsVersionGroup, KeepsLog}
pub use Rattle.sz_commands.specs.Logged.{StopsInLog, end_of, held_after, is_refresh, makes}
pub use Rattle.sz_commands.specs.Logged.{makes_durable, makes_judged, place_of}
pub use Rattle.sz_commands.specs.Refreshing.{IsMadeBy}
pub use Rattle.sz_commands.specs.States.{accepted, after_command, apart, cells_told, nothing_held}
