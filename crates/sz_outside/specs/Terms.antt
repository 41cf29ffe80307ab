-- The words that clauses of this crate are written in, each from the file that defines it.
pub use Rattle.std.proofs.Common.{inl, refl}
pub use Rattle.std.specs.Io.KnownBytes.{Keeps as KeepsKnown}
pub use Rattle.std.specs.IoError.{error_kind}
pub use Rattle.std.specs.Option.{option_map}
pub use Rattle.std.specs.Prelude.{Bool, IfErr, IfOk, IsErr, IsSomeAnd, IsTrue, List, MatchOption}
pub use Rattle.std.specs.Prelude.{None, Ok, OnErr, OnOk, Option, Some, [], drop, is_err, is_ok}
pub use Rattle.std.specs.Prelude.{length, nat_lt, not, replicate, take, true, ℕ, ⊤}
pub use Rattle.sz_outside.specs.Counts.{count_after, faults_after}
pub use Rattle.sz_outside.specs.Disk.{Cut, Cuts, CutsOrNot, GivesAt, HasImage, HasPlace, HasSize}
pub use Rattle.sz_outside.specs.Disk.{Holds, Only, Passes, Said, SaidPart, Same, Told}
pub use Rattle.sz_outside.specs.Disk.{Torn as TornBy, Writes, WritesPart, written}
pub use Rattle.sz_outside.specs.History.{Event, LeftSince, MayLeave, left_now, now_counts}
pub use Rattle.sz_outside.specs.History.{scene_after, scene_at, scene_before, step_of}
pub use Rattle.sz_outside.specs.Memory.{Fits, Found, IsOfDisk, KeepsDisk, PassesIn, after_disk_call}
pub use Rattle.sz_outside.specs.Memory.{after_say, bytes_given, disk_of, event, fails_next}
pub use Rattle.sz_outside.specs.Memory.{image_by, is_call_done, is_next_done, is_write_done}
pub use Rattle.sz_outside.specs.Memory.{ledger_before, noted, now, said_of, say_fails_next}
pub use Rattle.sz_outside.specs.Memory.{supply_after, tape_after}
pub use Rattle.sz_outside.specs.Outside.{Gives, Keeps, Rose, Says, SaysPart, Stood}
