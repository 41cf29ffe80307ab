-- The words that clauses of this crate are written in, each from the file that defines it.
pub use Rattle.std.specs.Int.{to_be_bytes, w64}
pub use Rattle.std.specs.Prelude.{IfOk, List, None, OnOk, Some, [], is_ok, length, true, ℕ}
pub use Rattle.sz_outside.specs.Calls.{KeepsOutput, Steps}
pub use Rattle.sz_outside.specs.Counts.{faults_after}
pub use Rattle.sz_outside.specs.Disk.{Cut, HasPlace, Only, Passes, Said, Same, Told, Torn, Writes}
pub use Rattle.sz_outside.specs.Disk.{bytes_at, written}
pub use Rattle.sz_log.specs.Laws.{GroupsAreRead}
pub use Rattle.sz_log.specs.Log.{EndsAt, LogGroup, bytes_behind_gate, empty_log, group_bytes}
pub use Rattle.sz_log.specs.Log.{is_kind}
pub use Rattle.sz_log.specs.Places.{SaysWhether, SpellsAt, SpellsLength, StandsAt, group_on}
pub use Rattle.sz_log.specs.Places.{opened_with}
pub use Rattle.sz_log.specs.Steps.{Added, AddsOrKeeps, IsMade, JudgesTold, KeepsFront, Makes}
pub use Rattle.sz_log.specs.Steps.{MakesIfFree, Spares, is_no_failure, place_behind}
