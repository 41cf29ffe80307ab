-- The words that clauses of this crate are written in, each from the file that defines it.
pub use Rattle.std.specs.Arc.{arc_value}
pub use Rattle.std.specs.Prelude.{All, IfErr, IfOk, List, OnErr, OnOk, [], length, true, ℕ}
pub use Rattle.sz_region.specs.LawsStores.{AreRight}
pub use Rattle.sz_region.specs.Stores.{OnBad}
pub use Rattle.sz_short.specs.ShortStores.{NoFullBegins, NoPayBegins, RespellsFull, RespellsPay}
pub use Rattle.sz_spec.specs.Modes.{supports}
pub use Rattle.sz_store.specs.Kept.{is_whole, stored_in}
pub use Rattle.sz_formats.specs.Formats.{is_format, other_than, spelling}
pub use Rattle.sz_formats.specs.Laws.{FormatOneIsAsBefore, OneListOfStoresBegins}
pub use Rattle.sz_formats.specs.Twice.{AreTwice, from_format, span}
pub use Rattle.sz_formats.specs.Words.{BeginEachIn, NoneBeginIn}
