-- The words that clauses of this crate are written in, each from the file that defines it.
pub use Rattle.std.specs.Arc.{arc_value}
pub use Rattle.std.specs.List.{AllZip, flat_map, list_any, slice_get}
pub use Rattle.std.specs.Prelude.{All, IfErr, IfNone, IfOk, IfSome, List, OnErr, OnOk, Some, []}
pub use Rattle.std.specs.Prelude.{length, map, take, true, ℕ}
pub use Rattle.sz_cells.specs.Cells.{Cells, any_cell, has}
pub use Rattle.sz_cells.specs.Extent.{Extent, cell_of, is_extent, size_of}
pub use Rattle.sz_cells.specs.Runs.{AreRunsFrom, indexes_of}
pub use Rattle.sz_cells.specs.SetBytes.{BeginsSet, IsSetOf, four_bytes, set_bytes}
pub use Rattle.sz_cells.specs.SetWords.{runs_spelled}
pub use Rattle.sz_spec.specs.Values.{extent_at}
pub use Rattle.sz_region.specs.Counted.{IsAt, counted, rows_bytes}
pub use Rattle.sz_region.specs.FullBytes.{AreNamesOf, AreNumbersOf, BeginsRegions, IsFullWord}
pub use Rattle.sz_region.specs.FullBytes.{IsListed, Listed, listed_by, listed_bytes, listed_from}
pub use Rattle.sz_region.specs.FullBytes.{listed_of}
pub use Rattle.sz_region.specs.LawsStores.{OneListOfEntriesBegins, OneListOfRegionsBegins}
pub use Rattle.sz_region.specs.LawsStores.{WrittenEntriesAreRead, WrittenRegionsAreRead}
pub use Rattle.sz_region.specs.LawsStores.{WrittenSetsAreRead}
pub use Rattle.sz_region.specs.PayBytes.{AreNamesOfEntry, BeginsEntries, IsPayWord, IsShort}
pub use Rattle.sz_region.specs.PayBytes.{payload_bytes}
pub use Rattle.sz_region.specs.Putting.{AreEntriesNumbered, AreNumbered, AreRegionsNumbered}
pub use Rattle.sz_region.specs.Putting.{AreRows, CanPutEntries, CanPutRegions, HasShapes}
pub use Rattle.sz_region.specs.Putting.{IsEntryNumbered, IsPayloadNumbered, MakeRows}
pub use Rattle.sz_region.specs.Stores.{AreEntriesNames, AreEntryNames, AreFew, AreNamesFor}
pub use Rattle.sz_region.specs.Stores.{ArePairNames, AreStoreNames, IsNameFor, IsNumberIn}
pub use Rattle.sz_region.specs.Stores.{NoEntriesBegin, NoRegionsBegin, NoneAt, OnBad, SaysNoEntries}
pub use Rattle.sz_region.specs.Stores.{SaysNoRegions, SaysWhetherApart}
pub use Rattle.sz_region.specs.Taking.{HasBody, HasNoRuns, SaysNoRuns, SaysNoneBegins, run_at}
pub use Rattle.sz_region.specs.Taking.{runs_bytes}
