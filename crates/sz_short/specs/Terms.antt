-- The words that clauses of this crate are written in, each from the file that defines it.
pub use Rattle.std.specs.Prelude.{All, IfErr, IfNone, IfOk, IfSome, List, OnErr, OnOk, length, take}
pub use Rattle.std.specs.Prelude.{true, ℕ}
pub use Rattle.sz_cells.specs.Cells.{Cells}
pub use Rattle.sz_cells.specs.Extent.{is_extent, size_of}
pub use Rattle.sz_cells.specs.Runs.{AreRunsFrom}
pub use Rattle.sz_cells.specs.SetBytes.{IsSetOf, four_bytes, set_bytes}
pub use Rattle.sz_frame.specs.Parts.{Entry, Pairing}
pub use Rattle.sz_region.specs.Counted.{IsAt, counted, rows_bytes}
pub use Rattle.sz_region.specs.FullBytes.{BeginsRegions, IsListed, Listed}
pub use Rattle.sz_region.specs.PayBytes.{BeginsEntries, IsShort, payload_bytes}
pub use Rattle.sz_region.specs.Stores.{AreFew, NoEntriesBegin, NoRegionsBegin, NoneAt, OnBad}
pub use Rattle.sz_region.specs.Stores.{SaysNoEntries, SaysNoRegions}
pub use Rattle.sz_spec.specs.Values.{extent_at}
pub use Rattle.sz_short.specs.Laws.{BytesAreOneShortNumber, BytesAreOneShortSet, LongFullIsFull}
pub use Rattle.sz_short.specs.Laws.{LongPayIsPay, NumbersHaveShortSpellings, OneShortSetBegins}
pub use Rattle.sz_short.specs.Laws.{ShortSpellingsAreNumbers, WrittenShortSetsAreRead}
pub use Rattle.sz_short.specs.ShortNumber.{IsSmall, IsWithin, short_number, short_within}
pub use Rattle.sz_short.specs.ShortSets.{BeginsShortSet, IsRunFrom, SaysNoShortSet, short_run}
pub use Rattle.sz_short.specs.ShortSets.{short_runs_bytes, short_set_bytes}
pub use Rattle.sz_short.specs.ShortStores.{AreRowsOf, IsBlock, NoFullBegins, NoPayBegins}
pub use Rattle.sz_short.specs.ShortStores.{RespellsFull, RespellsPay, SaysNoShortFull}
pub use Rattle.sz_short.specs.ShortStores.{SaysNoShortPay, listed_by}
pub use Rattle.sz_short.specs.Ways.{read_bytes, written_bytes}
