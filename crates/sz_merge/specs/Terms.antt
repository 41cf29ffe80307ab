-- The words that clauses of this crate are written in, each from the file that defines it.
pub use Rattle.std.specs.Arc.{arc_value}
pub use Rattle.std.specs.List.{filter, range_with_len, slice_get}
pub use Rattle.std.specs.Prelude.{All, IfNone, IfOk, IfSome, List, OnOk, OnSome, Some, [], false}
pub use Rattle.std.specs.Prelude.{length, map, nat_lt, not, slice_index_or, slice_set, true, ℕ}
pub use Rattle.sz_cells.specs.Cells.{Cells, union_of}
pub use Rattle.sz_cells.specs.Extent.{Extent, is_extent, size_of}
pub use Rattle.sz_cells.specs.Runs.{AreRunsFrom, is_in}
pub use Rattle.sz_cells.specs.SetBytes.{IsSetOf}
pub use Rattle.sz_cells.specs.declared.Cell.{Cell}
pub use Rattle.sz_frame.specs.Parts.{Pairing}
pub use Rattle.sz_frame.specs.Stands.{full_stands, set_of}
pub use Rattle.sz_region.specs.LawsStores.{AreRight}
pub use Rattle.sz_region.specs.Putting.{HasShapes}
pub use Rattle.sz_shelf.specs.Passes.{place_of}
pub use Rattle.sz_spec.specs.Modes.{mode_of, supports}
pub use Rattle.sz_spec.specs.Values.{extent_at}
pub use Rattle.sz_store.specs.Kept.{is_whole, keep_at, regions, stored_in}
pub use Rattle.sz_store.specs.Stocks.{IsOfItsMode, IsTableOf}
pub use Rattle.sz_store.specs.Words.{BeginEach}
pub use Rattle.sz_tables.specs.Rows.{number_in, pairings, row_at, set_at, sets_of}
pub use Rattle.sz_tables.specs.Scans.{pairing_at}
pub use Rattle.sz_tables.specs.Tables.{AreDifferent, spelled}
pub use Rattle.sz_merge.specs.Apart.{IsFurther}
pub use Rattle.sz_merge.specs.Distinct.{AreKinds}
pub use Rattle.sz_merge.specs.Laws.{NumbersToldAreTheKinds, NumbersToldAreThoseKept}
pub use Rattle.sz_merge.specs.Lineages.{KeepsNumbers, joined, list_at, lists_of, nothing, spelling}
pub use Rattle.sz_merge.specs.Marks.{AreGroups, AreLabels, AreMarked, AreNumbers, ArePut}
pub use Rattle.sz_merge.specs.Marks.{AreSetsPut, HasCellMore, IsKindPut, IsNext, IsStorePut}
pub use Rattle.sz_merge.specs.Marks.{has_index, is_kind, kind_of, kinds_behind, kinds_below}
pub use Rattle.sz_merge.specs.Merged.{AreKindsPut, AreMerged, AreRead, IsPartMerged}
