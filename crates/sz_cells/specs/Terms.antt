-- The words that clauses of this crate are written in, each from the file that defines it.
pub use Rattle.std.specs.List.{find, flat_map, list_any, range_with_len}
pub use Rattle.std.specs.List.Sorted.{IsNonDecreasingBy, IsPartitionPoint}
pub use Rattle.std.specs.Prelude.{All, IfOk, IsTrue, None, OnErr, OnOk, Some, [], false, fold}
pub use Rattle.std.specs.Prelude.{length, map, nat_le, nat_lt, true, ℕ}
pub use Rattle.sz_cells.specs.Cells.{cells_where, has, named_in, next_index, no_cells, union_of}
pub use Rattle.sz_cells.specs.Cells.{with_cell}
pub use Rattle.sz_cells.specs.Extent.{cell_in, cell_of, flat, height_of, holds, index_of, is_extent}
pub use Rattle.sz_cells.specs.Extent.{is_layered, is_place, is_shape, layer_of, layered, row_in}
pub use Rattle.sz_cells.specs.Extent.{size_of}
pub use Rattle.sz_cells.specs.Laws.{BoundsAreSmallest, BoundsHaveEachCell, BytesAreOneSet}
pub use Rattle.sz_cells.specs.Laws.{CellsHaveIndexes, CellsHavePlaces, IndexesHaveCells}
pub use Rattle.sz_cells.specs.Laws.{LayersMakeShapes, NextIsLeast, NoBoundsOfNoCell, NoneIsNext}
pub use Rattle.sz_cells.specs.Laws.{OneLayerIsFlat, OneMoreCell, OneSetBegins, PlacesHaveCells}
pub use Rattle.sz_cells.specs.Laws.{RisingIndexesAreSets, RunsAreOne, RunsSpellSets}
pub use Rattle.sz_cells.specs.Laws.{SetsAreEqualByTheirCells, SetsAreTheirTests}
pub use Rattle.sz_cells.specs.Laws.{SetsHaveRisingIndexes, UnionsHaveTheCellsOfBoth}
pub use Rattle.sz_cells.specs.Rising.{AreRising}
pub use Rattle.sz_cells.specs.Runs.{AreRunsFrom, Spells, bounds_of, bounds_with, covers, first_at}
pub use Rattle.sz_cells.specs.Runs.{indexes_of, is_in, run_cells, runs_of}
pub use Rattle.sz_cells.specs.SetBytes.{IsSetOf}
pub use Rattle.sz_cells.specs.Words.{cells_at, has_bit, is_in_word, is_one, words_for}
