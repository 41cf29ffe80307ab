-- The words that clauses of this crate are written in, each from the file that defines it.
pub use Rattle.std.specs.Arc.{arc_value}
pub use Rattle.std.specs.Prelude.{All, IfErr, IfOk, IsTrue, List, OnErr, OnOk, Some, [], length}
pub use Rattle.std.specs.Prelude.{map, slice_index_or, sum_by, true, ℕ}
pub use Rattle.sz_cells.specs.Cells.{has, with_those}
pub use Rattle.sz_cells.specs.Extent.{Extent, cell_of, size_of}
pub use Rattle.sz_cells.specs.Runs.{indexes_of}
pub use Rattle.sz_frame.specs.Stands.{full_stands}
pub use Rattle.sz_frame.specs.Walks.{steps}
pub use Rattle.sz_region.specs.FullBytes.{BeginsRegions, IsFullWord, Listed}
pub use Rattle.sz_region.specs.Stores.{SaysNoRegions}
pub use Rattle.sz_spec.specs.Sides.{extent_after, extent_before, far_side, image_between, image_in}
pub use Rattle.sz_spec.specs.Sides.{near_side}
pub use Rattle.sz_spec.specs.Values.{extent_at}
pub use Rattle.sz_tables.specs.Apart.{AreOneOrApart, HaveInputsApart}
pub use Rattle.sz_tables.specs.Rows.{IsRowOf, RowTable, empty_rows, pairings, runs_in, set_at}
pub use Rattle.sz_tables.specs.Rows.{sets_of, weight_of}
pub use Rattle.sz_tables.specs.Stores.{IsPairOf, IsWithin, cells_in, most_given, no_room}
pub use Rattle.sz_tables.specs.Stores.{room_for_pairs}
pub use Rattle.sz_tables.specs.Tables.{AreDifferent}
pub use Rattle.sz_full_one.specs.ByCells.{AreFiledByIns, AreFiledByOuts, AreFilesOf, AreSetsFiled}
pub use Rattle.sz_full_one.specs.ByCells.{HasFileRoom, HasRoom, HasSameEntries, HasSameFiles}
pub use Rattle.sz_full_one.specs.ByCells.{IsDone, IsGrownBy, IsIndexOf, IsPairIn, adds}
pub use Rattle.sz_full_one.specs.ByCells.{file_capacities, index_capacities, pair_cells, side_of}
pub use Rattle.sz_full_one.specs.ByCells.{with_filed}
