-- The words that clauses of this crate are written in, each from the file that defines it.
pub use Rattle.std.specs.Arc.{arc_value}
pub use Rattle.std.specs.List.{list_any, slice_range}
pub use Rattle.std.specs.List.Sorted.{IsNonDecreasingBy, IsPartitionPoint}
pub use Rattle.std.specs.Prelude.{All, IfErr, IfNone, IfOk, IfSome, IsTrue, List, OnErr, OnOk}
pub use Rattle.std.specs.Prelude.{Option, Some, [], false, length, map, nat_lt, slice_index, sum_by}
pub use Rattle.std.specs.Prelude.{true, ℕ}
pub use Rattle.sz_cells.specs.Cells.{Cells, any_cell, has, next_index, union_of, with_those}
pub use Rattle.sz_cells.specs.Extent.{Extent, cell_of, holds, index_of, size_of}
pub use Rattle.sz_cells.specs.Rising.{AreRising}
pub use Rattle.sz_cells.specs.Runs.{AreRunsFrom, covers, indexes_of, is_in}
pub use Rattle.sz_cells.specs.SetWords.{is_set_word, runs_spelled, set_spelled}
pub use Rattle.sz_cells.specs.Words.{cells_at}
pub use Rattle.sz_cells.specs.declared.Cell.{Cell}
pub use Rattle.sz_frame.specs.Fits.{AreApart}
pub use Rattle.sz_frame.specs.Parts.{Entry}
pub use Rattle.sz_frame.specs.Single.{IsOnly, is_cell}
pub use Rattle.sz_region.specs.PayBytes.{IsPayWord, IsShort}
pub use Rattle.sz_region.specs.Taking.{number_at, run_at}
pub use Rattle.sz_spec.specs.Lineage.{mapped}
pub use Rattle.sz_spec.specs.Modes.{has_mapping}
pub use Rattle.sz_spec.specs.Operators.Clean.{is_in_square}
pub use Rattle.sz_spec.specs.Payloads.{entry_kept, is_column, is_payload, mapped_by_payload}
pub use Rattle.sz_spec.specs.Rectangles.{is_in_rectangle, is_in_row}
pub use Rattle.sz_spec.specs.Sides.{far_side, image_in, near_side}
pub use Rattle.sz_spec.specs.Values.{extent_at}
pub use Rattle.sz_spec.specs.declared.modes.Dir.TheVariants.{Back, Forward}
pub use Rattle.sz_spec.specs.declared.op.Op.TheVariants.{Lookup}
pub use Rattle.sz_tables.specs.Entries.{entries, entry_at}
pub use Rattle.sz_tables.specs.Filed.{told}
pub use Rattle.sz_tables.specs.Payloads.{payload_at}
pub use Rattle.sz_tables.specs.Rows.{runs_in}
pub use Rattle.sz_tables.specs.Stores.{IsWithin, cells_in, most_given, no_room, room_for_entries}
pub use Rattle.sz_tables.specs.Tables.{AreDifferent}
pub use Rattle.sz_payload.specs.Begins.{AreLawful, BeginsPayloads, IsTableAt, SaysNoPayloads}
pub use Rattle.sz_payload.specs.Kept.{AreAlike, IsClean, IsEntryOf, IsRegions, entries_stand}
pub use Rattle.sz_payload.specs.Kept.{part_of}
pub use Rattle.sz_payload.specs.Looks.{IsDone, IsTested, entries_add, entry_adds, lone}
pub use Rattle.sz_payload.specs.Owned.{AreFilesOf, AreRound, AreSlotsOf, HasCellRoom, IsHeld}
pub use Rattle.sz_payload.specs.Owned.{IsIndexOf, IsOwnerOf, cell_room, owner_capacities, rests}
pub use Rattle.sz_payload.specs.Owned.{room_in, with_cells}
pub use Rattle.sz_payload.specs.Words.{IsBodyOf, IsNoWord}
