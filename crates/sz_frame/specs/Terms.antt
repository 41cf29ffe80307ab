-- The words that clauses of this crate are written in, each from the file that defines it.
pub use Rattle.std.specs.Arc.{arc_value}
pub use Rattle.std.specs.Int.{int_max, int_min}
pub use Rattle.std.specs.List.{list_any, reduce}
pub use Rattle.std.specs.Prelude.{All, IfOk, IfSome, List, OnErr, OnOk, Option, Some, [], false}
pub use Rattle.std.specs.Prelude.{length, map, true, ℕ, ℤ}
pub use Rattle.sz_cells.specs.Cells.{any_cell, cells_where, has, with_those}
pub use Rattle.sz_cells.specs.Extent.{cell_of, holds, index_of, size_of}
pub use Rattle.sz_cells.specs.Runs.{AreRunsFrom, covers}
pub use Rattle.sz_spec.specs.Evaluation.{output_of, value_of}
pub use Rattle.sz_spec.specs.LawsShapes.{AreExtents}
pub use Rattle.sz_spec.specs.Lineage.{mapped, related}
pub use Rattle.sz_spec.specs.Modes.{has_mapping, supports}
pub use Rattle.sz_spec.specs.Operators.Folds.{fold_of}
pub use Rattle.sz_spec.specs.Payloads.{overrides, payload_of}
pub use Rattle.sz_spec.specs.Pieces.{pieces_of}
pub use Rattle.sz_spec.specs.Shapes.{IsSite, Site}
pub use Rattle.sz_spec.specs.Sides.{far_side, image_in, near_side}
pub use Rattle.sz_spec.specs.Values.{Grid, extent_at, extents_of, input_at}
pub use Rattle.sz_spec.specs.Work.{IsAtWork}
pub use Rattle.sz_frame.specs.Fits.{Fits, is_mode, needs}
pub use Rattle.sz_frame.specs.Folding.{numbers_in, summary_of}
pub use Rattle.sz_frame.specs.Groups.{group_at, is_first, is_kind, is_with, keeping_of, leads}
pub use Rattle.sz_frame.specs.Groups.{lineage_kind, payload_kind}
pub use Rattle.sz_frame.specs.Images.{measure_of, related_cells}
pub use Rattle.sz_frame.specs.Laws.{EachCellHasOnePayload, OverridesOfAllPiecesAreTheRelation}
pub use Rattle.sz_frame.specs.Laws.{PayloadsOfAllPiecesAreTheRelation}
pub use Rattle.sz_frame.specs.Laws.{RegionsOfAllPiecesAreTheRelation, WhatIsKeptIsRight}
pub use Rattle.sz_frame.specs.Parts.{most_entries, no_parts}
pub use Rattle.sz_frame.specs.Single.{is_cell}
pub use Rattle.sz_frame.specs.Walks.{steps, traced, values_before}
pub use Rattle.sz_frame.specs.Written.{cells_in_piece, comp_keeping, entries_by, entry_by}
pub use Rattle.sz_frame.specs.Written.{full_keeping, keepings, parts_by, pay_keeping, region_by}
pub use Rattle.sz_frame.specs.Written.{regions_by, with_entries}
