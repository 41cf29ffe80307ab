-- The words that clauses of this crate are written in, each from the file that defines it.
pub use Rattle.std.specs.Arc.{arc_value}
pub use Rattle.std.specs.List.{list_any}
pub use Rattle.std.specs.Option.{option_map_or}
pub use Rattle.std.specs.Prelude.{IfOk, IfSome, None, OnOk, Option, Some, [], length, map}
pub use Rattle.std.specs.Prelude.{option_map, slice_index_or, true, vec_capacity, vec_len, ℕ, ℤ}
pub use Rattle.sz_cells.specs.Cells.{any_cell, cells_where, is_same, with_those}
pub use Rattle.sz_cells.specs.Extent.{cell_in, height_of, holds, is_extent, layer_of, row_in}
pub use Rattle.sz_cells.specs.Extent.{size_of}
pub use Rattle.sz_cells.specs.SetBytes.{four_bytes}
pub use Rattle.sz_cells.specs.declared.Cell.{Cell}
pub use Rattle.sz_frame.specs.Groups.{kind_of}
pub use Rattle.sz_frame.specs.Single.{IsOnly}
pub use Rattle.sz_frame.specs.Walks.{values_before}
pub use Rattle.sz_spec.specs.Evaluation.{output_of, value_in, value_of}
pub use Rattle.sz_spec.specs.Lineage.{mapped, related}
pub use Rattle.sz_spec.specs.Operators.Folds.{fold_of}
pub use Rattle.sz_spec.specs.Operators.Lookup.{column_of, entry_at, looked_up, match_of}
pub use Rattle.sz_spec.specs.Shapes.{IsSite}
pub use Rattle.sz_spec.specs.Values.{extent_at, input_at, numbers_at}
pub use Rattle.sz_spec.specs.Work.{IsAtWork}
pub use Rattle.sz_spec.specs.declared.op.Op.TheVariants.{FoldLayers, Lookup, Slice, Transpose}
pub use Rattle.sz_ops_move.specs.Entries.{entry_of}
pub use Rattle.sz_ops_move.specs.Moving.{is_in_line, is_mapping, is_single}
pub use Rattle.sz_ops_move.specs.Turning.{IsStrip}
