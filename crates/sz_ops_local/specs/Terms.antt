-- The words that clauses of this crate are written in, each from the file that defines it.
pub use Rattle.std.specs.Arc.{arc_value}
pub use Rattle.std.specs.Int.{int_max, int_min}
pub use Rattle.std.specs.List.{list_any, zip}
pub use Rattle.std.specs.Prelude.{IfOk, List, OnOk, Option, Some, [], length, map, nat_le, nat_lt}
pub use Rattle.std.specs.Prelude.{neg_ℤ, true, ℕ, ℤ}
pub use Rattle.sz_cells.specs.Cells.{any_cell, cells_where, has, is_same, with_those}
pub use Rattle.sz_cells.specs.Extent.{height_of, holds, index_of, size_of}
pub use Rattle.sz_cells.specs.declared.Cell.{Cell}
pub use Rattle.sz_frame.specs.Folding.{summary_of}
pub use Rattle.sz_frame.specs.Single.{IsOnly}
pub use Rattle.sz_frame.specs.Walks.{values_before}
pub use Rattle.sz_spec.specs.Evaluation.{of_one, of_two, output_of, value_of}
pub use Rattle.sz_spec.specs.LawsShapes.{AreExtents}
pub use Rattle.sz_spec.specs.Lineage.{mapped, mapped_between}
pub use Rattle.sz_spec.specs.Operators.Elementwise.{absolute, clipped}
pub use Rattle.sz_spec.specs.Operators.Folds.{blocks_over, fold_of}
pub use Rattle.sz_spec.specs.Shapes.{IsSite, arity}
pub use Rattle.sz_spec.specs.Sides.{far_side, image_in, near_side}
pub use Rattle.sz_spec.specs.Values.{Grid, extent_at, fit, input_at, numbers_at, value_at}
pub use Rattle.sz_spec.specs.Values.{with_number, with_numbers}
pub use Rattle.sz_spec.specs.Work.{IsAtWork}
pub use Rattle.sz_spec.specs.declared.op.Op.TheVariants.{Block}
pub use Rattle.sz_ops_local.specs.Local.{is_elementwise}
pub use Rattle.sz_ops_local.specs.Windows.{IsBlocked, IsWindow, is_between, is_in}
