-- The words that clauses of this crate are written in, each from the file that defines it.
pub use Rattle.std.specs.Arc.{arc_value}
pub use Rattle.std.specs.Int.RustNames.{unsigned_abs}
pub use Rattle.std.specs.Option.{option_to_list}
pub use Rattle.std.specs.Prelude.{IfOk, IfSome, None, OnOk, Option, [], false, is_none, length, map}
pub use Rattle.std.specs.Prelude.{min, not, pos, slice_index_or, true, ℕ}
pub use Rattle.sz_cells.specs.Cells.{any_cell, cells_where, with_those}
pub use Rattle.sz_cells.specs.Extent.{cell_of, holds, is_extent, layer_of, row_in, size_of}
pub use Rattle.sz_cells.specs.declared.Cell.{Cell}
pub use Rattle.sz_frame.specs.Single.{IsOnly}
pub use Rattle.sz_frame.specs.Walks.{steps, values_before}
pub use Rattle.sz_spec.specs.Evaluation.{output_of, value_of}
pub use Rattle.sz_spec.specs.Lineage.{related}
pub use Rattle.sz_spec.specs.Operators.Clean.{cleaned_at, is_hot, is_in_square}
pub use Rattle.sz_spec.specs.Operators.Convolve.{convolved_at, is_convolved}
pub use Rattle.sz_spec.specs.Shapes.{IsSite}
pub use Rattle.sz_spec.specs.Values.{fit, input_at}
pub use Rattle.sz_spec.specs.Weights.{is_kernel, is_weight, is_zero, tap_at}
pub use Rattle.sz_spec.specs.Work.{IsAtWork}
pub use Rattle.sz_spec.specs.declared.op.Op.TheVariants.{Clean, Convolve}
pub use Rattle.sz_ops_window.specs.Least.{is_in_window, with_row, with_rows, with_value}
pub use Rattle.sz_ops_window.specs.Sums.{IsWithin, reach_of, sum_from, times}
pub use Rattle.sz_ops_window.specs.Sweeps.{AreNumbers, ArePlain, AreSums, AreVoids, AreWhole}
pub use Rattle.sz_ops_window.specs.Sweeps.{IsSmooth, is_small, number_of, unless}
pub use Rattle.sz_ops_window.specs.Taps.{leads, moved, nine, one}
pub use Rattle.sz_ops_window.specs.Windowed.{is_windowed}
