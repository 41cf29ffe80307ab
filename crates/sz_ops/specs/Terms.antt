-- The words that clauses of this crate are written in, each from the file that defines it.
pub use Rattle.std.specs.Arc.{arc_value}
pub use Rattle.std.specs.Prelude.{All, IfOk, OnErr, OnOk, length, map, true}
pub use Rattle.sz_cells.specs.Cells.{has, with_those}
pub use Rattle.sz_cells.specs.Extent.{holds, size_of}
pub use Rattle.sz_frame.specs.Fits.{Fits}
pub use Rattle.sz_frame.specs.Images.{measure_of}
pub use Rattle.sz_frame.specs.Written.{cells_in_piece, parts_by}
pub use Rattle.sz_spec.specs.Evaluation.{output_of, value_of}
pub use Rattle.sz_spec.specs.Lineage.{mapped, related}
pub use Rattle.sz_spec.specs.Modes.{has_mapping, supports}
pub use Rattle.sz_spec.specs.Pieces.{pieces_of}
pub use Rattle.sz_spec.specs.Sides.{far_side, image_in, near_side}
pub use Rattle.sz_spec.specs.Values.{extents_of}
pub use Rattle.sz_ops.specs.Aids.{aid_of}
