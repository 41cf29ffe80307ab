-- The words that clauses of this crate are written in, each from the file that defines it.
pub use Rattle.std.specs.Arc.{arc_value}
pub use Rattle.std.specs.List.{range_with_len}
pub use Rattle.std.specs.Prelude.{All, IfNone, IfOk, IfSome, OnErr, OnOk, Some, [], false, is_some}
pub use Rattle.std.specs.Prelude.{length, map, nat_le, nat_lt, pos, slice_index, slice_index_or}
pub use Rattle.std.specs.Prelude.{slice_set, true, ℕ}
pub use Rattle.sz_cells.specs.Cells.{Cells, any_cell, has, is_same, with_those}
pub use Rattle.sz_cells.specs.Extent.{cell_of, height_of, holds, index_of, layer_of, size_of}
pub use Rattle.sz_cells.specs.SetBytes.{set_bytes}
pub use Rattle.sz_cells.specs.declared.Cell.{Cell}
pub use Rattle.sz_frame.specs.Fits.{Fits}
pub use Rattle.sz_frame.specs.Groups.{least_of}
pub use Rattle.sz_frame.specs.Images.{measure_of}
pub use Rattle.sz_frame.specs.Walks.{traced}
pub use Rattle.sz_frame.specs.Written.{cells_in_piece, parts_by}
pub use Rattle.sz_spec.specs.Evaluation.{output_of, value_of}
pub use Rattle.sz_spec.specs.LawsShapes.{AreExtents}
pub use Rattle.sz_spec.specs.Lineage.{related}
pub use Rattle.sz_spec.specs.Modes.{supports}
pub use Rattle.sz_spec.specs.Operators.Clean.{is_at_least}
pub use Rattle.sz_spec.specs.Operators.Regions.{are_neighbours, component_of, is_high, label_of}
pub use Rattle.sz_spec.specs.Operators.Regions.{labelled_at}
pub use Rattle.sz_spec.specs.Pieces.{pieces_of}
pub use Rattle.sz_spec.specs.Shapes.{IsSite}
pub use Rattle.sz_spec.specs.Sides.{far_side, image_in, near_side}
pub use Rattle.sz_spec.specs.Values.{extent_at, extents_of, input_at}
pub use Rattle.sz_spec.specs.Work.{IsAtWork}
pub use Rattle.sz_spec.specs.declared.modes.Dir.TheVariants.{Back}
pub use Rattle.sz_spec.specs.declared.op.Op.TheVariants.{Regions}
pub use Rattle.sz_ops_region.specs.Linking.{AreLinked, IsWordOn}
pub use Rattle.sz_ops_region.specs.Links.{AreLinks, AreRoots, HasLink, IsWordBeside, KeepLinks}
pub use Rattle.sz_ops_region.specs.Links.{label_by, merged, merged_by, word_on}
pub use Rattle.sz_ops_region.specs.Marks.{mark_at, mark_in, number_of}
pub use Rattle.sz_ops_region.specs.Numbers.{AreFirsts, AreGrouped, AreLabels, AreNumbers, AreUsed}
pub use Rattle.sz_ops_region.specs.Parts.{IsPartAt}
pub use Rattle.sz_ops_region.specs.Prepared.{sets_in}
pub use Rattle.sz_ops_region.specs.Regions.{aid_of, components_of, is_regions}
pub use Rattle.sz_ops_region.specs.Sets.{AreLists, HasRuns, cells_numbered}
pub use Rattle.sz_ops_region.specs.Sides.{IsBandOf, is_on}
pub use Rattle.sz_ops_region.specs.Stretches.{AreStretches}
pub use Rattle.sz_ops_region.specs.Tracing.{AreMarked, first_index}
