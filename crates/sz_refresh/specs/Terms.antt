-- The words that clauses of this crate are written in, each from the file that defines it.
pub use Rattle.std.specs.Arc.{arc_value}
pub use Rattle.std.specs.List.{list_any, slice_get}
pub use Rattle.std.specs.Prelude.{All, Bool, IfOk, IfSome, List, MatchOption, None, OnErr, OnOk, []}
pub use Rattle.std.specs.Prelude.{false, length, map, nat_le, nat_lt, pos, slice_index_or, true}
pub use Rattle.std.specs.Prelude.{unwrap_or, ℕ}
pub use Rattle.sz_cells.specs.Cells.{any_cell, has, is_same, no_cells, with_those}
pub use Rattle.sz_cells.specs.Extent.{Extent, cell_of, holds, index_of, size_of}
pub use Rattle.sz_cells.specs.Runs.{is_in}
pub use Rattle.sz_cells.specs.declared.Cell.{Cell}
pub use Rattle.sz_flow.specs.Executions.{FlowFits, execution, execution_of, executions}
pub use Rattle.sz_flow.specs.Nodes.{inputs_among}
pub use Rattle.sz_frame.specs.Single.{is_cell}
pub use Rattle.sz_frame.specs.Walks.{values_before}
pub use Rattle.sz_ops.specs.Aids.{aid_of}
pub use Rattle.sz_ops_region.specs.Regions.{is_regions}
pub use Rattle.sz_spec.specs.Affected.{affected, affected_by, cells_in}
pub use Rattle.sz_spec.specs.Evaluation.{output_of, value_of}
pub use Rattle.sz_spec.specs.Flows.{is_well_formed}
pub use Rattle.sz_spec.specs.LawsFlows.{IsRightNode}
pub use Rattle.sz_spec.specs.LawsShapes.{AreExtents}
pub use Rattle.sz_spec.specs.Lineage.{related}
pub use Rattle.sz_spec.specs.Modes.{has_mapping}
pub use Rattle.sz_spec.specs.Operators.Clean.{is_in_square}
pub use Rattle.sz_spec.specs.Values.{Grid, extent_at, extents_of}
pub use Rattle.sz_spec.specs.Work.{IsAtWork}
pub use Rattle.sz_spec.specs.declared.op.Op.TheVariants.{Clean, Lookup}
pub use Rattle.sz_refresh.specs.Before.{IsBefore}
pub use Rattle.sz_refresh.specs.Changes.{HaveShapes, changed_from, is_before, is_changed, reaches}
pub use Rattle.sz_refresh.specs.Laws.{AffectedCellsAreReachedForward}
pub use Rattle.sz_refresh.specs.Laws.{AffectedCellsAreThoseOfTheirNodes}
pub use Rattle.sz_refresh.specs.Laws.{EachNodeHasItsAffectedCells, OtherCellsKeepTheirValues}
pub use Rattle.sz_refresh.specs.Names.{EndAfter, LieWithin, first_of, has_named, index_above}
pub use Rattle.sz_refresh.specs.Names.{is_named, named}
pub use Rattle.sz_refresh.specs.Outputs.{KeepsOthers, renewed}
pub use Rattle.sz_refresh.specs.Whole.{has_middle, reaches_all}
