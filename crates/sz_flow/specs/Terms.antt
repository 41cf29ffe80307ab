-- The words that clauses of this crate are written in, each from the file that defines it.
pub use Rattle.std.specs.Arc.{arc_value}
pub use Rattle.std.specs.Prelude.{All, IfOk, Ok, length, map, true}
pub use Rattle.sz_cells.specs.Extent.{Extent, cell_of, flat, size_of}
pub use Rattle.sz_frame.specs.Walks.{values_before}
pub use Rattle.sz_ops.specs.Aids.{aid_of}
pub use Rattle.sz_spec.specs.Evaluation.{output_of, value_of}
pub use Rattle.sz_spec.specs.Flows.{array_of, is_source, is_well_formed}
pub use Rattle.sz_spec.specs.LawsFlows.{IsRightNode}
pub use Rattle.sz_spec.specs.Shapes.{arity, has_right_parameters, shape_of}
pub use Rattle.sz_spec.specs.Values.{extents_of}
pub use Rattle.sz_flow.specs.Executions.{FlowFits, execution, execution_of, executions, site_over}
pub use Rattle.sz_flow.specs.Laws.{EachNodeHasAnExecution, ExecutionsAreRight}
pub use Rattle.sz_flow.specs.Laws.{ExecutionsAreThoseOfTheirNodes, OutputsAreTheEvaluations}
pub use Rattle.sz_flow.specs.Nodes.{NodeFits, inputs_among}
