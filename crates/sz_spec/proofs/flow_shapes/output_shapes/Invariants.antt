-- The shapes so far are those that the nodes so far make.
use Rattle.std.proofs.Common.{◌≡◌, length}
use Rattle.std.specs.Prelude.{Ok}
use Rattle.sz_spec.proofs.FlowShapes.{so_far}
use Rattle.sz_spec.proofs.flow_shapes.output_shapes.Given as goal

abbrev pub invariant-loop-number : goal.invariant-loop-number
invariant-loop-number l =
    (so_far l.base l.node-items l.number ≡ Ok l.outputs.items) × (length l.outputs.items ≡ l.number)
