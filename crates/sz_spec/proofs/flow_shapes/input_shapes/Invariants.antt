-- The shapes so far are those of the sources so far.
use Rattle.std.proofs.Common.{◌≡◌, map, take}
use Rattle.sz_spec.specs.FlowShapes.{source_shape}
use Rattle.sz_spec.proofs.flow_shapes.input_shapes.Given as goal

abbrev pub invariant-loop-source : goal.invariant-loop-source
invariant-loop-source l =
    l.shapes.items ≡ map (source_shape l.base l.outputs) (take l.source-index l.from)
