-- The arrays so far are those of the first sources.
use Rattle.std.proofs.Common.{◌≡◌, map, take}
use Rattle.std.specs.Arc.{arc_value}
use Rattle.sz_spec.specs.Flows.{array_of}
use Rattle.sz_flow.proofs.inputs.inputs_of.Given as goal

abbrev pub invariant-loop-source : goal.invariant-loop-source
invariant-loop-source l =
    (l.source-items ≡ l.node.from)
    × (map (λ a. arc_value a) l.arrays.items
    ≡ map (array_of (map (λ a. arc_value a) l.base) (map (λ r. arc_value r.out) l.earlier))
    (take l.source-index l.source-items))
