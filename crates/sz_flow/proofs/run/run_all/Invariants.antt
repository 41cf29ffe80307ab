-- The nodes before the index were executed, in their order.
use Rattle.std.proofs.Common.{◌≡◌, map}
use Rattle.std.specs.Arc.{arc_value}
use Rattle.sz_flow.specs.Executions.{execution_of}
use Rattle.sz_flow.proofs.Nodes.{IsSoFar}
use Rattle.sz_flow.proofs.run.run_all.Given as goal

abbrev pub invariant-loop-node : goal.invariant-loop-node
invariant-loop-node g l =
    (l.node-items ≡ l.flow.nodes)
    × IsSoFar l.flow (map (λ a. arc_value a) l.base) (map execution_of l.runs.items)
    (map (λ r. arc_value r.out) l.runs.items) l.node-index
