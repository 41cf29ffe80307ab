-- The nodes before the index were refreshed, in their order, and as many cells were counted as were affected.
use Rattle.std.proofs.Common.{map}
use Rattle.std.specs.Arc.{arc_value}
use Rattle.sz_flow.specs.Executions.{execution_of}
use Rattle.sz_refresh.proofs.Nodes.{IsSoFar}
use Rattle.sz_refresh.proofs.flow.refresh.Given as goal

abbrev pub invariant-loop-number : goal.invariant-loop-number
invariant-loop-number g l =
    IsSoFar l.flow (map execution_of l.old) (map (λ a. arc_value a) l.base) l.input l.changed
    (map execution_of l.runs.items) l.affected.items l.count l.number
