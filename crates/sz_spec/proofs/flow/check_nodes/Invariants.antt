-- The nodes so far have no fault, so the first one is that of the rest.
use Rattle.std.proofs.Common.{◌≡◌, drop}
use Rattle.sz_spec.specs.Flows.{nodes_fault}
use Rattle.sz_spec.proofs.flow.check_nodes.Given as goal

abbrev pub invariant-loop-number : goal.invariant-loop-number
invariant-loop-number l = nodes_fault l.inputs 0 l.nodes ≡ nodes_fault l.inputs l.number (drop l.number l.nodes)
