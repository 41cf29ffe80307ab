-- The lists so far are those of the nodes so far.
use Rattle.std.proofs.Common.{◌≡◌, map, take}
use Rattle.sz_catalogue.specs.Starts.{first_list}
use Rattle.sz_catalogue.proofs.strategies.first_lists.Given as goal

abbrev pub invariant-loop-node : goal.invariant-loop-node
invariant-loop-node l = l.lists.items ≡ map first_list (take l.node-index l.nodes)
