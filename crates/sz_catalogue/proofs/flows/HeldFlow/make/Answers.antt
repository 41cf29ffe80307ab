-- The first lists are those of the flow's nodes.
use Rattle.sz_catalogue.proofs.NodeLists.{firsts-right}
use Rattle.sz_catalogue.proofs.flows.HeldFlow.make.Goals as goal

pub invariant_of-result : goal.invariant_of-result
invariant_of-result c =
    record {
      right = rw c.in_ok-flow.ensures c.requires;
      lists = rw (c.in_ok-flow.ensures, c.in_ok-lists.ensures, c.nodes.ensures) (firsts-right c.args.flow.nodes);
    }
