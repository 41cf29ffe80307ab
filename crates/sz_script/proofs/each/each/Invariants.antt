-- What is said so far is what the items so far say.
use Rattle.sz_script.proofs.ItemsRead.{IsReadUpTo}
use Rattle.sz_script.proofs.each.each.Given as goal

abbrev pub invariant-loop-item : goal.invariant-loop-item
invariant-loop-item g l = IsReadUpTo g.T.Listed.said l.list l.item-index l.said.items
