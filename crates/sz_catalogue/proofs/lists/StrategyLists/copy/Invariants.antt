-- The lists so far are the same.
use Rattle.std.proofs.Common.{◌≡◌, take}
use Rattle.sz_catalogue.proofs.lists.StrategyLists.copy.Given as goal

abbrev pub invariant-loop-list : goal.invariant-loop-list
invariant-loop-list l = l.items.items ≡ take l.list-index l.list-items
