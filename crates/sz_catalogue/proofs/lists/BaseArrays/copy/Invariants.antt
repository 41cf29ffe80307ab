-- The base arrays so far are the same.
use Rattle.std.proofs.Common.{◌≡◌, take}
use Rattle.sz_catalogue.proofs.lists.BaseArrays.copy.Given as goal

abbrev pub invariant-loop-base : goal.invariant-loop-base
invariant-loop-base l = l.items.items ≡ take l.base-index l.base-items
