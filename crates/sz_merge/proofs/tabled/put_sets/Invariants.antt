-- The sets of the kinds before this number are put.
use Rattle.std.proofs.Common.{◌+◌, ◌*◌, ◌≤◌, [], ◌∷◌, length}
use Rattle.sz_merge.specs.Lineages.{lists_of}
use Rattle.sz_merge.specs.Marks.{AreSetsPut, kinds_below}
use Rattle.sz_merge.proofs.tabled.put_sets.Given as goal

abbrev pub invariant-loop-number : goal.invariant-loop-number
invariant-loop-number l = record {
  put : AreSetsPut l.names.items (kinds_below l.out l.groups (lists_of (l.behind.extent ∷ []) l.behind.sets)
      (l.number + 1)) l.initial.to.items l.to.items;
  few : length l.names.items ≤ l.number * 2;
}
