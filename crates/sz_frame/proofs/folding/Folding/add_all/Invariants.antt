-- The numbers of the values before the index have been added.
use Rattle.std.proofs.Common.{◌≡◌, ◌+◌, ◌≤◌, List, ◌++◌, take}
use Rattle.std.specs.Prelude.{ℤ}
use Rattle.sz_frame.specs.Folding.{summary_of, numbers_in}
use Rattle.sz_frame.proofs.folding.Folding.add_all.Given as goal

abbrev pub invariant-loop-value : goal.invariant-loop-value
invariant-loop-value l =
    (l.self.count ≤ l.initial.self.count + l.value-index)
    × ((zs : List ℤ) → l.initial.self ≡ summary_of zs
    → l.self ≡ summary_of (zs ++ numbers_in (take l.value-index l.values)))
