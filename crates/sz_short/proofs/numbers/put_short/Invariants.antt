-- So much of the number was written, and what is left is the rest.
use Rattle.std.proofs.Common.{◌≡◌, ℕ, List, ◌++◌}
use Rattle.sz_short.proofs.ShortNumbers.{IsLeft}
use Rattle.sz_short.proofs.numbers.put_short.Given as goal

abbrev pub invariant-loop-rest : goal.invariant-loop-rest
invariant-loop-rest l = record {
  done : List ℕ;
  items : l.to.items ≡ l.fn.to.items ++ done;
  left : IsLeft l.number done l.rest;
}

abbrev pub decreases-loop-rest : goal.decreases-loop-rest
decreases-loop-rest l = l.rest
