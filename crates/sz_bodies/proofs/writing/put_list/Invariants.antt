-- The bytes so far are how many strategies there are, and the numbers of those before the index.
use Rattle.std.proofs.Common.{◌≡◌, ◌∷◌, ◌++◌, length, map, take}
use Rattle.sz_spec.specs.Modes.{number_of}
use Rattle.sz_bodies.proofs.writing.put_list.Given as goal

abbrev pub invariant-loop-strategy : goal.invariant-loop-strategy
invariant-loop-strategy l =
    l.to.items ≡ l.fn.to.items ++ (length l.list ∷ map number_of (take l.strategy-index l.list))
