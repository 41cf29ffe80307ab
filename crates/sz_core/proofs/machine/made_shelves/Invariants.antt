-- The shelves so far are those of the first nodes.
use Rattle.std.proofs.Common.{◌≡◌, length, map}
use Rattle.std.specs.List.{range_with_len}
use Rattle.sz_core.specs.Starts.{first_shelf}
use Rattle.sz_core.proofs.machine.made_shelves.Given as goal

abbrev pub invariant-loop-pairs : goal.invariant-loop-pairs
invariant-loop-pairs l = l.made.items ≡ map (first_shelf l.flow l.base l.fn.shelves.items)
    (range_with_len 0 (length l.yielded))
