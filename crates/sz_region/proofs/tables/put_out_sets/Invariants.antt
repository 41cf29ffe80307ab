-- The bytes so far are those of the number of sets and of the sets before this one.
use Rattle.std.proofs.Common.{◌≡◌, ◌++◌, length, map, take}
use Rattle.std.specs.List.{flat_map}
use Rattle.sz_cells.specs.SetBytes.{four_bytes, set_bytes}
use Rattle.sz_region.proofs.tables.put_out_sets.Given as goal

abbrev pub invariant-loop-set : goal.invariant-loop-set
invariant-loop-set l =
    l.to.items ≡ l.fn.to.items ++ (four_bytes (length l.sets) ++ flat_map set_bytes
    (map (λ s. s.set) (take l.set-index l.sets)))
