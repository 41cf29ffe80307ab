-- The bytes so far are those of the number of rows and of the numbers before this one.
use Rattle.std.proofs.Common.{◌≡◌, ◌/◌, ◌++◌, length, take}
use Rattle.std.specs.List.{flat_map}
use Rattle.sz_cells.specs.SetBytes.{four_bytes}
use Rattle.sz_region.proofs.numbers.put_rows.Given as goal

abbrev pub invariant-loop-number : goal.invariant-loop-number
invariant-loop-number l =
    l.to.items ≡ l.fn.to.items ++ (four_bytes (length l.numbers / l.width) ++ flat_map four_bytes
    (take l.number-index l.numbers))
