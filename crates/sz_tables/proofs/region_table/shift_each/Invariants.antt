-- The key idea: the numbers of the rows before the index are written.
use Rattle.std.proofs.Common.{◌≡◌, length}
use Rattle.std.specs.List.{flat_map, range_with_len}
use Rattle.sz_tables.specs.Listing.{shifted, numbers_at}
use Rattle.sz_tables.proofs.region_table.shift_each.Given as goal

abbrev pub invariant-loop-row : goal.invariant-loop-row
invariant-loop-row l =
    l.to.items ≡ flat_map (λ n. shifted l.starts (numbers_at (length l.starts) l.names n)) (range_with_len 0 l.row)
