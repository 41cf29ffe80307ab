-- The sum has what the columns so far add.
use Rattle.std.proofs.Common.{◌≡◌, ◌+◌, ◌*◌, Some}
use Rattle.sz_ops_window.specs.Sums.{sum_from, IsWithin}
use Rattle.sz_ops_window.proofs.convolve.sum_of_row.Given as goal

abbrev pub invariant-loop-k : goal.invariant-loop-k
invariant-loop-k l =
    (Some l.sum ≡ sum_from l.fn.array l.fn.mask l.fn.out (l.fn.row * l.fn.mask.cols + l.fn.reach.left) l.k)
    × IsWithin l.k l.sum
