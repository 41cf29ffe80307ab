-- The sum has what the rows so far add.
use Rattle.std.proofs.Common.{◌≡◌, ◌*◌, Some}
use Rattle.sz_ops_window.specs.Sums.{sum_from, IsWithin}
use Rattle.sz_ops_window.proofs.convolve.sum_of_rows.Given as goal

abbrev pub invariant-loop-row : goal.invariant-loop-row
invariant-loop-row l =
    (Some l.sum ≡ sum_from l.fn.array l.fn.mask l.fn.out 0 (l.row * l.fn.mask.cols)) × IsWithin (l.row * 9) l.sum
