-- The set has the cells to which the first taps lead.
use Rattle.std.proofs.Common.{◌≡◌}
use Rattle.sz_cells.specs.Cells.{with_those}
use Rattle.sz_ops_window.specs.Taps.{led_before}
use Rattle.sz_ops_window.proofs.under.add_under.Given as goal

abbrev pub invariant-loop-number : goal.invariant-loop-number
invariant-loop-number l =
    l.to ≡ with_those l.fn.to (led_before l.fn.dir l.fn.shape l.fn.mask l.fn.cell l.number)
