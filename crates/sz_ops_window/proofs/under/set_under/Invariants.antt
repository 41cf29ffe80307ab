-- The list has just the cells to which the first taps lead.
use Rattle.sz_ops_window.proofs.Taps.{Lists}
use Rattle.sz_ops_window.proofs.under.set_under.Given as goal

abbrev pub invariant-loop-number : goal.invariant-loop-number
invariant-loop-number l = Lists l.fn.shape l.fn.mask l.fn.cell l.number l.cells.items
