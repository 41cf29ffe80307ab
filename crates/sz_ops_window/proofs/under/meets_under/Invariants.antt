-- None of the cells to which the first taps lead is in the set.
use Rattle.std.proofs.Common.{◌≡◌, false}
use Rattle.sz_cells.specs.Cells.{any_cell}
use Rattle.sz_spec.specs.declared.modes.Dir.TheVariants.{Back}
use Rattle.sz_ops_window.specs.Taps.{led_before}
use Rattle.sz_ops_window.proofs.under.meets_under.Given as goal

abbrev pub invariant-loop-number : goal.invariant-loop-number
invariant-loop-number l = any_cell (led_before Back l.fn.shape l.fn.mask l.fn.cell l.number) l.fn.from ≡ false
