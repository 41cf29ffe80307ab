-- Each tap puts the cell to which it leads behind the others.
use Rattle.std.proofs.Common.{◌∙◌, arith}
use Rattle.sz_ops_window.proofs.Taps.{lists-more, lists-none, lists-all, tap-count}
use Rattle.sz_ops_window.proofs.under.set_under.Goals as goal

pub loop-number-init : goal.loop-number-init
loop-number-init c =
    lists-none c.args.shape c.args.mask.now c.args.cell c.new-cells.result.items c.new-cells.ensures.items

pub loop-number-preserved : goal.loop-number-preserved
loop-number-preserved c =
    lists-more c.args.shape c.args.mask.now c.args.cell c.loop-number.number c.loop-number.cells.items
    c.push_cell.new.cells.items c.led_to.result c.loop-number.invariant
    (rw (← c.of-middle.ensures.shape) c.led_to.ensures.held)
    (rw (← c.of-middle.ensures.shape, ← c.of-middle.ensures.cell) c.led_to.ensures.only) c.in_ok-push_cell.ensures

pub from_cells-requires : goal.from_cells-requires
from_cells-requires c = record { held = rw c.deref.ensures.value c.loop-number.invariant.held }

pub returns : goal.returns
returns c =
    c.in_ok-new.ensures.ok ∙ c.in_ok-set.ensures
    ∙ (rw c.deref.ensures.value (lists-all c.args.shape c.args.mask.now c.args.cell c.loop-number.number
    c.loop-number.cells.items (omega (arith, tap-count _ _ c.mask.view_is)) c.loop-number.invariant))
