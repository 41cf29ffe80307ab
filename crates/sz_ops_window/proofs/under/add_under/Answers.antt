-- Each tap adds the cell to which it leads.
use Rattle.std.proofs.Common.{◌≡◌, true, refl, sym, ap, subst, ◌∙◌, arith}
use Rattle.std.specs.Prelude.{IfSome}
use Rattle.sz_cells.specs.Extent.{Extent, holds}
use Rattle.sz_cells.specs.Cells.{Cells}
use Rattle.sz_frame.proofs.Added.{own-at}
use Rattle.sz_ops_window.proofs.Taps.{led-start, led-step, led-end, tap-count}
use Rattle.sz_ops_window.proofs.under.add_under.Goals as goal

pub loop-number-init : goal.loop-number-init
loop-number-init c =
    let to = c.args.to.now in
    led-start to c.args.dir c.args.shape c.args.mask.now c.args.cell (own-at to to.extent refl c.shape.ensures.rising)

pub add_cell-requires : goal.add_cell-requires
add_cell-requires c =
    let same : c.loop-number.to.extent ≡ c.args.shape =
    ap (λ (s : Cells). s.extent) c.loop-number.invariant ∙ c.requires.to in
    subst (λ (e : Extent). IfSome c.led_to.result (λ x. holds e x ≡ true))
    (c.of-middle.ensures.shape ∙ sym same) c.led_to.ensures.held

pub loop-number-preserved : goal.loop-number-preserved
loop-number-preserved c =
    led-step c.args.to.now c.loop-number.to c.add_cell.new.to c.args.dir c.args.shape c.args.mask.now c.args.cell
    c.loop-number.number c.led_to.result c.requires.to c.loop-number.invariant
    (rw (← c.of-middle.ensures.shape, ← c.of-middle.ensures.cell) c.led_to.ensures.only) c.add_cell.ensures

pub returns : goal.returns
returns c =
    led-end c.args.to.now c.loop-number.to c.args.dir c.args.shape c.args.mask.now c.args.cell c.loop-number.number
    (omega (arith, tap-count _ _ c.mask.view_is)) c.loop-number.invariant
