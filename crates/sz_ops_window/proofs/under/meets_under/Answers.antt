-- A cell that is met settles the answer, and one that is not leaves it open.
use Rattle.std.proofs.Common.{◌≡◌, refl, sym, ◌∙◌, arith}
use Rattle.sz_frame.proofs.Added.{own-at}
use Rattle.sz_frame.proofs.Passing.{met-none}
use Rattle.sz_spec.specs.declared.modes.Dir.TheVariants.{Back}
use Rattle.sz_cells.specs.Cells.{cells_where, has}
use Rattle.sz_frame.specs.Single.{IsOnly}
use Rattle.sz_ops_window.specs.Taps.{leads, led_before}
use Rattle.sz_ops_window.proofs.Taps.{meets-some, meets-step, meets-none, tap-count}
use Rattle.sz_ops_window.proofs.under.meets_under.Goals.{After-led_to}
use Rattle.sz_ops_window.proofs.under.meets_under.Goals as goal

own : (c : After-led_to) → c.args.from.now ≡ cells_where c.args.shape (has c.args.from.now)
own c = own-at c.args.from.now c.args.shape c.requires.from c.shape.ensures.rising

led : (c : After-led_to)
    → IsOnly c.args.shape (leads Back c.args.shape c.args.mask.now c.args.cell c.loop-number.number) c.led_to.result
led c = rw (← c.of-middle.ensures.shape, ← c.of-middle.ensures.cell) c.led_to.ensures.only

pub loop-number-init : goal.loop-number-init
loop-number-init c =
    met-none c.args.from.now (led_before Back c.args.shape c.args.mask.now c.args.cell 0) (λ x. refl)

pub returns-then-has_cell : goal.returns-then-has_cell
returns-then-has_cell c =
    let s = (goal.at.returns-then-has_cell c).After-led_to in
    meets-some c.args.from.now c.args.shape c.args.mask.now c.args.cell c.loop-number.number c.led_to.result (own s)
    (led s) (omega (arith, tap-count _ _ c.mask.view_is)) (sym c.has_cell.ensures ∙ c.if-has_cell.true)

pub loop-number-preserved : goal.loop-number-preserved
loop-number-preserved c =
    let s = (goal.at.loop-number-preserved c).After-led_to in
    meets-step c.args.from.now c.args.shape c.args.mask.now c.args.cell c.loop-number.number c.led_to.result (own s)
    (led s) c.loop-number.invariant (sym c.has_cell.ensures ∙ c.if-has_cell.false)

pub returns : goal.returns
returns c =
    meets-none c.args.from.now c.args.shape c.args.mask.now c.args.cell c.loop-number.number
    (omega (arith, tap-count _ _ c.mask.view_is)) c.loop-number.invariant
