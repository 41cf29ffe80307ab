-- The first row with an asked cell ends the look.
use Rattle.std.proofs.Common.{sym, ap₂, ◌∙◌, arith, Bool, ◌+◌, ◌||◌}
use Rattle.sz_spec.specs.Rectangles.{is_in_rectangle, is_in_row}
use Rattle.sz_spec.proofs.CodeSquare.{is_in_rows, rows-more}
use Rattle.sz_frame.proofs.Passing.{met-none, met-ext, met-or, met-wider}
use Rattle.sz_payload.proofs.Meeting.{no-rows, row-inside, all-rows}
use Rattle.sz_payload.proofs.clean.rectangle_meets.Goals as goal

pub loop-row-init : goal.loop-row-init
loop-row-init c =
    let b = c.args.bounds in
    met-none c.args.from.now (is_in_rows b.top b.top b.left b.right) (no-rows b.top b.left b.right)

pub returns-then-row_meets : goal.returns-then-row_meets
returns-then-row_meets c =
    let b = c.args.bounds in
    let row = c.loop-row.row in
    sym
    (met-wider c.args.from.now (is_in_row row b.left b.right) (is_in_rectangle b)
    (λ x inside. row-inside b row x (omega (arith, c.loop-row.auto.row)) (omega arith) inside)
    (sym c.row_meets.ensures ∙ c.if-row_meets.true))

pub loop-row-preserved : goal.loop-row-preserved
loop-row-preserved c =
    let b = c.args.bounds in
    let row = c.loop-row.row in
    sym
    (met-or c.args.from.now (is_in_rows b.top row b.left b.right) (is_in_row row b.left b.right)
    (is_in_rows b.top (row + 1) b.left b.right) (λ x. rows-more b.top row b.left b.right x (omega (
      arith,
      c.loop-row.auto.row,
    ))))
    ∙ ap₂ (λ (p q : Bool). p || q) c.loop-row.invariant (sym c.row_meets.ensures ∙ c.if-row_meets.false)

pub returns : goal.returns
returns c =
    let b = c.args.bounds in
    sym
    (met-ext c.args.from.now (is_in_rectangle b) (is_in_rows b.top c.loop-row.row b.left b.right)
    (all-rows b c.loop-row.row (omega arith))
    ∙ c.loop-row.invariant)
