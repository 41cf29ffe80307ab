-- A row that is met is a part of the window, and one that is not is one row more without a cell of the set.
use Rattle.std.proofs.Common.{◌≡◌, ◌+◌, false, ap, sym, ◌∙◌, arith}
use Rattle.sz_cells.specs.Cells.{any_cell}
use Rattle.sz_ops_local.specs.Windows.{is_between, is_in}
use Rattle.sz_frame.proofs.Passing.{met-wider}
use Rattle.sz_ops_local.proofs.WindowCells.{met-first, met-next, row-in_window}
use Rattle.sz_ops_local.proofs.window.meets.Goals as goal

pub loop-row-init : goal.loop-row-init
loop-row-init c = met-first c.args.from.now c.args.window.top c.args.window.left c.args.window.right

pub returns-then-meets_row : goal.returns-then-meets_row
returns-then-meets_row c =
    let w = c.args.window in
    let row = c.loop-row.row in
    sym (met-wider c.args.from.now (is_between row (row + 1) w.left w.right) (is_in w)
    (row-in_window w row c.loop-row.auto.row c.loop-row-test.true)
    (sym c.meets_row.ensures ∙ c.if-meets_row.true))

pub loop-row-preserved : goal.loop-row-preserved
loop-row-preserved c =
    let w = c.args.window in
    let row = c.loop-row.row in
    let here : any_cell (is_between row (row + 1) w.left w.right) c.args.from.now ≡ false =
    sym c.meets_row.ensures ∙ c.if-meets_row.false in
    sym (rw (c.loop-row.invariant, here) at (met-next c.args.from.now w.top row w.left w.right c.loop-row.auto.row))

pub returns : goal.returns
returns c =
    let w = c.args.window in
    let last : c.loop-row.row ≡ w.bottom = omega (arith, c.requires.rows) in
    sym (ap (λ n. any_cell (is_between w.top n w.left w.right) c.args.from.now) (sym last) ∙ c.loop-row.invariant)
