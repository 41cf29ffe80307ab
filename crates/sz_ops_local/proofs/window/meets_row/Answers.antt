-- A cell that is met is a part of the row, and one that is not is one column more without a cell of the set.
use Rattle.std.proofs.Common.{◌≡◌, ◌+◌, false, refl, ap, sym, ◌∙◌, arith}
use Rattle.sz_cells.specs.declared.Cell.{Cell}
use Rattle.sz_cells.specs.Cells.{any_cell, is_same}
use Rattle.sz_frame.proofs.Added.{own-at}
use Rattle.sz_ops_local.specs.Windows.{is_between}
use Rattle.sz_frame.proofs.OneCell.{has-one}
use Rattle.sz_frame.proofs.Passing.{met-wider}
use Rattle.sz_ops_local.proofs.WindowCells.{met-no_cols, met-col, cell-in_row}
use Rattle.sz_ops_local.proofs.window.meets_row.Goals as goal

pub loop-col-init : goal.loop-col-init
loop-col-init c = met-no_cols c.args.from.now c.args.row c.args.left

pub returns-then-has : goal.returns-then-has
returns-then-has c =
    let from = c.args.from.now in
    let row = c.args.row in
    let cell : Cell = record { row = row; col = c.loop-col.col } in
    sym (met-wider from (is_same cell) (is_between row (row + 1) c.args.left c.args.right)
    (cell-in_row row c.loop-col.col c.args.left c.args.right c.loop-col.auto.col c.loop-col-test.true)
    (sym (has-one from cell (own-at from from.extent refl c.shape.ensures.rising))
    ∙ sym c.has.ensures ∙ c.if-has.true))

pub loop-col-preserved : goal.loop-col-preserved
loop-col-preserved c =
    let from = c.args.from.now in
    let row = c.args.row in
    let cell : Cell = record { row = row; col = c.loop-col.col } in
    let here : any_cell (is_same cell) from ≡ false =
    sym (has-one from cell (own-at from from.extent refl c.shape.ensures.rising))
    ∙ sym c.has.ensures ∙ c.if-has.false in
    sym (rw (c.loop-col.invariant, here) at (met-col from row c.args.left c.loop-col.col c.loop-col.auto.col))

pub returns : goal.returns
returns c =
    let last : c.loop-col.col ≡ c.args.right = omega (arith, c.requires.cols) in
    sym (ap (λ n. any_cell (is_between c.args.row (c.args.row + 1) c.args.left n) c.args.from.now) (sym last)
    ∙ c.loop-col.invariant)
