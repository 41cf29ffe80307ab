-- Each row widens the window.
use Rattle.std.proofs.Common.{◌≡◌, refl, ap, ◌∙◌, arith}
use Rattle.sz_cells.specs.Cells.{with_those}
use Rattle.sz_frame.proofs.Added.{own-at}
use Rattle.sz_ops_local.specs.Windows.{is_between}
use Rattle.sz_ops_local.proofs.WindowCells.{added-first, added-next}
use Rattle.sz_ops_local.proofs.window.add.Goals as goal

pub loop-row-init : goal.loop-row-init
loop-row-init c =
    let to = c.args.to.now in
    added-first to c.args.window.top c.args.window.left c.args.window.right
    (own-at to to.extent refl c.shape.ensures.rising)

pub loop-row-preserved : goal.loop-row-preserved
loop-row-preserved c =
    let w = c.args.window in
    c.add_row.ensures
    ∙ (rw c.loop-row.invariant (added-next c.args.to.now w.top c.loop-row.row w.left w.right c.loop-row.auto.row))

pub returns : goal.returns
returns c =
    let w = c.args.window in
    let last : c.loop-row.row ≡ w.bottom = omega (arith, c.requires.window.rows) in
    c.loop-row.invariant ∙ ap (λ n. with_those c.args.to.now (is_between w.top n w.left w.right)) last
