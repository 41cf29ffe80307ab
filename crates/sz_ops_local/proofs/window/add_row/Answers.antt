-- The run of the row's indexes is the row between the columns.
use Rattle.std.proofs.Common.{ℕ, ◌+◌, ◌-◌, ◌*◌, ◌<◌, ◌≤◌, ap, sym, ◌∙◌}
use Rattle.sz_cells.specs.Extent.{Extent}
use Rattle.sz_ops_local.proofs.WindowCells.{added-run}
use Rattle.sz_ops_local.proofs.window.add_row.Goals as goal

pub returns : goal.returns
returns c =
    let at : ℕ → Extent → ℕ = λ col e. c.args.row * e.cols + col in
    let first = c.index.ensures.value ∙ ap (at c.args.left) (sym c.requires.to) in
    let last = c.index-2.ensures.value ∙ ap (at (c.args.right - 1)) (sym c.requires.to) in
    let inside : c.args.row < c.args.to.now.extent.rows = rw c.requires.to c.requires.row in
    let wide : c.args.right ≤ c.args.to.now.extent.cols = rw c.requires.to c.requires.right in
    c.add_run.ensures
    ∙ (rw (first, last) (added-run c.args.to.now c.args.row c.args.left c.args.right inside c.requires.cols wide))
