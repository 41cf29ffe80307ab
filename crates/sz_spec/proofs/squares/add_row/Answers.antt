-- The run of the row's indexes is the row between the columns.
use Rattle.std.proofs.Common.{ℕ, ◌+◌, ◌*◌, ◌<◌, sym, ap, ◌∙◌}
use Rattle.sz_cells.specs.Extent.{Extent}
use Rattle.sz_spec.proofs.CodeSquare.{with-run}
use Rattle.sz_spec.proofs.squares.add_row.Goals as goal

pub returns : goal.returns
returns c =
    let at : ℕ → Extent → ℕ = λ col e. c.args.row * e.cols + col in
    let first = c.index.ensures.value ∙ ap (at c.args.left) (sym c.requires.to) in
    let last = c.index-2.ensures.value ∙ ap (at c.args.right) (sym c.requires.to) in
    let right : c.args.right < c.args.to.now.extent.cols = rw c.requires.to c.requires.right in
    c.add_run.ensures
    ∙ (rw (first, last) (with-run c.args.to.now c.args.row c.args.left c.args.right c.requires.cols right))
