-- The cell that is found is in both, or no cell of the shape is.
use Rattle.std.proofs.Common.{◌≡◌, true, sym, ◌∙◌, arith}
use Rattle.sz_cells.specs.Extent.{holds}
use Rattle.sz_frame.proofs.Added.{own-at}
use Rattle.sz_ops_region.proofs.Labels.{both-one, both-none}
use Rattle.sz_ops_region.proofs.work.have_one.Goals as goal

pub returns-then-has-2 : goal.returns-then-has-2
returns-then-has-2 c =
    let set = c.args.set.now in
    let from = c.args.from.now in
    let own = own-at from set.extent c.requires c.shape-shape.ensures.rising in
    let held : holds set.extent c.cell_at-cell.result ≡ true = rw c.loop-index.invariant.shape at
    c.cell_at-cell.ensures.held in
    sym (both-one set.extent set from c.cell_at-cell.result own held (sym c.has.ensures ∙ c.if-has.true)
    (sym c.has-then-has.ensures ∙ c.if-has-2.true))

pub returns : goal.returns
returns c =
    let set = c.args.set.now in
    let from = c.args.from.now in
    let own = own-at from set.extent c.requires c.shape-shape.ensures.rising in
    sym (both-none set.extent set from own
    (λ k below. c.loop-index.invariant.none k (omega (arith, c.loop-index.invariant.end))))
