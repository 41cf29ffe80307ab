-- Whether the first and the last cell are in one row says which columns the run has.
use Rattle.std.proofs.Common.{◌≡◌, ℕ, ◌-◌, refl, ap}
use Rattle.sz_cells.specs.Extent.{Extent}
use Rattle.sz_cells.proofs.Rectangles.{bounds-by_ends}
use Rattle.sz_cells.proofs.Sets.{cols-some}
use Rattle.sz_cells.proofs.spelling.bounds_with_run.Goals as goal
use Rattle.sz_cells.proofs.spelling.bounds_with_run.Goals.{then-first-last, else-first-last}

pub returns : goal.returns
returns c =
    let some = cols-some c.args.shape.now c.args.run.last c.requires.within in
    let cols : c.shape.inside.cols ≡ c.args.shape.now.cols = ap (λ (e : Extent). e.cols) c.shape.view_is in
    rw (c.min.ensures, c.min-2.ensures, c.max.ensures, c.max-2.ensures)
    (bounds-by_ends c.args.shape.now c.args.bounds c.args.run.first c.args.run.last c.cell_at-first.result
    c.cell_at-last.result c.if-first-last.left.0 c.if-first-last.left.1
    some c.requires.order c.cell_at-first.ensures.value c.cell_at-last.ensures.value
    (λ same.
    elim c.if-first-last.branch [
      | then-first-last w ↦ rw w.left-is (refl, refl)
      | else-first-last w ↦ absurd (w.if-first-last.false same)
    ])
    (λ apart.
    elim c.if-first-last.branch [
      | then-first-last w ↦ absurd (apart w.if-first-last.true)
      | else-first-last w ↦ rw w.left-is (refl, ap (λ (n : ℕ). n - 1) cols)
    ]))
