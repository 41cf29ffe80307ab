-- What holds of the cell of each index holds of each cell.
use Rattle.std.proofs.Common.{rules, ◌≡◌, ℕ, ◌<◌, true, false, arith, subst, ap}
use Rattle.sz_cells.specs.declared.Cell.{Cell}
use Rattle.sz_cells.specs.Extent.{Extent, size_of, cell_of}
use Rattle.sz_cells.specs.Cells.{has}
use Rattle.sz_spec.specs.Values.{value_at}
use Rattle.trials_refresh.proofs.Arrays.{one-more, each-cell}
use Rattle.trials_refresh.proofs.agreed.agree_at.Goals as goal

pub loop-index-preserved : goal.loop-index-preserved
loop-index-preserved c =
    let P : Cell → Type 0 = λ x. (c.args.named ≡ true → has c.args.changed.now x ≡ false)
    → value_at c.args.one.now x ≡ value_at c.args.other.now x in
    one-more (λ k. P (cell_of c.shape-shape.result k)) c.loop-index.index c.loop-index.invariant
    (subst P c.cell_at.ensures.value (c.agree_in.ensures c.if-not-agree_in.false))

pub returns : goal.returns
returns c =
    let e = c.args.one.now.extent in
    let P : Cell → Type 0 = λ x. (c.args.named ≡ true → has c.args.changed.now x ≡ false)
    → value_at c.args.one.now x ≡ value_at c.args.other.now x in
    let same : c.shape-shape.result ≡ e = c.shape-shape.ensures in
    let all : (k : ℕ) → k < size_of e → P (cell_of e k) = λ k low.
    subst (λ (z : Extent). P (cell_of z k)) same
    (c.loop-index.invariant k
    (omega (arith, low, ap size_of same, c.size-index-end.ensures.value, c.loop-index-test.false))) in
    let shapes : c.args.one.now.extent ≡ c.args.other.now.extent = search rules in
    λ _. (shapes, each-cell P e all)
