-- Each value is that of the cell of its index, so all of them are the output's.
use Rattle.std.proofs.Common.{◌≡◌, length, List, Option, sym, ap, ◌∙◌, arith, eq-eqb}
use Rattle.std.specs.Prelude.{ℤ}
use Rattle.sz_cells.specs.Extent.{index_of, size_of}
use Rattle.sz_cells.proofs.Sets.{index-cell}
use Rattle.sz_frame.proofs.Added.{cell-next, values-next, values-length}
use Rattle.sz_frame.proofs.walks.run_by.Goals as goal

pub value-requires-clause-index : goal.value-requires-clause-index
value-requires-clause-index g c =
    let out = (g.A.AtWork.site c.args.at.now).out in
    sym (ap (index_of out) c.loop-index.invariant.2 ∙ index-cell out c.loop-index.index)

pub loop-index-preserved : goal.loop-index-preserved
loop-index-preserved g c =
    let s = g.A.AtWork.site c.args.at.now in
    let inv = c.loop-index.invariant in (
      inv.0,
      inv.1,
      cell-next s.out c.out-shape.result c.loop-index.index c.loop-index.cell c.cell_after-cell.result inv.0 inv.2
          c.cell_after-cell.ensures,
      values-next s (g.A.AtWork.inputs c.args.at.now) c.loop-index.index c.loop-index.cell c.value.result
          c.loop-index.cells.items c.push.new.self.items
          inv.3 inv.2 c.value.ensures c.in_ok-push.ensures.items,
    )

pub unreachable-requires : goal.unreachable-requires
unreachable-requires g c =
    let s = g.A.AtWork.site c.args.at.now in
    let inv = c.loop-index.invariant in
    let all : c.loop-index.index ≡ size_of s.out = omega (arith, inv.1) in
    let many : length c.loop-index.cells.items ≡ size_of c.out-shape.result =
    ap (λ (xs : List (Option ℤ)). length xs) inv.3 ∙ values-length s (g.A.AtWork.inputs c.args.at.now)
    c.loop-index.index ∙ all ∙ sym (ap size_of inv.0) in
    let right = eq-eqb (length c.loop-index.cells.items) (size_of c.out-shape.result) many in
    let never = sym (rw right at c.make.ensures) ∙ c.in-None.is in
    cc
