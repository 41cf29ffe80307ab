-- Each output cell in turn adds what it adds, and all of them add the image.
use Rattle.std.proofs.Common.{◌≡◌, ℕ, refl, ap, ◌∙◌, arith, rules}
use Rattle.sz_cells.specs.Extent.{size_of}
use Rattle.sz_cells.specs.Cells.{with_those}
use Rattle.sz_spec.specs.Lineage.{related}
use Rattle.sz_spec.specs.Sides.{near_side}
use Rattle.sz_frame.specs.Walks.{traced, added}
use Rattle.sz_frame.proofs.Added.{with-none, own-at, cell-next, traced-next, traced-all}
use Rattle.sz_frame.proofs.walks.trace_by.Goals as goal

pub loop-index-init : goal.loop-index-init
loop-index-init g c =
    let s = g.A.AtWork.site c.args.at.now in
    let relation = related s.op (g.A.AtWork.inputs c.args.at.now) c.args.input in
    let to = c.args.to.now in (
      c.out-shape.ensures,
      c.size-index-end.ensures.value ∙ ap size_of c.out-shape.ensures,
      search rules,
      omega arith,
      with-none to (added s.out (traced c.args.dir relation c.args.from.now) 0) (own-at to to.extent refl
          c.shape-shape-2.ensures.rising) (λ x held. refl),
    )

pub loop-index-preserved : goal.loop-index-preserved
loop-index-preserved g c =
    let s = g.A.AtWork.site c.args.at.now in
    let relation = related s.op (g.A.AtWork.inputs c.args.at.now) c.args.input in
    let inv = c.loop-index.invariant in (
      inv.0,
      inv.1,
      cell-next s.out c.out-shape.result c.loop-index.index c.loop-index.cell c.cell_after-cell.result inv.0 inv.2
          c.cell_after-cell.ensures,
      omega (arith, inv.3, c.tick.ensures),
      traced-next c.args.dir s.out relation c.args.from.now c.args.to.now c.loop-index.to c.trace_cell.new.to
          c.loop-index.index c.loop-index.cell
          inv.4 inv.2 c.trace_cell.ensures,
    )

pub returns-clause-to : goal.returns-clause-to
returns-clause-to g c =
    let s = g.A.AtWork.site c.args.at.now in
    let relation = related s.op (g.A.AtWork.inputs c.args.at.now) c.args.input in
    let inv = c.loop-index.invariant in
    let all : c.loop-index.index ≡ size_of s.out = omega (arith, inv.1) in
    inv.4
    ∙ ap (λ (n : ℕ). with_those c.args.to.now (added s.out (traced c.args.dir relation c.args.from.now) n)) all
    ∙ traced-all c.args.dir s c.args.input relation c.args.from.now c.args.to.now
    (own-at c.args.from.now (near_side c.args.dir s c.args.input) c.requires.from c.shape-shape.ensures.rising)
    c.requires.to
