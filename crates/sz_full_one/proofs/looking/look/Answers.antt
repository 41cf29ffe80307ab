-- The cells of the set are met in rising order, and the numbers between them add nothing.
use Rattle.std.proofs.Common.{◌≡◌, ℕ, ◌<◌, ◌+◌, refl, sym, ap, subst, ◌∙◌, arith}
use Rattle.sz_cells.specs.Extent.{Extent, size_of, cell_of}
use Rattle.sz_cells.specs.Cells.{with_those}
use Rattle.sz_spec.specs.Sides.{extent_before}
use Rattle.sz_frame.specs.Stands.{full_stands}
use Rattle.sz_frame.specs.Walks.{stepped, added}
use Rattle.sz_frame.proofs.Added.{with-none, own-at, next-is, next-none, stepped-next, stepped-skip}
use Rattle.sz_tables.specs.Rows.{pairings}
use Rattle.sz_full_one.specs.ByCells.{side_of}
use Rattle.sz_full_one.proofs.ImagesBetween.{stepped-between}
use Rattle.sz_full_one.proofs.looking.look.Goals as goal

pub loop-start-init : goal.loop-start-init
loop-start-init c =
    let t = c.args.table.now in
    let dir = side_of c.args.index.now in
    let e = extent_before dir t.out t.ins c.args.input in
    let to = c.args.to.now in
    let shape : c.shape-shape-2.result ≡ e = c.shape-shape-2.ensures.value ∙ c.requires.from in
    record {
      end = c.size-end.ensures.value ∙ ap size_of shape;
      within = omega arith;
      to = with-none to (added e (stepped dir (full_stands (pairings t) c.args.input) c.args.from.now) 0) (own-at to
          to.extent refl c.shape-shape.ensures.rising) (λ x held. refl);
      done = tt;
    }

pub look_cell-last-requires-clause-cell : goal.look_cell-last-requires-clause-cell
look_cell-last-requires-clause-cell c =
    let t = c.args.table.now in
    let e = extent_before (side_of c.args.index.now) t.out t.ins c.args.input in
    (next-is c.args.from.now e c.loop-start.start c.in-Some.cell c.requires.from c.shape-shape-2.ensures.rising
    (sym c.next_after.ensures ∙ c.in-Some.is)).high

pub loop-start-preserved-in-Some : goal.loop-start-preserved-in-Some
loop-start-preserved-in-Some c =
    let t = c.args.table.now in
    let dir = side_of c.args.index.now in
    let e = extent_before dir t.out t.ins c.args.input in
    let inv = c.loop-start.invariant in
    let next = next-is c.args.from.now e c.loop-start.start c.in-Some.cell c.requires.from
    c.shape-shape-2.ensures.rising (sym c.next_after.ensures ∙ c.in-Some.is) in
    record {
      end = inv.end;
      within = omega (arith, next.high);
      to = stepped-next dir e (full_stands (pairings t) c.args.input) c.args.from.now c.args.to.now c.loop-start.to
          c.look_cell-last.new.to c.loop-start.start c.in-Some.cell (cell_of e c.in-Some.cell) next inv.to refl
          c.look_cell-last.ensures.to;
      done = c.look_cell-last.ensures.done;
    }

pub loop-start-preserved : goal.loop-start-preserved
loop-start-preserved c =
    let t = c.args.table.now in
    let dir = side_of c.args.index.now in
    let e = extent_before dir t.out t.ins c.args.input in
    let inv = c.loop-start.invariant in
    let none = next-none c.args.from.now e c.loop-start.start c.requires.from (sym c.next_after.ensures
    ∙ c.in-None.is) in
    record {
      end = inv.end;
      within = omega (arith, inv.end);
      to = stepped-skip dir e (full_stands (pairings t) c.args.input) c.args.from.now c.args.to.now c.loop-start.to
          c.loop-start.start c.size-end.result (omega (arith, inv.end, inv.within))
          (λ k low high. none k low (omega (arith, inv.end))) inv.to;
      done = inv.done;
    }

pub returns : goal.returns
returns c =
    let t = c.args.table.now in
    let dir = side_of c.args.index.now in
    let e = extent_before dir t.out t.ins c.args.input in
    let relation = full_stands (pairings t) c.args.input in
    let inv = c.loop-start.invariant in
    let all : c.loop-start.start ≡ size_of e = omega (arith, inv.end, inv.within) in
    inv.to
    ∙ ap (λ (n : ℕ). with_those c.args.to.now (added e (stepped dir relation c.args.from.now) n)) all
    ∙ stepped-between dir t.out t.ins c.args.input relation c.args.from.now c.args.to.now
    (own-at c.args.from.now e c.requires.from c.shape-shape-2.ensures.rising) c.requires.to

pub overflow_add-start : goal.overflow_add-start
overflow_add-start c =
    let t = c.args.table.now in
    let e = extent_before (side_of c.args.index.now) t.out t.ins c.args.input in
    let next = next-is c.args.from.now e c.loop-start.start c.in-Some.cell c.requires.from
    c.shape-shape-2.ensures.rising (sym c.next_after.ensures ∙ c.in-Some.is) in
    omega (arith, next.high, c.loop-start.invariant.end, c.size-end.ensures.few)

pub loop-start-smaller-in-Some : goal.loop-start-smaller-in-Some
loop-start-smaller-in-Some c =
    let t = c.args.table.now in
    let e = extent_before (side_of c.args.index.now) t.out t.ins c.args.input in
    let next = next-is c.args.from.now e c.loop-start.start c.in-Some.cell c.requires.from
    c.shape-shape-2.ensures.rising (sym c.next_after.ensures ∙ c.in-Some.is) in
    omega (arith, next.low, next.high, c.loop-start.invariant.end)
