-- The cells of the set are met in rising order, and the numbers between them add nothing.
use Rattle.std.proofs.Common.{◌≡◌, ℕ, ◌<◌, true, refl, sym, ap, subst, ◌∙◌, arith}
use Rattle.sz_cells.specs.Extent.{Extent, size_of, cell_of, holds}
use Rattle.sz_cells.specs.Cells.{any_cell, with_those}
use Rattle.sz_spec.specs.declared.modes.Dir.TheVariants.{Forward}
use Rattle.sz_frame.specs.Walks.{stepped, added}
use Rattle.sz_frame.proofs.Added.{with-none, with-ext, own-at, next-is, next-none, stepped-next}
use Rattle.sz_frame.proofs.Added.{stepped-skip, any_cell-added}
use Rattle.sz_refresh.proofs.each.add_each.Goals as goal

pub loop-start-init : goal.loop-start-init
loop-start-init g c =
    let e = c.args.from.now.extent in
    let to = c.args.to.now in
    let shape : c.shape-shape-2.result ≡ e = c.shape-shape-2.ensures.value in (
      shape,
      c.size-end.ensures.value ∙ ap size_of shape,
      omega arith,
      with-none to (added e (stepped Forward (g.A.Adder.adds c.args.adder.now) c.args.from.now) 0)
          (own-at to to.extent refl c.shape-shape.ensures.rising) (λ x held. refl),
    )

pub cell_at-requires : goal.cell_at-requires
cell_at-requires g c =
    let e = c.args.from.now.extent in
    let next = next-is c.args.from.now e c.loop-start.start c.in-Some.index refl c.shape-shape-2.ensures.rising
    (sym c.next_after.ensures ∙ c.in-Some.is) in
    subst (λ (f : Extent). c.in-Some.index < size_of f) (sym c.loop-start.invariant.0) next.high

pub add-requires-clause-cell : goal.add-requires-clause-cell
add-requires-clause-cell g c =
    subst (λ (f : Extent). holds f c.cell_at.result ≡ true) (c.loop-start.invariant.0 ∙ c.requires.from)
    c.cell_at.ensures.held

pub loop-start-smaller-in-Some : goal.loop-start-smaller-in-Some
loop-start-smaller-in-Some g c =
    let e = c.args.from.now.extent in
    let next = next-is c.args.from.now e c.loop-start.start c.in-Some.index refl c.shape-shape-2.ensures.rising
    (sym c.next_after.ensures ∙ c.in-Some.is) in
    omega (arith, next.low, next.high, c.loop-start.invariant.1)

pub loop-start-preserved-in-Some : goal.loop-start-preserved-in-Some
loop-start-preserved-in-Some g c =
    let e = c.args.from.now.extent in
    let inv = c.loop-start.invariant in
    let next = next-is c.args.from.now e c.loop-start.start c.in-Some.index refl c.shape-shape-2.ensures.rising
    (sym c.next_after.ensures ∙ c.in-Some.is) in
    let at = c.cell_at.ensures.value ∙ ap (λ (f : Extent). cell_of f c.in-Some.index) inv.0 in (
      inv.0,
      inv.1,
      omega (arith, next.high),
      stepped-next Forward e (g.A.Adder.adds c.args.adder.now) c.args.from.now c.args.to.now
          c.loop-start.to c.add.new.to c.loop-start.start c.in-Some.index c.cell_at.result next inv.3 at
          c.add.ensures,
    )

pub loop-start-preserved : goal.loop-start-preserved
loop-start-preserved g c =
    let e = c.args.from.now.extent in
    let inv = c.loop-start.invariant in
    let none = next-none c.args.from.now e c.loop-start.start refl (sym c.next_after.ensures ∙ c.in-None.is) in (
      inv.0,
      inv.1,
      omega (arith, inv.1),
      stepped-skip Forward e (g.A.Adder.adds c.args.adder.now) c.args.from.now c.args.to.now
          c.loop-start.to c.loop-start.start c.size-end.result (omega (arith, inv.1, inv.2))
          (λ k low high. none k low (omega (arith, inv.1))) inv.3,
    )

pub returns : goal.returns
returns g c =
    let e = c.args.from.now.extent in
    let from = c.args.from.now in
    let leads = g.A.Adder.adds c.args.adder.now in
    let adds = stepped Forward leads from in
    let inv = c.loop-start.invariant in
    let all : c.loop-start.start ≡ size_of e = omega (arith, inv.1, inv.2) in
    inv.3
    ∙ ap (λ (n : ℕ). with_those c.args.to.now (added e adds n)) all
    ∙ with-ext c.args.to.now (added e adds (size_of e)) (λ o. any_cell (leads o) from)
    (λ o held. any_cell-added e from (leads o) (own-at from e refl c.shape-shape-2.ensures.rising))
