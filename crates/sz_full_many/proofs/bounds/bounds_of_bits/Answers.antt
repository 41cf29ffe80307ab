-- The cells of the set are met in rising order.
use Rattle.std.proofs.Common.{◌≡◌, ◌<◌, refl, sym, ap, subst, ◌∙◌, arith}
use Rattle.sz_cells.specs.Extent.{Extent, size_of, cell_of}
use Rattle.sz_frame.proofs.Added.{next-is, next-none}
use Rattle.sz_full_many.proofs.Rounded.{round-more, round-rest, round-all}
use Rattle.sz_full_many.proofs.bounds.bounds_of_bits.Goals as goal

pub cell_at-requires : goal.cell_at-requires
cell_at-requires c =
    let set = c.args.bits.now in
    let next = next-is set set.extent c.loop-start.start c.in-Some.index refl c.shape-shape.ensures.rising
    (sym c.next_after.ensures ∙ c.in-Some.is) in
    subst (λ (e : Extent). c.in-Some.index < size_of e) (sym c.shape-shape.ensures.value) next.high

pub loop-start-smaller-in-Some : goal.loop-start-smaller-in-Some
loop-start-smaller-in-Some c =
    let set = c.args.bits.now in
    let next = next-is set set.extent c.loop-start.start c.in-Some.index refl c.shape-shape.ensures.rising
    (sym c.next_after.ensures ∙ c.in-Some.is) in
    omega (arith, next.low, next.high, c.loop-start.invariant.all)

pub loop-start-preserved-in-Some : goal.loop-start-preserved-in-Some
loop-start-preserved-in-Some c =
    let set = c.args.bits.now in
    let inv = c.loop-start.invariant in
    let next = next-is set set.extent c.loop-start.start c.in-Some.index refl c.shape-shape.ensures.rising
    (sym c.next_after.ensures ∙ c.in-Some.is) in
    record {
      shape = inv.shape;
      all = inv.all;
      below = omega (arith, next.high);
      round =
          round-more set c.loop-start.start c.in-Some.index c.cell_at.result c.loop-start.bounds
          c.bounds_with.result next
          inv.round (c.cell_at.ensures.value ∙ ap (λ (e : Extent). cell_of e c.in-Some.index) inv.shape)
          c.bounds_with.ensures.cell c.bounds_with.ensures.kept;
    }

pub loop-start-preserved : goal.loop-start-preserved
loop-start-preserved c =
    let set = c.args.bits.now in
    let inv = c.loop-start.invariant in
    let none = next-none set set.extent c.loop-start.start refl (sym c.next_after.ensures ∙ c.in-None.is) in
    record {
      shape = inv.shape;
      all = inv.all;
      below = omega (arith, inv.all);
      round =
          round-rest set c.loop-start.start c.size-end.result c.loop-start.bounds
          (λ k low high. none k low (omega (arith, inv.all))) inv.round;
    }

pub returns : goal.returns
returns c =
    let inv = c.loop-start.invariant in
    round-all c.args.bits.now c.loop-start.start c.loop-start.bounds (omega (arith, inv.all, inv.below)) inv.round
