-- The next index of the set is later and one of the shape; where there is none, the last one is the greatest.
use Rattle.std.proofs.Common.{◌≡◌, ◌+◌, sym, ap, ◌∙◌, arith}
use Rattle.sz_cells.specs.Extent.{size_of}
use Rattle.sz_cells.proofs.LawsOfSets.{next-least, none-next}
use Rattle.sz_cells.proofs.Rising.{rising-below}
use Rattle.sz_refresh.proofs.named.last_from.Goals as goal

pub loop-last-smaller : goal.loop-last-smaller
loop-last-smaller c =
    let set = c.args.set.now in
    let next = next-least set (c.loop-last.last + 1) c.in-Some.later c.shape.ensures.rising
    (sym c.next_after.ensures ∙ c.in-Some.is) in
    let below = rising-below 0 (size_of set.extent) c.in-Some.later set.indexes c.shape.ensures.rising next.1 in
    omega (arith, next.0, below)

pub loop-last-preserved : goal.loop-last-preserved
loop-last-preserved c =
    let set = c.args.set.now in
    let next = next-least set (c.loop-last.last + 1) c.in-Some.later c.shape.ensures.rising
    (sym c.next_after.ensures ∙ c.in-Some.is) in (
      omega (arith, next.0, c.loop-last.invariant.0),
      rising-below 0 (size_of set.extent) c.in-Some.later set.indexes c.shape.ensures.rising next.1,
    )

pub returns-in-None-clause-greatest : goal.returns-in-None-clause-greatest
returns-in-None-clause-greatest c = λ k there.
    omega (
      arith,
      none-next c.args.set.now (c.loop-last.last + 1) k (sym c.next_after.ensures ∙ c.in-None.is) there,
    )

pub returns-clause-greatest : goal.returns-clause-greatest
returns-clause-greatest c = λ k there.
    let set = c.args.set.now in
    let below = rising-below 0 (size_of set.extent) k set.indexes c.shape.ensures.rising there in
    let size : c.size-size.result ≡ size_of set.extent =
    c.size-size.ensures.value ∙ ap size_of c.shape.ensures.value in
    omega (arith, below, size, c.loop-last-test.false)
