-- The next index from 0 on is the least.
use Rattle.std.proofs.Common.{◌≡◌, sym, ap, ◌∙◌, arith}
use Rattle.sz_cells.specs.Extent.{size_of}
use Rattle.sz_cells.proofs.LawsOfSets.{next-least, none-next}
use Rattle.sz_cells.proofs.Rising.{rising-below}
use Rattle.sz_refresh.proofs.named.span_of.Goals as goal

pub last_from-requires : goal.last_from-requires
last_from-requires c =
    let set = c.args.set.now in
    let next = next-least set 0 c.in-Some.least c.shape.ensures.rising (sym c.next_after.ensures ∙ c.in-Some.is) in
    rising-below 0 (size_of set.extent) c.in-Some.least set.indexes c.shape.ensures.rising next.1

pub returns-in-Some-clause-within : goal.returns-in-Some-clause-within
returns-in-Some-clause-within c = λ k there.
    let set = c.args.set.now in
    let next = next-least set 0 c.in-Some.least c.shape.ensures.rising (sym c.next_after.ensures ∙ c.in-Some.is) in
    (next.2 k (omega arith) there, c.last_from.ensures.greatest k there)

pub returns-in-None-clause-within : goal.returns-in-None-clause-within
returns-in-None-clause-within c = λ k there.
    absurd (omega (arith, none-next c.args.set.now 0 k (sym c.next_after.ensures ∙ c.in-None.is) there))

pub returns-in-Some-clause-few : goal.returns-in-Some-clause-few
returns-in-Some-clause-few c =
    let size : c.size.result ≡ size_of c.args.set.now.extent =
    c.size.ensures.value ∙ ap size_of c.shape.ensures.value in
    omega (arith, c.last_from.ensures.below, size, c.size.ensures.few)
