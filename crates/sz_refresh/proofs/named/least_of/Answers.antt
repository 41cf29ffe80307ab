-- No index of the set is before the least.
use Rattle.std.proofs.Common.{◌==◌, sym, ◌∙◌, arith}
use Rattle.std.specs.List.{list_any}
use Rattle.std.proofs.lemmas.Bool.{false_from_ne_true}
use Rattle.sz_cells.specs.Extent.{size_of}
use Rattle.sz_cells.proofs.LawsOfSets.{next-least, none-next}
use Rattle.sz_cells.proofs.Rising.{rising-below}
use Rattle.sz_refresh.proofs.named.least_of.Goals as goal

pub returns-in-Some-clause-few : goal.returns-in-Some-clause-few
returns-in-Some-clause-few c =
    let set = c.args.set.now in
    let next = next-least set 0 c.in-Some.index c.shape.ensures.rising (sym c.next_after.ensures ∙ c.in-Some.is) in
    let below = rising-below 0 (size_of set.extent) c.in-Some.index set.indexes c.shape.ensures.rising next.1 in
    omega (arith, below)

pub returns-in-Some-clause-before : goal.returns-in-Some-clause-before
returns-in-Some-clause-before c = λ k low.
    let set = c.args.set.now in
    let next = next-least set 0 c.in-Some.index c.shape.ensures.rising (sym c.next_after.ensures ∙ c.in-Some.is) in
    false_from_ne_true (list_any (λ i. i == k) set.indexes)
    (λ there. absurd (omega (arith, low, next.2 k (omega arith) there)))

pub returns-in-None-clause-before : goal.returns-in-None-clause-before
returns-in-None-clause-before c = λ k low.
    let set = c.args.set.now in
    false_from_ne_true (list_any (λ i. i == k) set.indexes)
    (λ there. absurd (omega (arith, none-next set 0 k (sym c.next_after.ensures ∙ c.in-None.is) there)))
