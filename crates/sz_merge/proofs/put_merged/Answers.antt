-- Each store is merged behind the ones before it, and all words together are read as they are merged.
use Rattle.std.proofs.Common.{◌≡◌, ◌<◌, ◌≤◌, ◌∙◌, true, true≢false, List, length, sym, subst, arith}
use Rattle.std.proofs.lemmas.List.{take_all}
use Rattle.sz_spec.specs.declared.modes.Strategy.TheVariants as strategy
use Rattle.sz_store.specs.Kept.{Keep, empty_keep}
use Rattle.sz_merge.specs.Merged.{ArePartsMerged}
use Rattle.sz_merge.proofs.Behind.{parts-none, parts-more, parts-read, parts-left}
use Rattle.sz_merge.proofs.put_merged.Goals as goal
use Rattle.sz_merge.proofs.put_merged.Goals.{then-not-left, else-not-left}

pub merge_part-requires-clause-mode : goal.merge_part-requires-clause-mode
merge_part-requires-clause-mode c =
    c.stores-place-end.ensures.modes c.loop-place.place (empty_keep strategy.Map)
    (omega (arith, c.stores-place-end.ensures.count, c.loop-place-test.true))

pub loop-place-init : goal.loop-place-init
loop-place-init c =
    parts-none c.args.store.now.site c.args.to.now.items c.args.kinds.now.items c.requires.to c.requires.kinds

pub loop-place-preserved : goal.loop-place-preserved
loop-place-preserved c =
    let s = c.args.store.now in
    let i = c.loop-place.place in
    let was = c.loop-place.same in
    let one = c.in_ok-left.left in
    let same = c.if-not-left.same in
    let inside : i < length s.stores = omega (arith, c.stores-place-end.ensures.count, c.loop-place-test.true) in
    let both : same ≡ true → (was ≡ true) × (one ≡ true) =
    λ is. elim c.if-not-left.branch [
      | then-not-left w ↦ absurd (true≢false (sym is ∙ w.same-is))
      | else-not-left w ↦ (sym w.same-is ∙ is, w.if-not-left.false)
    ] in
    parts-more s.site s.stores i (empty_keep strategy.Map) was one same c.loop-place.to.items
    c.merge_part.new.to.items c.loop-place.kinds.items c.merge_part.new.kinds.items inside both
    c.loop-place.invariant c.in_ok-left.ensures

pub returns-clause-read : goal.returns-clause-read
returns-clause-read c =
    let s = c.args.store.now in
    let enough : length s.stores ≤ c.loop-place.place =
    omega (arith, c.stores-place-end.ensures.count, c.loop-place-test.false) in
    parts-read s.site _ s.stores c.loop-place.same c.loop-place.to.items c.loop-place.kinds.items
    c.stores-place-end.ensures.strategies
    (subst (λ (fs : List Keep). ArePartsMerged s.site fs c.loop-place.same c.loop-place.to.items
    c.loop-place.kinds.items) (take_all c.loop-place.place s.stores enough) c.loop-place.invariant)

pub returns-clause-same : goal.returns-clause-same
returns-clause-same c is =
    let s = c.args.store.now in
    let enough : length s.stores ≤ c.loop-place.place =
    omega (arith, c.stores-place-end.ensures.count, c.loop-place-test.false) in
    parts-left s.site _ s.stores c.loop-place.same c.loop-place.to.items c.loop-place.kinds.items
    c.stores-place-end.ensures.strategies
    (subst (λ (fs : List Keep). ArePartsMerged s.site fs c.loop-place.same c.loop-place.to.items
    c.loop-place.kinds.items) (take_all c.loop-place.place s.stores enough) c.loop-place.invariant) is
