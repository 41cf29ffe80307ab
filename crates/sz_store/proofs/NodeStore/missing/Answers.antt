-- The first piece that is not placed, or all of them.
use Rattle.std.proofs.Common.{◌≡◌, ◌<◌, Bool, List, length, get_or, false, not, sym, ap, subst, ◌∙◌, arith}
use Rattle.std.proofs.lemmas.List.Sums.{position_or_len_is}
use Rattle.sz_store.specs.Kept.{NodeLineage}
use Rattle.sz_store.proofs.NodeStore.missing.Goals as goal

pub returns-then-not-placed : goal.returns-then-not-placed
returns-then-not-placed c =
    let xs = c.args.self.now.placed in
    let i = c.loop-placed.placed-index in
    let same : c.deref-placed-items.result.now ≡ xs =
    c.deref-placed-items.ensures.value ∙ ap (λ (x : NodeLineage). x.placed) c.self.view_is in
    let below : i < length xs = subst (λ (ls : List Bool). i < length ls) same c.loop-placed-test.true in
    let here : get_or xs i false ≡ false =
    subst (λ (ls : List Bool). get_or ls i false ≡ false) same c.if-not-placed.true in
    c.loop-placed.invariant.count
    ∙ sym
    (position_or_len_is not xs i false (omega arith) (λ k lt. ap not (c.loop-placed.invariant.before k lt))
    (λ lt. ap not here))

pub returns : goal.returns
returns c =
    let xs = c.args.self.now.placed in
    let i = c.loop-placed.placed-index in
    let same : c.deref-placed-items.result.now ≡ xs =
    c.deref-placed-items.ensures.value ∙ ap (λ (x : NodeLineage). x.placed) c.self.view_is in
    let long = ap length same in
    c.loop-placed.invariant.count
    ∙ sym
    (position_or_len_is not xs i false (omega (arith, long)) (λ k lt. ap not (c.loop-placed.invariant.before k lt))
    (λ lt. absurd (omega (arith, long, lt))))
