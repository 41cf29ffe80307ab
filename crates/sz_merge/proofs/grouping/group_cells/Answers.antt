-- Each cell is told in the place of what it tells, and at the end all are told.
use Rattle.std.proofs.Common.{◌≡◌, ℕ, ◌+◌, ◌-◌, ◌<◌, List, length, set, get_or, subst, sym, arith, rules}
use Rattle.std.specs.Prelude.{replicate}
use Rattle.std.proofs.lemmas.List.{get_or_read}
use Rattle.sz_merge.specs.Links.{AreTold}
use Rattle.sz_merge.proofs.Grouped.{told-none, told-more, told-links, told-groups}
use Rattle.sz_merge.proofs.grouping.group_cells.Goals as goal

pub loop-index-init : goal.loop-index-init
loop-index-init c =
    let labels = c.args.labels.now in
    let first : c.in_ok-first.first.items ≡ replicate c.args.count 0 = search rules in
    let next : c.in_ok-next.next.items ≡ replicate (length labels) 0 = search rules in
    subst (λ (fs : List ℕ). AreTold labels c.args.count (length labels) fs c.in_ok-next.next.items) (sym first)
    (subst (AreTold labels c.args.count (length labels) (replicate c.args.count 0)) (sym next)
    (told-none labels c.args.count))

pub loop-index-preserved : goal.loop-index-preserved
loop-index-preserved c =
    let labels = c.args.labels.now in
    let count = c.args.count in
    let n = c.loop-index.index - 1 in
    let own = get_or labels n 0 in
    let first = c.loop-index.first.items in
    let next = c.loop-index.next.items in
    let inv = c.loop-index.invariant in
    let last : c.loop-index.index ≡ n + 1 = omega (arith, c.loop-index-test.true) in
    let within : n < length labels = omega (arith, last, c.loop-index.auto.index) in
    let below : own < count = c.requires.numbers n 0 within in
    let read : c.index.result.now ≡ get_or first own 0 =
    get_or_read first own c.index.result.now (omega (arith, inv.many, below)) c.index.ensures 0 in
    subst (λ (t : ℕ). AreTold labels count n (set first own (n + 1)) (set next n t)) (sym read)
    (told-more labels count n first next (subst (λ (m : ℕ). AreTold labels count m first next) last inv) within below)

pub invariant_of-result : goal.invariant_of-result
invariant_of-result c =
    told-links c.args.labels.now c.args.count c.loop-index.first.items c.loop-index.next.items
    (subst (λ (n : ℕ). AreTold c.args.labels.now c.args.count n c.loop-index.first.items c.loop-index.next.items)
    (omega (arith, c.loop-index-test.false)) c.loop-index.invariant)

pub returns : goal.returns
returns c =
    told-groups c.args.labels.now c.args.count c.loop-index.first.items c.loop-index.next.items
    (subst (λ (n : ℕ). AreTold c.args.labels.now c.args.count n c.loop-index.first.items c.loop-index.next.items)
    (omega (arith, c.loop-index-test.false)) c.loop-index.invariant)
