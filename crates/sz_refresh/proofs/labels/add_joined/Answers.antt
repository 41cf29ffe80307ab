-- The set itself is added, and the cells whose labels name marked cells: none before the first marked one.
use Rattle.std.proofs.Common.{◌≡◌, ℕ, ◌<◌, min, List, map, sym, ap, subst, ◌∙◌, arith}
use Rattle.std.specs.Arc.{arc_value}
use Rattle.std.proofs.lemmas.Bool.Decides.{nat_tests}
use Rattle.sz_cells.specs.Extent.{Extent, size_of, index_of}
use Rattle.sz_cells.specs.Cells.{Cells, with_those}
use Rattle.sz_spec.specs.Values.{Grid}
use Rattle.sz_frame.proofs.Added.{own-at, out-at_work}
use Rattle.sz_refresh.specs.Names.{is_named, EndAfter}
use Rattle.sz_refresh.proofs.Gaps.{joined-ends}
use Rattle.sz_refresh.proofs.Joined.{joined-before, joined-reaches, threshold-of}
use Rattle.sz_refresh.proofs.labels.add_joined.Goals as goal

pub add_named-requires-clause-from : goal.add_named-requires-clause-from
add_named-requires-clause-from c =
    let s = c.args.at.now in
    let a : List Grid = map (λ x. arc_value x) c.args._old.now in
    let was = c.in_ok-old_firsts.old_firsts in
    let shape : was.extent ≡ s.out =
    ap (λ (z : Cells). z.extent) c.in_ok-old_firsts.ensures
    ∙ ap (λ (g : Grid). g.extent) c.requires.old_labels
    ∙ out-at_work s a c.requires.old in
    let same : c.add_bits.new.self.extent ≡ s.out =
    ap (λ (z : Cells). z.extent) c.add_bits.ensures ∙ c.requires.to in
    let least : c.min-least.result ≡ min c.least_of.result c.least_of-2.result = c.min-least.ensures in
    grind (arith, nat_tests, least, c.least_of.ensures.few, ap size_of shape, ap size_of same)

pub add_named-requires-clause-before : goal.add_named-requires-clause-before
add_named-requires-clause-before c = λ k low.
    let s = c.args.at.now in
    let a : List Grid = map (λ x. arc_value x) c.args._old.now in
    let b : List Grid = map (λ x. arc_value x) c.args._new.now in
    let known = threshold-of s.op c.requires.op in
    let was = c.in_ok-old_firsts.old_firsts in
    let shape : was.extent ≡ s.out =
    ap (λ (z : Cells). z.extent) c.in_ok-old_firsts.ensures
    ∙ ap (λ (g : Grid). g.extent) c.requires.old_labels
    ∙ out-at_work s a c.requires.old in
    let least : c.min-least.result ≡ min c.least_of.result c.least_of-2.result = c.min-least.ensures in
    let first : k < c.least_of.result = grind (arith, nat_tests, least, low) in
    let second : k < c.least_of-2.result = grind (arith, nat_tests, least, low) in
    joined-before s a b known.0 c.args.old_labels.now c.args.new_labels.now c.args.from.now was
    c.in_ok-new_firsts.new_firsts c.cells.result.now c.cells-2.result.now k c.least_of.result c.least_of-2.result
    known.1 c.requires.old c.requires.new c.requires.old_labels c.requires.new_labels c.in_ok-old_firsts.ensures
    c.in_ok-new_firsts.ensures c.cells.ensures.values c.cells-2.ensures.values c.least_of.ensures.before
    c.least_of-2.ensures.before (omega (arith, first, c.least_of.ensures.few, ap size_of shape)) first second

pub add_named-requires-clause-gap : goal.add_named-requires-clause-gap
add_named-requires-clause-gap c =
    let s = c.args.at.now in
    let a : List Grid = map (λ x. arc_value x) c.args._old.now in
    let b : List Grid = map (λ x. arc_value x) c.args._new.now in
    let known = threshold-of s.op c.requires.op in
    let olds = c.cells.result.now in
    let news = c.cells-2.result.now in
    let was = c.in_ok-old_firsts.old_firsts in
    let now = c.in_ok-new_firsts.new_firsts in
    let same : c.add_bits.new.self.extent ≡ s.out =
    ap (λ (z : Cells). z.extent) c.add_bits.ensures ∙ c.requires.to in
    let cols = ap (λ (e : Extent). e.cols) (c.gap.view_is ∙ c.shape-3.ensures.value ∙ c.requires.from) in
    let ends : EndAfter s.out.cols 1 olds was news now (size_of s.out) =
    joined-ends s a b known.0 c.args.old_labels.now c.args.new_labels.now c.args.from.now was now olds news known.1
    c.requires.old c.requires.new c.requires.old_labels c.requires.new_labels c.in_ok-old_firsts.ensures
    c.in_ok-new_firsts.ensures c.cells.ensures.values c.cells-2.ensures.values in
    subst (λ (n : ℕ). EndAfter n 1 olds was news now (size_of c.add_bits.new.self.extent)) (sym cols)
    (subst (λ (e : Extent). EndAfter s.out.cols 1 olds was news now (size_of e)) (sym same) ends)

pub returns : goal.returns
returns c =
    let s = c.args.at.now in
    let a : List Grid = map (λ x. arc_value x) c.args._old.now in
    let b : List Grid = map (λ x. arc_value x) c.args._new.now in
    let from = c.args.from.now in
    let to = c.args.to.now in
    let known = threshold-of s.op c.requires.op in
    let olds = c.cells.result.now in
    let news = c.cells-2.result.now in
    let was = c.in_ok-old_firsts.old_firsts in
    let now = c.in_ok-new_firsts.new_firsts in
    c.add_named.ensures
    ∙ ap (λ (z : Cells). with_those z (λ o. is_named 1 olds was news now (index_of z.extent o))) c.add_bits.ensures
    ∙ joined-reaches s a b known.0 c.args.old_labels.now c.args.new_labels.now from was now to olds news
    known.1 c.requires.old c.requires.new c.requires.old_labels c.requires.new_labels
    (own-at from s.out c.requires.from c.shape.ensures.rising)
    c.in_ok-old_firsts.ensures c.in_ok-new_firsts.ensures c.cells.ensures.values c.cells-2.ensures.values c.requires.to
