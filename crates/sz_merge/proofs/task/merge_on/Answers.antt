-- The merged stores stand for the tag's relation, as those on the shelf do.
use Rattle.std.proofs.Common.{◌≡◌, ◌∙◌, List, ap, subst, Option}
use Rattle.std.specs.Arc.{arc_value}
use Rattle.std.specs.Option.{IfSome}
use Rattle.sz_spec.specs.declared.modes.Strategy.{Strategy}
use Rattle.sz_spec.specs.Shapes.{Site}
use Rattle.sz_shelf.specs.Places.{ShelfPlace}
use Rattle.sz_shelf.specs.Tags.{Tag, StandsFor}
use Rattle.sz_merge.proofs.Swapped.{stands-merged}
use Rattle.sz_merge.proofs.task.merge_on.Goals as goal

pub swap-requires-clause-stands : goal.swap-requires-clause-stands
swap-requires-clause-stands c d =
    let t : Tag = d.store_of.new.pass.tag in
    let s : Site = arc_value d.args.at.now in
    let list : List Strategy = d.args.list.now in
    let m = d.in_ok-merged.ensures in
    let same : t ≡ d.args.pass.now.tag = ap (λ (z : ShelfPlace). z.tag) d.in_ok-store.ensures.turn.place in
    let stands : StandsFor t (arc_value d.in-Some.store) =
    subst (λ (o : Option _). IfSome o (λ a. StandsFor t (arc_value a))) d.in-Some.is d.in_ok-store.ensures.stands in
    stands-merged t s list (arc_value d.in-Some.store) (arc_value d.in_ok-merged.merged) m.0 m.1 stands
    (ap (λ (x : Tag). x.site) same ∙ d.requires.site) (ap (λ (x : Tag). x.list) same ∙ d.requires.same_list) m.2
