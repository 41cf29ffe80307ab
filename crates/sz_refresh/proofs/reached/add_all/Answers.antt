-- Each cell is reached by some cell of the input.
use Rattle.std.proofs.Common.{List, map, ap, ◌∙◌}
use Rattle.std.specs.Arc.{arc_value}
use Rattle.sz_cells.specs.Extent.{size_of}
use Rattle.sz_spec.specs.Values.{Grid}
use Rattle.sz_refresh.proofs.OwnPlaces.{whole-reaches}
use Rattle.sz_refresh.proofs.reached.add_all.Goals as goal

pub returns : goal.returns
returns c =
    let a : List Grid = map (λ x. arc_value x) c.args.old.now in
    let b : List Grid = map (λ x. arc_value x) c.args._new.now in
    c.add_between.ensures
    ∙ whole-reaches c.args.at.now a b c.args.number c.size.result c.args._set.now c.args.to.now c.requires.op
    c.at_work-shape.ensures.right c.requires.set c.requires.whole c.requires.to
    (c.size.ensures.value ∙ ap size_of c.at_work-shape.ensures.value)
