-- A key is related to the cell that it names.
use Rattle.std.proofs.Common.{map, refl, ap, ◌∙◌}
use Rattle.std.specs.Arc.{arc_value}
use Rattle.sz_spec.specs.Values.{Grid}
use Rattle.sz_frame.proofs.Added.{own-at}
use Rattle.sz_refresh.proofs.Matched.{matched-reaches}
use Rattle.sz_refresh.proofs.reached.add_matched.Goals as goal

pub returns : goal.returns
returns c =
    let from = c.args.from.now in
    c.add_named.ensures
    ∙ matched-reaches c.args.at.now (map (λ x. arc_value x) c.args.old.now) (map (λ x. arc_value x) c.args.new.now) from
    c.args.to.now c.cells-keys.result.now c.cells-new_keys.result.now c.requires.op c.at_work.ensures.right
    c.at_work-2.ensures.right c.requires.from (own-at from from.extent refl c.shape.ensures.rising)
    (c.cells-keys.ensures.values ∙ ap (λ (g : Grid). g.values) c.input_of.ensures.value)
    (c.cells-new_keys.ensures.values ∙ ap (λ (g : Grid). g.values) c.input_of-2.ensures.value) c.requires.to
