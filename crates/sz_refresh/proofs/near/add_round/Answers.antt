-- What a set reaches is in the squares round its cells.
use Rattle.std.proofs.Common.{◌≡◌, map, ap, ap₂, subst, ◌∙◌}
use Rattle.std.specs.Arc.{arc_value}
use Rattle.sz_cells.specs.Extent.{Extent}
use Rattle.sz_cells.specs.Cells.{Cells, any_cell, no_cells, with_those}
use Rattle.sz_spec.specs.Operators.Clean.{is_in_square}
use Rattle.sz_spec.specs.Shapes.{Site}
use Rattle.sz_spec.specs.Work.{IsAtWork}
use Rattle.sz_refresh.proofs.Squares.{clean-shape, clean-round}
use Rattle.sz_refresh.proofs.near.add_round.Goals as goal

pub add_related-requires-clause-near : goal.add_related-requires-clause-near
add_related-requires-clause-near c =
    let s = c.args.old.now.at.now in
    let a = map (λ x. arc_value x) c.args.old.now.inputs.now in
    ap (λ (set : Cells). set.extent) c.add_squares.ensures
    ∙ ap (λ (set : Cells). set.extent) c.in_ok-near.ensures
    ∙ c.shape.ensures.value
    ∙ c.requires.from
    ∙ clean-shape c.args.old.now.t s a c.args.old.now.kind c.requires.old

pub returns : goal.returns
returns c =
    let s = c.args.old.now.at.now in
    let a = map (λ x. arc_value x) c.args.old.now.inputs.now in
    let b = map (λ x. arc_value x) c.args.new.now.inputs.now in
    let from = c.args.from.now in
    let second = subst (λ (z : Site). IsAtWork z b) c.requires.site c.requires.new in
    let shape : from.extent ≡ s.out =
    c.requires.from ∙ clean-shape c.args.old.now.t s a c.args.old.now.kind c.requires.old in
    let made : c.add_squares.new.to ≡ with_those (no_cells s.out) (λ o. any_cell (λ x. is_in_square s.out x o) from) =
    c.add_squares.ensures
    ∙ ap₂ (λ (set : Cells) (e : Extent). with_those set (λ o. any_cell (λ x. is_in_square e x o) from))
    (c.in_ok-near.ensures ∙ ap no_cells (c.shape.ensures.value ∙ shape)) shape in
    c.add_related.ensures
    ∙ clean-round c.args.old.now.t s a b from c.add_squares.new.to c.args.to.now c.args.old.now.kind
    c.requires.old second
    made c.requires.to
