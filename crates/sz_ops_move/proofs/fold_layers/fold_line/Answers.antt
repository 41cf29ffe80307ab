-- Each layer's number comes behind those of the layers before it.
use Rattle.std.proofs.Common.{◌≡◌, ◌∷◌, [], ◌++◌, true, subst, sym, ap, ◌∙◌, arith}
use Rattle.std.specs.Prelude.{ℤ, Option}
use Rattle.sz_cells.specs.declared.Cell.{Cell}
use Rattle.sz_cells.specs.Extent.{Extent, is_extent, holds}
use Rattle.sz_cells.specs.Cells.{Cells, cells_where}
use Rattle.sz_cells.proofs.Shapes.{sides}
use Rattle.sz_spec.specs.Values.{numbers_at, value_at}
use Rattle.sz_spec.specs.Operators.Folds.{fold_of}
use Rattle.sz_frame.specs.Folding.{Summary, summary_of, numbers_in}
use Rattle.sz_frame.proofs.FoldedCells.{numbers-few}
use Rattle.sz_ops_move.proofs.Layers.{is_before, above, line-first, line-next, line-all}
use Rattle.sz_ops_move.proofs.fold_layers.fold_line.Goals.{After-a_shape_is_within_limits}
use Rattle.sz_ops_move.proofs.fold_layers.fold_line.Goals as goal

right : (c : After-a_shape_is_within_limits) → is_extent c.args.input.now.extent ≡ true
right c = subst (λ (e : Extent). is_extent e ≡ true) c.shape-shape.ensures c.a_shape_is_within_limits.ensures

layers : (c : After-a_shape_is_within_limits) → c.shape.inside.layers ≡ c.args.input.now.extent.layers
layers c = ap (λ (e : Extent). e.layers) (c.shape.view_is ∙ c.shape-shape.ensures)

pub add_all-requires : goal.add_all-requires
add_all-requires c =
    let g = c.args.input.now in
    let few = numbers-few g (is_before g.extent c.args.place c.loop-layer.layer) in
    let count = ap (λ (s : Summary). s.count) c.loop-layer.invariant in
    let most = (sides g.extent (right (goal.at.add_all-requires c).After-a_shape_is_within_limits)).5 in
    omega (arith, few, count, most)

pub loop-layer-init : goal.loop-layer-init
loop-layer-init c =
    c.new-folding.ensures ∙ sym (ap summary_of (line-first c.args.input.now c.args.place))

pub loop-layer-preserved : goal.loop-layer-preserved
loop-layer-preserved c =
    let g = c.args.input.now in
    let place = c.args.place in
    let n = c.loop-layer.layer in
    let zs = numbers_at g (cells_where g.extent (is_before g.extent place n)) in
    let s = (goal.at.loop-layer-preserved c).After-a_shape_is_within_limits in
    let held : holds g.extent (above g.extent place n) ≡ true =
    subst (λ (e : Extent). holds e (above e place n) ≡ true) c.shape-shape.ensures
    (subst (λ (x : Cell). holds c.shape-shape.result x ≡ true) c.cell_above.ensures.value c.cell_above.ensures.held) in
    let value = c.at.ensures
    ∙ ap (value_at g) (c.cell_above.ensures.value ∙ ap (λ (e : Extent). above e place n) c.shape-shape.ensures) in
    c.add_all.ensures zs c.loop-layer.invariant
    ∙ ap summary_of
    (ap (λ (v : Option ℤ). zs ++ numbers_in (v ∷ [])) value
    ∙ line-next g place n (right s) (omega (arith, layers s)) c.requires.row held)

pub returns : goal.returns
returns c =
    let g = c.args.input.now in
    let n = c.loop-layer.layer in
    let s = (goal.at.returns c).After-a_shape_is_within_limits in
    c.result.ensures (numbers_at g (cells_where g.extent (is_before g.extent c.args.place n))) c.loop-layer.invariant
    ∙ ap (λ (x : Cells). fold_of c.args.how (numbers_at g x))
    (line-all g c.args.place n (right s) (omega (arith, layers s)))
