-- A cell that is met is one of the line, and one that is not is one layer more without a cell of the set.
use Rattle.std.proofs.Common.{◌≡◌, true, false, refl, sym, ap, subst, ◌∙◌, arith}
use Rattle.sz_cells.specs.declared.Cell.{Cell}
use Rattle.sz_cells.specs.Extent.{Extent}
use Rattle.sz_cells.specs.Cells.{is_same, any_cell}
use Rattle.sz_frame.proofs.Added.{own-at}
use Rattle.sz_ops_move.specs.Moving.{is_in_line}
use Rattle.sz_frame.proofs.OneCell.{has-one}
use Rattle.sz_frame.proofs.Passing.{met-wider}
use Rattle.sz_ops_move.proofs.Layers.{above, met-first, met-next, met-line, met-all}
use Rattle.sz_ops_move.proofs.fold_layers.meets_line.Goals as goal

pub loop-layer-init : goal.loop-layer-init
loop-layer-init c = met-first c.args.from.now c.args.shape c.args.place

pub returns-then-has : goal.returns-then-has
returns-then-has c =
    let from = c.args.from.now in
    let e = c.args.shape in
    let cell = c.cell_above.result in
    sym (met-wider from (is_same cell) (is_in_line e c.args.place)
    (λ x t. met-line e c.args.place c.loop-layer.layer x c.requires.row
    (subst (λ (d : Cell). is_same d x ≡ true) c.cell_above.ensures.value t))
    (sym (has-one from cell (own-at from from.extent refl c.shape.ensures.rising)) ∙ sym c.has.ensures ∙ c.if-has.true))

pub loop-layer-preserved : goal.loop-layer-preserved
loop-layer-preserved c =
    let from = c.args.from.now in
    let e = c.args.shape in
    let here : any_cell (is_same (above e c.args.place c.loop-layer.layer)) from ≡ false =
    ap (λ (d : Cell). any_cell (is_same d) from) (sym c.cell_above.ensures.value)
    ∙ sym (has-one from c.cell_above.result (own-at from from.extent refl c.shape.ensures.rising))
    ∙ sym c.has.ensures ∙ c.if-has.false in
    sym (rw (c.loop-layer.invariant, here) at (met-next from e c.args.place c.loop-layer.layer c.requires.row))

pub returns : goal.returns
returns c =
    let from = c.args.from.now in
    let sides = ap (λ (e : Extent). e.layers) c.shape-2.view_is in
    sym (sym (met-all from c.args.shape c.args.place c.loop-layer.layer
    (own-at from c.args.shape c.requires.from c.shape.ensures.rising) c.a_shape_is_within_limits.ensures
    (omega (arith, sides)))
    ∙ c.loop-layer.invariant)
