-- Each layer appends its cell.
use Rattle.std.proofs.Common.{◌||◌, Bool, List, ap, ◌∙◌, arith}
use Rattle.std.specs.List.{list_any}
use Rattle.sz_cells.specs.declared.Cell.{Cell}
use Rattle.sz_cells.specs.Extent.{Extent}
use Rattle.sz_cells.specs.Cells.{is_same}
use Rattle.sz_ops_move.proofs.Layers.{named-first, named-next, named-all}
use Rattle.sz_ops_move.proofs.fold_layers.name_line.Goals as goal

pub loop-layer-init : goal.loop-layer-init
loop-layer-init c = λ x.
    named-first c.args.shape c.args.place x (list_any (is_same x) c.args.cells.now.items)

pub loop-layer-preserved : goal.loop-layer-preserved
loop-layer-preserved c = λ x.
    ap (λ (xs : List Cell). list_any (is_same x) xs) c.in_ok-push.ensures.items
    ∙ named-next c.args.shape c.args.place c.loop-layer.layer x c.cell_above.result c.loop-layer.cells.items
    (list_any (is_same x) c.args.cells.now.items) c.requires.row c.cell_above.ensures.value c.cell_above.ensures.held
    (c.loop-layer.invariant x)

pub returns : goal.returns
returns c = λ x.
    let sides = ap (λ (e : Extent). e.layers) c.shape.view_is in
    c.loop-layer.invariant x
    ∙ ap (λ (b : Bool). list_any (is_same x) c.args.cells.now.items || b)
    (named-all c.args.shape c.args.place c.loop-layer.layer x c.a_shape_is_within_limits.ensures
    (omega (arith, sides)))
