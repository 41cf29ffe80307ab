-- Each layer adds its cell.
use Rattle.std.proofs.Common.{◌≡◌, true, refl, sym, ap, subst, ◌∙◌, arith}
use Rattle.sz_cells.specs.Extent.{Extent, holds}
use Rattle.sz_cells.specs.Cells.{Cells}
use Rattle.sz_frame.proofs.Added.{own-at}
use Rattle.sz_ops_move.proofs.Layers.{added-first, added-next, added-all}
use Rattle.sz_ops_move.proofs.fold_layers.add_line.Goals as goal

pub set-requires : goal.set-requires
set-requires c =
    let same : c.loop-layer.to.extent ≡ c.args.shape =
    ap (λ (s : Cells). s.extent) c.loop-layer.invariant ∙ c.requires.to in
    subst (λ (e : Extent). holds e c.cell_above.result ≡ true) (sym same) c.cell_above.ensures.held

pub loop-layer-init : goal.loop-layer-init
loop-layer-init c =
    let to = c.args.to.now in
    added-first to c.args.shape c.args.place (own-at to to.extent refl c.shape.ensures.rising)

pub loop-layer-preserved : goal.loop-layer-preserved
loop-layer-preserved c =
    c.set.ensures
    ∙ (rw (c.loop-layer.invariant, c.cell_above.ensures.value)
    (added-next c.args.to.now c.args.shape c.args.place c.loop-layer.layer c.requires.row))

pub returns : goal.returns
returns c =
    let sides = ap (λ (e : Extent). e.layers) c.shape-2.view_is in
    c.loop-layer.invariant
    ∙ added-all c.args.to.now c.args.shape c.args.place c.loop-layer.layer c.requires.to
    c.a_shape_is_within_limits.ensures (omega (arith, sides))
