-- A fold of layers reads the first input alone.
use Rattle.std.proofs.Common.{[], ◌∷◌, map, sym, ap, ◌∙◌}
use Rattle.std.specs.Arc.{arc_value}
use Rattle.sz_spec.specs.declared.op.Op.{Op}
use Rattle.sz_spec.specs.declared.op.Op.TheVariants.{FoldLayers}
use Rattle.sz_spec.specs.Values.{Grid}
use Rattle.sz_spec.specs.Evaluation.{value_of}
use Rattle.sz_ops_move.proofs.Layers.{fold-one}
use Rattle.sz_ops_move.proofs.fold_layers.LayerFoldMapping.value.Goals as goal

pub returns : goal.returns
returns c =
    let l = c.args.self.now in
    let grids = map (λ a. arc_value a) c.args.inputs.now in
    let o = c.args.out in
    c.value.ensures
    ∙ ap (λ (g : Grid). value_of (FoldLayers l.fold) (g ∷ []) o) c.input_of.ensures.value
    ∙ fold-one grids l.fold o
    ∙ ap (λ (op : Op). value_of op grids o) (sym l.kind)
