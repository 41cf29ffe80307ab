-- A block's value is that of the first input.
use Rattle.std.proofs.Common.{[], ◌∷◌, map, sym, ap, ◌∙◌}
use Rattle.std.specs.Arc.{arc_value}
use Rattle.sz_spec.specs.declared.op.Op.{Op}
use Rattle.sz_spec.specs.declared.op.Op.TheVariants.{Block}
use Rattle.sz_spec.specs.Values.{Grid}
use Rattle.sz_spec.specs.Evaluation.{value_of}
use Rattle.sz_ops_local.proofs.Blocks.{block-one}
use Rattle.sz_ops_local.proofs.block.FoldBlocksMapping.value.Goals as goal

pub returns : goal.returns
returns c =
    let b = c.args.self.now in
    let grids = map (λ a. arc_value a) c.args.inputs.now in
    let o = c.args.out in
    c.value.ensures
    ∙ ap (λ (g : Grid). value_of (Block b.fold b.h b.w) (g ∷ []) o) c.input_of-input.ensures.value
    ∙ block-one grids b.fold b.h b.w o
    ∙ ap (λ (op : Op). value_of op grids o) (sym b.kind)
