-- The numbers of the window are those of the block.
use Rattle.std.proofs.Common.{ap, ◌∙◌}
use Rattle.sz_spec.specs.Operators.Folds.{fold_of}
use Rattle.sz_ops_local.specs.Windows.{is_in}
use Rattle.sz_ops_local.proofs.Blocks.{block-numbers}
use Rattle.sz_ops_local.proofs.block.value.Goals as goal

pub returns : goal.returns
returns c =
    let a = c.args in
    c.fold.ensures
    ∙ ap (fold_of a.how)
    (block-numbers a.input.now a.at.now.ins a.how a.h a.w a.out (is_in c.window_of.result) c.requires.input
    c.window_of.ensures.cells)
