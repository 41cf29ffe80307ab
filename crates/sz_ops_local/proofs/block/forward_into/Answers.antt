-- The one output cell is that of the block.
use Rattle.std.proofs.Common.{◌≡◌, ℕ, true, Some, subst, ◌∙◌}
use Rattle.sz_cells.specs.Extent.{holds}
use Rattle.sz_spec.specs.declared.op.Op.TheVariants.{Block}
use Rattle.sz_spec.specs.Values.{extent_at}
use Rattle.sz_spec.specs.Lineage.{mapped}
use Rattle.sz_frame.proofs.OneCell.{adds-only}
use Rattle.sz_ops_local.proofs.Blocks.{block-input}
use Rattle.sz_ops_local.proofs.block.forward_into.Goals.{After-ins}
use Rattle.sz_ops_local.proofs.block.forward_into.Goals as goal

zero : (c : After-ins) → c.args.input ≡ 0
zero c = block-input c.args.at.now.ins c.args.input (rw c.requires.op at c.ins.ensures.arity) c.requires.input

pub target-requires-clause-cell : goal.target-requires-clause-cell
target-requires-clause-cell c =
    subst (λ (i : ℕ). holds (extent_at c.args.at.now.ins i) c.args.cell ≡ true)
    (zero (goal.at.target-requires-clause-cell c).After-ins) c.requires.cell

pub returns : goal.returns
returns c =
    let a = c.args in
    c.add_cell.ensures
    ∙ adds-only a.to.now a.at.now.out (λ o. mapped (Block a.how a.h a.w) a.at.now.ins a.input o a.cell)
    (Some c.target.result) c.requires.to (rw (zero (goal.at.returns c).After-ins) c.target.ensures.only)
