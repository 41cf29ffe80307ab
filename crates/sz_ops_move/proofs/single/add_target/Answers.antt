-- There is one input, and exactly the cell that is there is mapped.
use Rattle.std.proofs.Common.{◌∙◌}
use Rattle.sz_spec.specs.Lineage.{mapped}
use Rattle.sz_frame.proofs.OneCell.{adds-only}
use Rattle.sz_ops_move.proofs.Inputs.{first-input}
use Rattle.sz_ops_move.proofs.single.add_target.Goals as goal

pub returns : goal.returns
returns c =
    let s = c.args.at.now in
    let zero = first-input s c.args.input c.requires.mapping c.right_shapes.ensures.site c.requires.input in
    c.add_cell.ensures
    ∙ adds-only c.args.to.now s.out (λ o. mapped s.op s.ins c.args.input o c.args.cell) c.args.target
    c.requires.to (rw zero c.requires.only)
