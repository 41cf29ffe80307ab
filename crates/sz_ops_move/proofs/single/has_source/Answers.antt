-- There is one input, and exactly the cell is mapped.
use Rattle.std.proofs.Common.{Some, ◌∙◌}
use Rattle.sz_spec.specs.Values.{extent_at}
use Rattle.sz_spec.specs.Lineage.{mapped}
use Rattle.sz_frame.proofs.Added.{own-at}
use Rattle.sz_frame.proofs.OneCell.{any-only}
use Rattle.sz_ops_move.proofs.Inputs.{first-input}
use Rattle.sz_ops_move.proofs.single.has_source.Goals as goal

pub returns : goal.returns
returns c =
    let s = c.args.at.now in
    let e = extent_at s.ins c.args.input in
    let zero = first-input s c.args.input c.requires.mapping c.right_shapes.ensures.site c.requires.input in
    c.has_cell.ensures
    ∙ any-only c.args.from.now e (mapped s.op s.ins c.args.input c.args.out) (Some c.args.source)
    (own-at c.args.from.now e c.requires.from c.shape.ensures.rising) (rw zero c.requires.only)
