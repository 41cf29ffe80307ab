-- There is one input, and exactly the cell is mapped.
use Rattle.std.proofs.Common.{◌≡◌, true, Some, sym, ap, subst, ◌∙◌}
use Rattle.sz_cells.specs.Extent.{Extent, holds}
use Rattle.sz_spec.specs.Values.{extent_at}
use Rattle.sz_spec.specs.Lineage.{mapped}
use Rattle.sz_frame.proofs.OneCell.{adds-only}
use Rattle.sz_ops_move.proofs.Inputs.{first-input}
use Rattle.sz_ops_move.proofs.single.add_source.Goals as goal

pub add_cell-requires : goal.add_cell-requires
add_cell-requires c =
    let s = c.args.at.now in
    let zero = first-input s c.args.input c.requires.mapping c.right_shapes.ensures.site c.requires.input in
    subst (λ (e : Extent). holds e c.args.source ≡ true) (sym (c.requires.to ∙ ap (extent_at s.ins) zero))
    c.requires.held

pub returns : goal.returns
returns c =
    let s = c.args.at.now in
    let zero = first-input s c.args.input c.requires.mapping c.right_shapes.ensures.site c.requires.input in
    c.add_cell.ensures
    ∙ adds-only c.args.to.now (extent_at s.ins c.args.input) (mapped s.op s.ins c.args.input c.args.out)
    (Some c.args.source) c.requires.to (rw zero c.requires.only)
