-- Exactly the cell that is there is related.
use Rattle.std.proofs.Common.{map, ◌∙◌}
use Rattle.std.specs.Arc.{arc_value}
use Rattle.sz_spec.specs.Values.{extent_at}
use Rattle.sz_spec.specs.Lineage.{related}
use Rattle.sz_frame.proofs.OneCell.{adds-only}
use Rattle.sz_ops_move.proofs.lookup.MatchingAtWork.back_into.Goals as goal

pub returns : goal.returns
returns c =
    let s = c.args.self.now.at.now in
    let grids = map (λ a. arc_value a) c.args.self.now.inputs.now in
    c.add_cell.ensures
    ∙ adds-only c.args.to.now (extent_at s.ins c.args.input) (related s.op grids c.args.input c.args.out)
    c.cell_of.result c.requires.to c.cell_of.ensures.only
