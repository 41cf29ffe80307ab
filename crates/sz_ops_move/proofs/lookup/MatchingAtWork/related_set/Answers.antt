-- Exactly the cell that is there is related.
use Rattle.std.proofs.Common.{◌≡◌, map, ap, subst, ◌∙◌}
use Rattle.std.specs.Prelude.{IfOk}
use Rattle.std.specs.Arc.{arc_value}
use Rattle.sz_cells.specs.Extent.{Extent}
use Rattle.sz_cells.specs.Cells.{Cells, cells_where}
use Rattle.sz_spec.specs.Values.{extent_at}
use Rattle.sz_spec.specs.Lineage.{related}
use Rattle.sz_frame.specs.Single.{is_cell}
use Rattle.sz_frame.proofs.OneCell.{set-only}
use Rattle.sz_frame.proofs.Inputs.{shape-is}
use Rattle.sz_ops_move.proofs.lookup.MatchingAtWork.related_set.Goals as goal

pub returns : goal.returns
returns c =
    let s = c.args.self.now.at.now in
    let grids = map (λ a. arc_value a) c.args.self.now.inputs.now in
    let e = extent_at s.ins c.args.input in
    let shape =
    shape-is s.ins c.args.input c.index-ins-input.result c.requires.input
    (rw c.ins.ensures.value at c.index-ins-input.is) in
    subst (λ (set : Cells). IfOk c.set_of_cell.result (λ a. arc_value a ≡ set))
    (ap (λ (d : Extent). cells_where d (is_cell c.cell_of.result)) shape
    ∙ set-only e (related s.op grids c.args.input c.args.out) c.cell_of.result c.cell_of.ensures.only)
    c.set_of_cell.ensures
