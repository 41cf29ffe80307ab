-- There is one input, and exactly the cell is mapped.
use Rattle.std.proofs.Common.{◌≡◌, ℕ, Some, sym, ap, subst, ◌∙◌}
use Rattle.std.specs.Prelude.{IfOk}
use Rattle.std.specs.Arc.{arc_value}
use Rattle.sz_cells.specs.Extent.{Extent}
use Rattle.sz_cells.specs.Cells.{Cells, cells_where}
use Rattle.sz_spec.specs.Values.{extent_at}
use Rattle.sz_spec.specs.Lineage.{mapped}
use Rattle.sz_frame.specs.Single.{is_cell}
use Rattle.sz_frame.proofs.OneCell.{set-only}
use Rattle.sz_ops_move.proofs.Inputs.{first-input}
use Rattle.sz_ops_move.proofs.single.set_of_source.Goals as goal

pub returns : goal.returns
returns c =
    let s = c.args.at.now in
    let zero = first-input s c.args.input c.requires.mapping c.sides-shape.ensures.site c.requires.input in
    subst (λ (set : Cells). IfOk c.set_of_cell.result (λ a. arc_value a ≡ set))
    (ap (λ (d : Extent). cells_where d (is_cell (Some c.args.source))) c.sides-shape.ensures.input
    ∙ set-only (extent_at s.ins 0) (mapped s.op s.ins 0 c.args.out) (Some c.args.source) c.requires.only
    ∙ ap (λ (i : ℕ). cells_where (extent_at s.ins i) (mapped s.op s.ins i c.args.out)) (sym zero))
    c.set_of_cell.ensures
