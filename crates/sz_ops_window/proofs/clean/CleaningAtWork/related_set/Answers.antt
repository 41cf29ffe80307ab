-- Under the window lie just the related cells.
use Rattle.std.proofs.Common.{◌≡◌, map, sym, ap, subst, ◌∙◌}
use Rattle.std.specs.Prelude.{IfOk}
use Rattle.std.specs.Arc.{arc_value}
use Rattle.sz_cells.specs.Extent.{Extent}
use Rattle.sz_cells.specs.Cells.{Cells, cells_where}
use Rattle.sz_cells.proofs.Sets.{cells_where-ext}
use Rattle.sz_spec.specs.Lineage.{related}
use Rattle.sz_spec.specs.Operators.Convolve.{is_convolved}
use Rattle.sz_ops_window.proofs.Inputs.{clean-side, clean-related}
use Rattle.sz_ops_window.proofs.clean.CleaningAtWork.related_set.Goals as goal

pub returns : goal.returns
returns c =
    let w = c.args.self.now in
    let s = w.at.now in
    let related_to = related s.op (map (λ a. arc_value a) w.inputs.now) c.args._input c.args.out in
    subst (λ (set : Cells). IfOk c.set_under.result (λ a. arc_value a ≡ set))
    (cells_where-ext s.out (is_convolved s.out c.window.result c.args.out) related_to
    (λ x held. c.window.ensures x held
    ∙ clean-related s w.t (map (λ a. arc_value a) w.inputs.now) c.args._input c.args.out x w.kind c.requires.right.site
    c.requires.input)
    ∙ ap (λ (e : Extent). cells_where e related_to)
    (sym (clean-side s w.t c.args._input w.kind c.requires.right.site c.requires.input)))
    (rw c.out.ensures.value at c.set_under.ensures)
