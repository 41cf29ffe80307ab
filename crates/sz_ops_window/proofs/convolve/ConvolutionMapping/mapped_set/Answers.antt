-- Under the weights lie just the cells to which the mapping leads.
use Rattle.std.proofs.Common.{◌≡◌, sym, ap, subst, ◌∙◌}
use Rattle.std.specs.Prelude.{IfOk}
use Rattle.std.specs.Arc.{arc_value}
use Rattle.sz_cells.specs.Extent.{Extent}
use Rattle.sz_cells.specs.Cells.{Cells, cells_where}
use Rattle.sz_cells.proofs.Sets.{cells_where-ext}
use Rattle.sz_spec.specs.Lineage.{mapped}
use Rattle.sz_spec.specs.Operators.Convolve.{is_convolved}
use Rattle.sz_ops_window.proofs.Inputs.{convolve-mapped, input-side}
use Rattle.sz_ops_window.proofs.convolve.ConvolutionMapping.mapped_set.Goals as goal

pub returns : goal.returns
returns c =
    let w = c.args.self.now in
    let s = w.at.now in
    let o = c.args.out in
    let told = rw (c.same_shape-shape.ensures.out, c.mask.ensures) at c.set_under.ensures in
    subst (λ (set : Cells). IfOk c.set_under.result (λ a. arc_value a ≡ set))
    (cells_where-ext s.out (is_convolved s.out w.kernel.now o) (mapped s.op s.ins c.args._input o)
    (λ x held. convolve-mapped s w.kernel.now c.args._input o x w.kind c.same_shape-shape.ensures.ins
    c.requires.input)
    ∙ ap (λ (e : Extent). cells_where e (mapped s.op s.ins c.args._input o))
    (sym (input-side s c.args._input c.same_shape-shape.ensures.ins c.requires.input)))
    told
