-- Under the weights lie just the cells to which the mapping leads.
use Rattle.std.proofs.Common.{sym, ap, ◌∙◌}
use Rattle.sz_cells.specs.Cells.{any_cell, has}
use Rattle.sz_cells.proofs.Sets.{any_cell-ext}
use Rattle.sz_spec.specs.Lineage.{mapped}
use Rattle.sz_spec.specs.Operators.Convolve.{is_convolved}
use Rattle.sz_frame.proofs.Added.{own-at}
use Rattle.sz_ops_window.proofs.Inputs.{convolve-mapped, input-side}
use Rattle.sz_ops_window.proofs.convolve.ConvolutionMapping.meets.Goals as goal

pub meets_under-requires-clause-from : goal.meets_under-requires-clause-from
meets_under-requires-clause-from c =
    rw c.same_shape-shape.ensures.out
    (c.requires.from ∙ input-side c.args.self.now.at.now c.args._input c.same_shape-shape.ensures.ins c.requires.input)

pub returns : goal.returns
returns c =
    let w = c.args.self.now in
    let s = w.at.now in
    let from = c.args.from.now in
    let o = c.args.out in
    let told = rw (c.same_shape-shape.ensures.out, c.mask.ensures) at c.meets_under.ensures in
    let own = own-at from s.out (c.requires.from ∙ input-side s c.args._input c.same_shape-shape.ensures.ins
    c.requires.input) c.shape.ensures.rising in
    told
    ∙ ap (any_cell (is_convolved s.out w.kernel.now o)) own
    ∙ any_cell-ext s.out (has from) (is_convolved s.out w.kernel.now o) (λ x. mapped s.op s.ins c.args._input o x)
    (λ x held passes. convolve-mapped s w.kernel.now c.args._input o x w.kind c.same_shape-shape.ensures.ins
    c.requires.input)
    ∙ ap (any_cell (λ x. mapped s.op s.ins c.args._input o x)) (sym own)
