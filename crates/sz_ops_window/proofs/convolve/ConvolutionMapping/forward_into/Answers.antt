-- Under the weights lie just the cells to which the mapping leads.
use Rattle.std.proofs.Common.{◌≡◌, true, subst, ◌∙◌}
use Rattle.sz_cells.specs.Extent.{Extent, holds}
use Rattle.sz_spec.specs.declared.modes.Dir.TheVariants.{Forward}
use Rattle.sz_ops_window.proofs.Inputs.{steps-mapped, input-side}
use Rattle.sz_ops_window.proofs.convolve.ConvolutionMapping.forward_into.Goals as goal

pub add_under-requires-clause-cell : goal.add_under-requires-clause-cell
add_under-requires-clause-cell c =
    rw c.same_shape-shape.ensures.out
    (subst (λ (e : Extent). holds e c.args.cell ≡ true)
    (input-side c.args.self.now.at.now c.args._input c.same_shape-shape.ensures.ins c.requires.input) c.requires.cell)

pub returns : goal.returns
returns c =
    (rw (c.same_shape-shape.ensures.out, c.mask.ensures) at c.add_under.ensures)
    ∙ steps-mapped Forward c.args.self.now.at.now c.args.self.now.kernel.now c.args._input c.args.cell c.args.to.now
    c.args.self.now.kind c.same_shape-shape.ensures.ins c.requires.input
