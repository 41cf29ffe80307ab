-- Under the weights lie just the cells to which the mapping leads.
use Rattle.std.proofs.Common.{◌∙◌}
use Rattle.sz_spec.specs.declared.modes.Dir.TheVariants.{Back}
use Rattle.sz_ops_window.proofs.Inputs.{steps-mapped, input-side}
use Rattle.sz_ops_window.proofs.convolve.ConvolutionMapping.back_into.Goals as goal

pub add_under-requires-clause-to : goal.add_under-requires-clause-to
add_under-requires-clause-to c =
    rw c.same_shape-shape.ensures.out
    (c.requires.to ∙ input-side c.args.self.now.at.now c.args._input c.same_shape-shape.ensures.ins c.requires.input)

pub returns : goal.returns
returns c =
    (rw (c.same_shape-shape.ensures.out, c.mask.ensures) at c.add_under.ensures)
    ∙ steps-mapped Back c.args.self.now.at.now c.args.self.now.kernel.now c.args._input c.args.out c.args.to.now
    c.args.self.now.kind c.same_shape-shape.ensures.ins c.requires.input
