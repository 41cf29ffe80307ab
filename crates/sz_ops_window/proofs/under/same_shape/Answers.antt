-- The operator has one input, of the output's shape.
use Rattle.sz_ops_window.proofs.Inputs.{one-input}
use Rattle.sz_ops_window.proofs.under.same_shape.Goals as goal

pub returns-clause-ins : goal.returns-clause-ins
returns-clause-ins c =
    one-input c.args.at.now c.requires c.right_shapes.ensures.site
