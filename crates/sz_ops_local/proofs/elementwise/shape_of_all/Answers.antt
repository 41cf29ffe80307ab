-- By the shape rules each input has the output's shape, which is within the limits.
use Rattle.std.proofs.Common.{arith}
use Rattle.sz_ops_local.proofs.Places.{same-shapes}
use Rattle.sz_ops_local.proofs.elementwise.shape_of_all.Goals as goal

pub returns-clause-ins : goal.returns-clause-ins
returns-clause-ins c = λ i few.
    same-shapes c.args.at.now.op c.args.at.now.ins c.args.at.now.out i c.requires (omega (
      arith,
      few,
      c.ins.ensures.arity,
    )) c.out-shape.ensures.rule
