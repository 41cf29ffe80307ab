-- The operator has one input, and shapes are right.
use Rattle.std.proofs.Common.{◌≡◌, ◌<◌, true, length, subst, arith}
use Rattle.sz_cells.specs.Extent.{Extent, is_extent}
use Rattle.sz_frame.proofs.Inputs.{shape-is}
use Rattle.sz_ops_move.proofs.Inputs.{one-input}
use Rattle.sz_ops_move.proofs.single.sides.Goals as goal

pub bounds-ins-0 : goal.bounds-ins-0
bounds-ins-0 c =
    let op = c.args.at.now.op in
    rw c.ins.ensures.value (omega (arith, c.ins.ensures.arity, one-input op c.requires))

pub returns-clause-one : goal.returns-clause-one
returns-clause-one c = omega (arith, c.ins.ensures.arity, one-input c.args.at.now.op c.requires)

pub returns-clause-right : goal.returns-clause-right
returns-clause-right c =
    let ins = c.args.at.now.ins in
    let op = c.args.at.now.op in
    let some : 0 < length ins = omega (arith, c.ins.ensures.arity, one-input op c.requires) in
    subst (λ (d : Extent). is_extent d ≡ true)
    (shape-is ins 0 c.index-ins-0.result some (rw c.ins.ensures.value at c.index-ins-0.is))
    c.a_shape_is_within_limits.ensures
