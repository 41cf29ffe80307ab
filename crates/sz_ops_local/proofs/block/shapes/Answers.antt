-- The shape rule gives the sides of the output.
use Rattle.std.proofs.Common.{◌≡◌, ◌<◌, ◌&&◌, nat_le, true, length, sym, ap, ◌∙◌, arith, leb-true}
use Rattle.std.proofs.lemmas.Bool.{and_parts}
use Rattle.sz_cells.specs.Extent.{Extent, layered, height_of}
use Rattle.sz_spec.specs.Values.{extent_at}
use Rattle.sz_spec.specs.Operators.Folds.{blocks_over}
use Rattle.sz_frame.proofs.Inputs.{shape-is}
use Rattle.sz_ops_local.proofs.Blocks.{blocked, block-sides}
use Rattle.sz_ops_local.proofs.block.shapes.Goals as goal

pub returns-clause-blocked : goal.returns-clause-blocked
returns-clause-blocked c =
    let s = c.args.at.now in
    let a = c.args in
    let some : 0 < length s.ins = omega (arith, rw c.requires at c.ins.ensures.arity) in
    let first : c.index-ins-0.result ≡ extent_at s.ins 0 =
    shape-is s.ins 0 c.index-ins-0.result some (rw c.ins.ensures.value at c.index-ins-0.is) in
    let told : (nat_le 1 a.h && nat_le 1 a.w) ≡ true = rw c.requires at c.op.ensures.parameters in
    let sides = and_parts _ _ told in
    let made = blocked s a.how a.h a.w c.requires c.out-made.ensures.rule in
    block-sides c.index-ins-0.result c.out-made.result a.h a.w c.a_shape_is_within_limits.ensures
    c.a_shape_is_within_limits-2.ensures (leb-true 1 a.h sides.0) (leb-true 1 a.w sides.1)
    (ap (λ (e : Extent). layered e.layers (blocks_over (height_of e) a.h) (blocks_over e.cols a.w)) first
    ∙ made ∙ sym c.out-made.ensures.value)
