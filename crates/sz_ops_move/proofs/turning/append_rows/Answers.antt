-- Each row of the strip is a row of the output.
use Rattle.std.proofs.Common.{◌+◌, ◌<◌, ◌≤◌, ℕ, map, subst, ◌∙◌, arith}
use Rattle.std.proofs.Math.Nat.{mul-le-mul_right}
use Rattle.std.specs.Arc.{arc_value}
use Rattle.sz_spec.specs.Values.{extent_at}
use Rattle.sz_ops_move.proofs.Turned.{row-next}
use Rattle.sz_ops_move.proofs.turning.append_rows.Goals as goal

pub part-requires-clause-within : goal.part-requires-clause-within
part-requires-clause-within c =
    let k = c.sides_of-height.ensures in
    let next : c.loop-j.j + 1 ≤ c.args.wide = omega (arith, c.loop-j-test.true) in
    omega (arith, mul-le-mul_right c.args.pitch next, c.requires.room, c.requires.pitch, k.height)

pub loop-j-preserved : goal.loop-j-preserved
loop-j-preserved c =
    let s = c.args.at.now in
    let e = extent_at s.ins 0 in
    let k = c.sides_of-height.ensures in
    let some : 0 < e.cols = subst (λ (n : ℕ). 0 < n) k.cols k.wide in
    c.in_ok-extend_from_slice.ensures.items
    ∙ row-next s (map (λ a. arc_value a) c.args.inputs.now) c.args.strip.now c.loop-j.turned.items c.part.result.now
    c.args.pitch c.args.row c.args.wide c.loop-j.j c.requires.op c.requires.right k.right some c.requires.within
    c.loop-j-test.true c.requires.strip (c.part.ensures.long ∙ k.height)
    (λ n low. c.part.ensures.each n (omega (arith, low, k.height))) c.loop-j.invariant
