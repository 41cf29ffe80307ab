-- Each value is made of that at its place.
use Rattle.std.proofs.Common.{◌≡◌, length, ◌∙◌, arith, None}
use Rattle.sz_spec.specs.Values.{with_number}
use Rattle.sz_ops_local.proofs.Made.{made-next, made-all}
use Rattle.sz_ops_local.proofs.whole.ones.Goals as goal

pub loop-k-preserved : goal.loop-k-preserved
loop-k-preserved g c =
    let inv = c.loop-k.invariant in
    let f = with_number (g.F.OfOne.made c.args.f.now) in
    record {
      made = c.push_reserved.ensures.items
          ∙ made-next f c.args.first.now c.loop-k.values.items None c.loop-k.k c.made_of_one.result c.loop-k-test.true
          inv.made c.made_of_one.ensures;
      count = omega (arith, c.push_reserved.ensures.len, inv.count);
      room = omega (arith, c.push_reserved.ensures.capacity, inv.room);
    }

pub returns : goal.returns
returns g c =
    let f = with_number (g.F.OfOne.made c.args.f.now) in
    let last : c.loop-k.k ≡ length c.args.first.now = omega (arith, c.loop-k.auto.k-end, c.loop-k-test.false) in
    made-all f c.args.first.now c.loop-k.values.items c.loop-k.k last c.loop-k.invariant.made
