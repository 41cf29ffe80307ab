-- Each value is made of those two at its place.
use Rattle.std.proofs.Common.{◌≡◌, ◌<◌, min, length, sym, ap, ◌∙◌, arith, None, Option}
use Rattle.std.specs.Prelude.{ℤ}
use Rattle.std.specs.List.{zip}
use Rattle.std.proofs.lemmas.Slice.Zip.{length-zip}
use Rattle.sz_spec.specs.Values.{with_numbers}
use Rattle.sz_ops_local.proofs.Made.{made-next, made-all, zip-at, zip-below}
use Rattle.sz_ops_local.proofs.whole.twos.Goals as goal

pub loop-k-preserved : goal.loop-k-preserved
loop-k-preserved g c =
    let inv = c.loop-k.invariant in
    let xs = c.args.first.now in
    let ys = c.args.second.now in
    let f : Option ℤ × Option ℤ → Option ℤ = λ p. with_numbers (g.F.OfTwo.made c.args.f.now) p.0 p.1 in
    let low : c.loop-k.k < min (length xs) (length ys) = omega (arith, c.loop-k-test.true, c.min-count.ensures) in
    record {
      made = c.push_reserved.ensures.items
          ∙ made-next f (zip xs ys) c.loop-k.values.items (None, None) c.loop-k.k c.made_of_two.result
          (zip-below xs ys c.loop-k.k low) inv.made
          (c.made_of_two.ensures ∙ ap f (sym (zip-at xs ys c.loop-k.k low)));
      count = omega (arith, c.push_reserved.ensures.len, inv.count);
      room = omega (arith, c.push_reserved.ensures.capacity, inv.room);
    }

pub returns : goal.returns
returns g c =
    let xs = c.args.first.now in
    let ys = c.args.second.now in
    let f : Option ℤ × Option ℤ → Option ℤ = λ p. with_numbers (g.F.OfTwo.made c.args.f.now) p.0 p.1 in
    let last : c.loop-k.k ≡ length (zip xs ys) =
    omega (arith, c.loop-k.auto.k-end, c.loop-k-test.false, length-zip xs ys) in
    made-all f (zip xs ys) c.loop-k.values.items c.loop-k.k last c.loop-k.invariant.made
