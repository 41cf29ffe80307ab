-- Each mark is written once.
use Rattle.std.proofs.Common.{◌+◌, ◌<◌, Bool, false, arith, ◌∙◌, ap, length}
use Rattle.std.proofs.Common.{get_or, get_or-set_other, get_or-set_same, below_more}
use Rattle.std.specs.Prelude.{◌||◌}
use Rattle.sz_ops_window.proofs.sweep.mark_where.Goals as goal

pub loop-k-preserved : goal.loop-k-preserved
loop-k-preserved c =
    let k = c.loop-k.k in
    let first = c.args.first in
    let marks = c.loop-k.marks in
    let b = get_or c.args.voids.now (c.args.start + k) false in
    let v = get_or marks (first + k) false || b in
    let inside : first + k < length marks = omega (arith, c.loop-k.auto.marks, c.requires.room, c.loop-k-test.true) in
    record {
      added = below_more _ _
          (λ i low.
          get_or-set_other marks (first + k) (first + i) v false (omega (arith, low)) ∙ c.loop-k.invariant.added i low)
          (get_or-set_same marks (first + k) v false inside
          ∙ ap (λ (a : Bool). a || b) (c.loop-k.invariant.behind (first + k) (omega arith)));
      before = λ i low.
          get_or-set_other marks (first + k) i v false (omega (arith, low)) ∙ c.loop-k.invariant.before i low;
      behind = λ i past.
          get_or-set_other marks (first + k) i v false (omega (arith, past))
          ∙ c.loop-k.invariant.behind i (omega (arith, past));
    }
