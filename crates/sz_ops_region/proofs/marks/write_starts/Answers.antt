-- The index stays where the word differs from the one before it.
use Rattle.std.proofs.Common.{◌≡◌, ℕ, ◌+◌, ◌<◌, ◌≤◌, List, length, map, refl, sym, ap, subst, ◌∙◌}
use Rattle.std.proofs.Common.{arith, get_or-set_same, length-take-le}
use Rattle.std.proofs.Math.ListN.{set, length-set}
use Rattle.sz_ops_region.specs.Marks.{mark_in}
use Rattle.sz_ops_region.specs.Stretches.{AreStarts}
use Rattle.sz_ops_region.proofs.Stretches.{starts-first, starts-on, starts-more, starts-kept}
use Rattle.sz_ops_region.proofs.Stretches.{starts-stretches}
use Rattle.sz_ops_region.proofs.marks.write_starts.Goals as goal
use Rattle.sz_ops_region.proofs.marks.write_starts.Goals.{then-differs, else-differs}

pub loop-index-init : goal.loop-index-init
loop-index-init c =
    let xs = c.args.starts.now.items in
    record {
      long = length-set xs 0 0 ∙ c.requires.room;
      few = omega arith;
      starts = starts-first c.args.words.now xs (omega (arith, c.requires.room));
    }

pub loop-index-preserved : goal.loop-index-preserved
loop-index-preserved c =
    let inv = c.loop-index.invariant in
    let xs = c.loop-index.starts.items in
    let words = c.args.words.now in
    let n = c.loop-index.index in
    let count = c.loop-index.count in
    let inside : count < length xs = omega (arith, inv.long, inv.few, c.loop-index-test.true) in
    elim c.if-differs.branch [
      | then-differs w ↦
          rw w.count-is (record {
            long = length-set xs count n ∙ inv.long;
            few = omega (arith, inv.few);
            starts = starts-more words count n xs inv.starts inside;
          })
      | else-differs w ↦
          let on = starts-on words count n xs inv.starts (omega (arith, c.loop-index.auto.index)) w.if-differs.false in
          let same : count + 0 ≡ count = omega arith in
          rw w.count-is (record {
            long = length-set xs count n ∙ inv.long;
            few = omega (arith, inv.few);
            starts = subst (λ (i : ℕ). AreStarts words i (n + 1) (set xs count n)) (sym same) on;
          })
    ]

pub returns : goal.returns
returns c =
    let inv = c.loop-index.invariant in
    let words = c.args.words.now in
    let count = c.loop-index.count in
    let n = length words in
    let xs = c.loop-index.starts.items in
    let ys = set xs count n in
    let all : c.loop-index.index ≡ n = omega (
      arith,
      c.loop-index-test.false,
      c.loop-index.auto.index-end,
      c.requires.some,
    ) in
    let few : count ≤ n = omega (arith, inv.few, all) in
    let inside : count < length xs = omega (arith, inv.long, few) in
    starts-stretches words (map mark_in words) count ys c.truncate.new.self.items refl
    (starts-kept words count n n xs (subst (λ (i : ℕ). AreStarts words count i xs) all inv.starts))
    (get_or-set_same xs count n 0 inside) few c.truncate.ensures.items
    (ap (λ (zs : List ℕ). length zs) c.truncate.ensures.items
    ∙ length-take-le (count + 1) ys (omega (arith, length-set xs count n, inside)))
