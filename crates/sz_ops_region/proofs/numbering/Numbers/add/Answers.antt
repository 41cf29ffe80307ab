-- The first cell with the label is the cell itself, or an earlier one that has a mark; and no number is greater than
-- the index of the cell at which it is given.
use Rattle.std.proofs.Common.{◌≡◌, ◌≢◌, ◌+◌, ◌-◌, ◌<◌, List, length, get_or, sym, ap, subst, ◌∙◌, arith}
use Rattle.std.proofs.Math.ListN.{set}
use Rattle.sz_ops_region.specs.declared.marks.Mark.{Mark}
use Rattle.sz_ops_region.specs.declared.marks.Mark.TheVariants.{Alone, Numbered}
use Rattle.sz_ops_region.specs.Marks.{mark_at, number_in}
use Rattle.sz_ops_region.specs.Numbers.{AreGrouped}
use Rattle.sz_ops_region.proofs.Numbers.{grouped-alone, grouped-first, grouped-more, given-has, tall-alone}
use Rattle.sz_ops_region.proofs.numbering.Numbers.add.Goals as goal

pub returns-then-first-index-clause-grouped : goal.returns-then-first-index-clause-grouped
returns-then-first-index-clause-grouped c =
    let labels = c.args.labels.now in
    let n = c.args.index in
    let xs = c.args.self.now.marks in
    let count = c.args.self.now.count in
    let own : get_or labels n 0 ≡ 1 + n = omega (arith, c.if-label-eq0.false, c.if-first-index.true) in
    subst (λ (ms : List Mark). AreGrouped labels ms count (n + 1)) (sym c.set_alone.ensures)
    (grouped-alone labels xs count n c.requires.grouped c.requires.firsts c.requires.index own)

pub at-requires : goal.at-requires
at-requires c =
    let labels = c.args.labels.now in
    let n = c.args.index in
    let r = get_or labels n 0 - 1 in
    let is : get_or labels n 0 ≡ 1 + r = omega (arith, c.if-label-eq0.false) in
    omega (arith, (c.requires.firsts n r is).0, c.requires.index, c.requires.grouped.long)

pub give-requires-clause-small : goal.give-requires-clause-small
give-requires-clause-small c =
    let r = get_or c.args.labels.now c.args.index 0 - 1 in
    omega (
      arith,
      c.requires.grouped.few r c.in-Numbered.number (ap number_in (sym c.in-Numbered.ensures)),
      c.requires.count,
      c.requires.index,
      c.requires.few,
    )

pub returns-in-Numbered-clause-grouped : goal.returns-in-Numbered-clause-grouped
returns-in-Numbered-clause-grouped c =
    let labels = c.args.labels.now in
    let n = c.args.index in
    let r = get_or labels n 0 - 1 in
    let xs = c.args.self.now.marks in
    let count = c.args.self.now.count in
    let i = c.in-Numbered.number in
    let is : get_or labels n 0 ≡ 1 + r = omega (arith, c.if-label-eq0.false) in
    let apart : r ≢ n = λ at. omega (arith, at, c.if-first-index.false) in
    subst (λ (ms : List Mark). AreGrouped labels ms count (n + 1)) (sym c.give.ensures)
    (grouped-more labels xs count n r i c.requires.grouped c.requires.firsts c.requires.index is apart
    (ap number_in (sym c.in-Numbered.ensures)))

pub returns-in_default : goal.returns-in_default
returns-in_default c =
    let labels = c.args.labels.now in
    let n = c.args.index in
    let r = get_or labels n 0 - 1 in
    let xs = c.args.self.now.marks in
    let count = c.args.self.now.count in
    let zs = set xs r (Numbered count) in
    let f = c.requires.grouped in
    let is : get_or labels n 0 ≡ 1 + r = omega (arith, c.if-label-eq0.false) in
    let apart : r ≢ n = λ at. omega (arith, at, c.if-first-index.false) in
    let first = c.requires.firsts n r is in
    let before : r < n = omega (arith, first.0, apart) in
    let inside : r < length xs = omega (arith, before, c.requires.index, f.long) in
    let alone : mark_at xs r ≡ Alone =
    tall-alone (mark_at xs r) (f.tall r before (omega (arith, first.1)))
    (λ j at. c.in_default.not-Numbered j (c.at.ensures ∙ at)) in
    let two = grouped-more labels zs (count + 1) n r count (grouped-first labels xs count n r f alone)
    c.requires.firsts c.requires.index is apart (given-has xs r count inside) in
    record {
      count = omega (arith, c.requires.count);
      grouped = subst (λ (ms : List Mark). AreGrouped labels ms (count + 1) (n + 1))
          (sym (c.give-in_default-2.ensures
          ∙ ap (λ (ms : List Mark). set ms n (Numbered count)) c.give-in_default.ensures)) two;
    }
