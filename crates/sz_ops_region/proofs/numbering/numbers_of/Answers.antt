-- Labels are one exactly where cells are connected, so the marks that go by them are right.
use Rattle.std.proofs.Common.{length, subst, sym, to_z, of_z, w64}
use Rattle.std.specs.Prelude.{ℤ}
use Rattle.std.proofs.lemmas.Int.{to_z-of_z}
use Rattle.std.proofs.lemmas.Result.{IfOk-weaker}
use Rattle.sz_ops_region.specs.declared.numbering.Numbers.{Numbers}
use Rattle.sz_ops_region.specs.Numbers.{AreFirsts, AreLabels, AreGrouped, AreNumbers}
use Rattle.sz_ops_region.proofs.Numbers.{numbers-right}
use Rattle.sz_ops_region.proofs.numbering.numbers_of.Goals as goal

pub numbers_by-requires-clause-firsts : goal.numbers_by-requires-clause-firsts
numbers_by-requires-clause-firsts c = subst AreFirsts (sym c.deref.ensures.value) c.in_ok-labels.ensures.firsts

pub returns : goal.returns
returns c =
    let g = c.args.array.now in
    let labels = c.deref.result.now in
    let are : AreLabels c.args.t g labels =
    subst (λ (z : ℤ). AreLabels z g labels) (to_z-of_z w64 c.args.t c.ranges.t)
    (subst (AreLabels (to_z w64 (of_z w64 c.args.t)) g) (sym c.deref.ensures.value) c.in_ok-labels.ensures) in
    IfOk-weaker c.numbers_by.result (λ (n : Numbers). AreGrouped labels n.marks n.count (length labels))
    (λ (n : Numbers). AreNumbers c.args.t g n.marks n.count)
    (λ n grouped. numbers-right c.args.t g labels n.marks n.count are grouped) c.numbers_by.ensures
