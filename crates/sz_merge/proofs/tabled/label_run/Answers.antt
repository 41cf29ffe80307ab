-- One cell more is marked by the step from nothing.
use Rattle.std.proofs.Common.{◌≡◌, ◌∙◌, ◌+◌, ◌<◌, length, get_or, sym, refl, arith}
use Rattle.std.proofs.lemmas.List.{get_or_default, length-set}
use Rattle.sz_merge.proofs.Marked.{run-first, run-more, run-all}
use Rattle.sz_merge.proofs.tabled.label_run.Goals as goal

pub loop-index-init : goal.loop-index-init
loop-index-init c = record {
  long = refl;
  marked = λ ins r lists next. run-first ins r c.args.run.first c.args.labels.now.items lists;
}

pub loop-index-preserved : goal.loop-index-preserved
loop-index-preserved c =
    let inv = c.loop-index.invariant in
    let i = c.loop-index.index in
    let old = c.args.labels.now.items in
    let labels = c.loop-index.labels.items in
    let inside : i < length old = omega (arith, c.loop-index-test.true, c.requires.within) in
    let within : i < length labels = omega (arith, inv.long, inside) in
    let is : 0 ≡ get_or labels i 0 =
    sym c.if-index-ne0.false ∙ c.index.ensures ∙ get_or_default labels i c.index.result.now 0 within in
    record {
      long = length-set labels i c.args.label ∙ inv.long;
      marked = λ ins r lists next.
          run-more ins r c.args.run.first i old labels lists lists lists 0 c.args.label (inv.marked ins r lists next)
          c.loop-index.auto.index inside is (λ n x at. at) next;
    }

pub returns-clause-marked : goal.returns-clause-marked
returns-clause-marked c is ins r lists next =
    let end : c.loop-index.index ≡ c.args.run.last + 1 =
    omega (arith, c.loop-index-test.false, c.loop-index.auto.index-end, c.requires.order) in
    run-all ins r c.args.run c.loop-index.index c.args.labels.now.items c.loop-index.labels.items lists lists end
    (c.loop-index.invariant.marked ins r lists next)
