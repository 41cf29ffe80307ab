-- One cell more is marked by the step from its number.
use Rattle.std.proofs.Common.{◌≡◌, ◌∙◌, ◌+◌, ◌<◌, List, length, get_or, subst, arith}
use Rattle.std.proofs.lemmas.List.{get_or_default}
use Rattle.sz_cells.specs.Extent.{Extent}
use Rattle.sz_merge.specs.Marks.{IsNext}
use Rattle.sz_merge.proofs.Marked.{run-more, run-all, numbers-kept, numbers-set}
use Rattle.sz_merge.proofs.marking.mark_run.Goals as goal

pub loop-index-preserved : goal.loop-index-preserved
loop-index-preserved c =
    let inv = c.loop-index.invariant in
    let made = c.in_ok-last.ensures in
    let ins = c.args.lineages.now.ins in
    let r = c.args.region.now in
    let i = c.loop-index.index in
    let labels = c.loop-index.labels.items in
    let after = c.step_from.new.lineages.lists in
    let inside : i < length c.args.labels.now.items = omega (arith, c.loop-index-test.true, c.requires.within) in
    let within : i < length labels = omega (arith, inv.marked.long, inside) in
    let next : IsNext ins r after c.in_ok-last.last.from c.in_ok-last.last.to =
    subst (λ (es : List Extent). IsNext es r after c.in_ok-last.last.from c.in_ok-last.last.to) inv.ins made.next in
    let is : c.in_ok-last.last.from ≡ get_or labels i 0 =
    made.from ∙ c.index.ensures ∙ get_or_default labels i c.index.result.now 0 within in
    record {
      ins = made.ins ∙ inv.ins;
      marked = run-more ins r c.args.run.first i c.args.labels.now.items labels c.args.lineages.now.lists
          c.loop-index.lineages.lists after c.in_ok-last.last.from c.in_ok-last.last.to inv.marked
          c.loop-index.auto.index
          inside is made.kept next;
      last = next;
      numbers = numbers-set labels after i c.in_ok-last.last.to
          (numbers-kept labels c.loop-index.lineages.lists after inv.numbers made.kept) next.then;
    }

pub returns-clause-ok : goal.returns-clause-ok
returns-clause-ok c =
    let end : c.loop-index.index ≡ c.args.run.last + 1 =
    omega (arith, c.loop-index-test.false, c.loop-index.auto.index-end, c.requires.order) in
    run-all c.args.lineages.now.ins c.args.region.now c.args.run c.loop-index.index c.args.labels.now.items
    c.loop-index.labels.items c.args.lineages.now.lists c.loop-index.lineages.lists end c.loop-index.invariant.marked
