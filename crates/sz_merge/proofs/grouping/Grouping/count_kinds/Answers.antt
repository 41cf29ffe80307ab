-- A number is that of a kind where a cell is told.
use Rattle.std.proofs.Common.{◌≡◌, ◌∙◌, ℕ, ◌<◌, ◌==◌, true, false}
use Rattle.std.proofs.Common.{not, length, get_or, List, sym, ap, arith}
use Rattle.std.proofs.Common.{eq-eqb, eqb-true}
use Rattle.std.proofs.lemmas.List.{get_or_read}
use Rattle.std.proofs.lemmas.Bool.{false_from_ne_true}
use Rattle.sz_cells.specs.declared.Run.{Run}
use Rattle.sz_merge.specs.Marks.{is_kind}
use Rattle.sz_merge.proofs.Grouped.{kind-is, kinds-counted}
use Rattle.sz_merge.proofs.grouping.Grouping.count_kinds.Goals as goal
use Rattle.sz_merge.proofs.grouping.Grouping.count_kinds.Goals.{After-index, then-index-ne0, else-index-ne0}

inside : (c : After-index) → c.loop-number.number < length c.self.inside.first.items
inside c = omega (arith, c.loop-number-test.true, c.len-number-end.ensures)

is : (c : After-index) → is_kind c.args.self.now c.loop-number.number ≡ not (c.index.result.now == 0)
is c =
    let first = c.self.inside.first.items in
    let n = c.loop-number.number in
    let read : c.index.result.now ≡ get_or first n 0 =
    get_or_read first n c.index.result.now (inside c) c.index.ensures 0 in
    ap (λ (gs : List (List Run)). is_kind gs n) (sym c.self.view_is)
    ∙ kind-is first c.self.inside.next.items n c.self.invariant (inside c) (omega (arith, c.loop-number.auto.number))
    ∙ ap (λ (t : ℕ). not (t == 0)) (sym read)

pub loop-number-preserved : goal.loop-number-preserved
loop-number-preserved c =
    let s = (goal.at.loop-number-preserved c).After-index in
    let n = c.loop-number.number in
    let count = c.loop-number.count in
    elim c.if-index-ne0.branch [
      | then-index-ne0 w ↦ record {
        counted =
            kinds-counted c.args.self.now n count c.if-index-ne0.count true c.loop-number.invariant.counted
            (is s ∙ ap not (false_from_ne_true (c.index.result.now == 0)
            (λ e. w.if-index-ne0.true (eqb-true c.index.result.now 0 e)))) w.count-is;
        few = omega (arith, w.count-is, c.loop-number.invariant.few);
      }
      | else-index-ne0 w ↦ record {
        counted =
            kinds-counted c.args.self.now n count c.if-index-ne0.count false c.loop-number.invariant.counted
            (is s ∙ ap not (eq-eqb c.index.result.now 0 w.if-index-ne0.false)) (omega (arith, w.count-is));
        few = omega (arith, w.count-is, c.loop-number.invariant.few);
      }
    ]
