-- Cells with a number are added to the runs of that number.
use Rattle.std.proofs.Common.{◌≡◌, ◌≤◌, ◌<◌, ℕ, ◌+◌, ◌-◌, [], length, get_or, Some, sym, subst, ap, ◌∙◌, arith}
use Rattle.std.proofs.lemmas.List.{get_or_default}
use Rattle.sz_ops_region.specs.Marks.{mark_at, number_in, number_of}
use Rattle.sz_ops_region.specs.Sets.{HasRuns}
use Rattle.sz_ops_region.proofs.Sets.{lists-add, lists-skip, none-other}
use Rattle.sz_ops_region.proofs.run_lists.lists_of.Goals as goal
use Rattle.sz_ops_region.proofs.run_lists.lists_of.Goals.{in-Numbered+in_ok-add, in_default}

pub add-requires-clause-runs : goal.add-requires-clause-runs
add-requires-clause-runs c =
    let inv = c.loop-stretch.invariant in
    let ms = c.args.marks.now in
    let j = c.in-Numbered.number in
    let xs = c.loop-stretch.lists.items in
    let starts = c.in_ok-starts.starts.items in
    let s = c.loop-stretch.stretch in
    let place : s < length starts = omega (arith, inv.end, c.loop-stretch-test.true) in
    let first : c.index-first.result.now ≡ get_or starts s 0 =
    c.index-first.ensures ∙ get_or_default starts s c.index-first.result.now 0 place in
    let below = c.requires.below c.index-first.result.now j (ap number_in (sym c.in-Numbered.ensures)) in
    let inside : j < length xs = omega (arith, inv.lists.long, below) in
    subst (λ (n : ℕ). HasRuns ms n j c.index_mut.result.now) (sym first)
    (subst (HasRuns ms (get_or starts s 0) j)
    (sym (c.index_mut.ensures.value ∙ get_or_default xs j c.index_mut.result.now [] inside)) (inv.lists.each j below))

pub add-requires-clause-number : goal.add-requires-clause-number
add-requires-clause-number c k low high =
    let ms = c.args.marks.now in
    let starts = c.in_ok-starts.starts.items in
    let s = c.loop-stretch.stretch in
    let more : s + 1 < length starts = omega (arith, c.loop-stretch.invariant.end, c.loop-stretch-test.true) in
    let first : c.index-first.result.now ≡ get_or starts s 0 =
    c.index-first.ensures ∙ get_or_default starts s c.index-first.result.now 0 (omega arith) in
    let end : c.index.result.now ≡ get_or starts (s + 1) 0 =
    c.index.ensures ∙ get_or_default starts (s + 1) c.index.result.now 0 more in
    ap number_in (c.in_ok-starts.ensures.same s k more (omega (arith, first))
    (omega (arith, end, c.in_ok-starts.ensures.rising s more))
    ∙ sym (ap (mark_at ms) first) ∙ sym c.in-Numbered.ensures)

pub loop-stretch-preserved : goal.loop-stretch-preserved
loop-stretch-preserved c =
    let inv = c.loop-stretch.invariant in
    let ms = c.args.marks.now in
    let starts = c.in_ok-starts.starts.items in
    let are = c.in_ok-starts.ensures in
    let s = c.loop-stretch.stretch in
    let n = get_or starts s 0 in
    let m = get_or starts (s + 1) 0 in
    let more : s + 1 < length starts = omega (arith, inv.end, c.loop-stretch-test.true) in
    let order : n ≤ m = omega (arith, are.rising s more) in
    let first : c.index-first.result.now ≡ n =
    c.index-first.ensures ∙ get_or_default starts s c.index-first.result.now 0 (omega arith) in
    elim c.match-at.branch [
      | in-Numbered+in_ok-add w ↦
          let j = w.in-Numbered.number in
          let has : number_of ms n ≡ Some j = ap number_in (sym (ap (mark_at ms) first) ∙ sym w.in-Numbered.ensures) in
          let end : w.index.result.now - 1 + 1 ≡ m = omega (
            arith,
            w.index.ensures,
            get_or_default starts (s + 1) w.index.result.now 0 more,
            are.rising s more,
          ) in
          rw w.lists-is (record {
            end = inv.end;
            lists = lists-add ms n m c.args.count j c.loop-stretch.lists.items w.add.new.self inv.lists order
                (λ k low below. ap number_in (are.same s k more low below) ∙ has) (c.requires.below n j has)
                (subst (λ (i : ℕ). HasRuns ms i j w.add.new.self) end w.in_ok-add.ensures);
          })
      | in_default w ↦
          let none = none-other (mark_at ms n)
          (λ j is. w.in_default.not-Numbered j (c.at.ensures ∙ ap (mark_at ms) first ∙ is)) in
          rw w.lists-is (record {
            end = inv.end;
            lists = lists-skip ms n m c.args.count c.loop-stretch.lists.items inv.lists order
                (λ k low below. ap number_in (are.same s k more low below) ∙ none);
          })
    ]
