-- Each input in turn makes the test wider, and after the last one it is the definition's.
use Rattle.std.proofs.Common.{◌≡◌, ℕ, ◌<◌, List, map, length, sym, ap, ◌∙◌, arith}
use Rattle.std.specs.Arc.{arc_value}
use Rattle.std.proofs.lemmas.List.{length-map}
use Rattle.std.proofs.lemmas.Result.{IfOk-weaker}
use Rattle.sz_cells.specs.Extent.{Extent}
use Rattle.sz_cells.specs.Cells.{Cells, cells_where, no_cells, with_those}
use Rattle.sz_spec.specs.Values.{Grid}
use Rattle.sz_spec.specs.Shapes.{arity}
use Rattle.sz_spec.specs.Affected.{set_at, is_reached}
use Rattle.sz_refresh.specs.Changes.{changed_from, reaches}
use Rattle.sz_refresh.proofs.Changes.{reached_by, reached-none, reached-next, reached-skip, with_those-none}
use Rattle.sz_refresh.proofs.Changes.{given-some, given-none, given-shape}
use Rattle.sz_refresh.proofs.Runs.{out-over}
use Rattle.sz_refresh.proofs.reached.affected_of.Goals as goal
use Rattle.sz_refresh.proofs.reached.affected_of.Goals.{At-loop-number, in-Some+in_ok-add_reached-in-Some, in-None}

pub loop-number-init : goal.loop-number-init
loop-number-init c =
    c.in_ok-to.ensures
    ∙ ap no_cells c.out.ensures.value
    ∙ reached-none c.args.at.now.op (map (λ a. arc_value a) c.args.old.now) (map (λ a. arc_value a) c.args.new.now)
    (map (changed_from c.args.input c.args.changed.now c.args.sets.now) c.args.from.now) c.args.at.now.out

-- the numbers end with the sources
ends : (c : At-loop-number) → c.arity-number-end.result ≡ length c.args.from.now
ends c =
    omega (arith, c.arity-number-end.ensures, ap arity c.op.ensures.value, c.ins.ensures.arity, c.requires.count)

pub add_reached-requires-clause-set : goal.add_reached-requires-clause-set
add_reached-requires-clause-set c =
    let inside : c.loop-number.number < length c.args.from.now =
    omega (arith, c.loop-number-test.true, ends (goal.at.add_reached-requires-clause-set c).At-loop-number) in
    given-shape c.args.input c.args.changed.now c.args.sets.now c.args.at.now.ins c.args.from.now c.loop-number.number _
    c.in-Some.set.now c.requires.shapes inside c.in-Some.ensures.0 c.in-Some.ensures.1

pub loop-number-preserved : goal.loop-number-preserved
loop-number-preserved c =
    let s = c.args.at.now in
    let a : List Grid = map (λ x. arc_value x) c.args.old.now in
    let b : List Grid = map (λ x. arc_value x) c.args.new.now in
    let from = c.args.from.now in
    let n = c.loop-number.number in
    let f = changed_from c.args.input c.args.changed.now c.args.sets.now in
    let changes : List Cells = map f from in
    let inside : n < length from =
    omega (arith, c.loop-number-test.true, ends (goal.at.loop-number-preserved c).At-loop-number) in
    let so_far = c.loop-number.invariant in
    elim c.match-changed_from.branch [
      | in-Some+in_ok-add_reached-in-Some w ↦
          let set : w.in-Some.set.now ≡ set_at changes n =
          given-some f from n _ w.in-Some.set.now inside w.in-Some.ensures.1 in
          reached-next s.op a b changes s.out n c.loop-number.to c.match-changed_from.to so_far
          (w.to-is
          ∙ w.in_ok-add_reached-in-Some.ensures
          ∙ ap (λ (z : Cells). with_those c.loop-number.to (reaches s.op a b n z)) set)
      | in-None w ↦
          w.to-is ∙ reached-skip s.op a b changes s.out n c.loop-number.to so_far (given-none f from n _ inside
          w.in-None.ensures)
    ]

pub returns : goal.returns
returns c =
    let s = c.args.at.now in
    let a : List Grid = map (λ x. arc_value x) c.args.old.now in
    let b : List Grid = map (λ x. arc_value x) c.args.new.now in
    let changes : List Cells = map (changed_from c.args.input c.args.changed.now c.args.sets.now) c.args.from.now in
    let all : c.loop-number.number ≡ length changes =
    omega (
      arith,
      c.loop-number-test.false,
      c.loop-number.auto.number-end,
      ends (goal.at.returns c).At-loop-number,
      length-map c.args.from.now (changed_from c.args.input c.args.changed.now c.args.sets.now),
    ) in
    IfOk-weaker c.to_set.result _ _
    (λ set is.
    is
    ∙ c.loop-number.invariant
    ∙ ap (λ (n : ℕ). with_those (no_cells s.out) (reached_by s.op a b changes n)) all
    ∙ with_those-none s.out (reached_by s.op a b changes (length changes))
    ∙ ap (λ (e : Extent). cells_where e (is_reached s.op a b changes))
    (sym (out-over s a c.requires.old c.out.ensures.rule))) c.to_set.ensures
