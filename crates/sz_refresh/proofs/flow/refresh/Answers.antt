-- Each node in turn is refreshed over the outputs and the affected cells so far.
use Rattle.std.proofs.Common.{◌≡◌, ℕ, ◌<◌, ◌≤◌, ◌*◌, List, Some, map, length, get_or, sym, ap, subst, ◌∙◌, arith}
use Rattle.std.specs.Arc.{arc_value}
use Rattle.std.specs.List.{slice_get}
use Rattle.std.proofs.lemmas.List.{length-map}
use Rattle.std.proofs.lemmas.Option.{slice_get_within}
use Rattle.sz_cells.specs.Cells.{Cells}
use Rattle.sz_spec.specs.Values.{Grid}
use Rattle.sz_spec.specs.declared.flow.Node.{Node}
use Rattle.sz_spec.specs.Flows.{Graph}
use Rattle.sz_flow.specs.Nodes.{inputs_among}
use Rattle.sz_spec.specs.Affected.{affected, cells_in}
use Rattle.sz_refresh.specs.Changes.{changed_from}
use Rattle.sz_spec.specs.LawsFlows.{IsRightNode}
use Rattle.sz_spec.proofs.FlowOutputs.{well-formed_parts}
use Rattle.sz_flow.specs.declared.node_run.NodeRun.{NodeRun}
use Rattle.sz_flow.specs.Executions.{execution_of, executions}
use Rattle.sz_refresh.specs.Before.{IsBefore}
use Rattle.sz_refresh.proofs.Nodes.{Over, IsNode, so_far-all}
use Rattle.sz_refresh.proofs.Steps.{outs, there-of, olds-count, step-known, step-next}
use Rattle.sz_refresh.proofs.flow.refresh.Given as given
use Rattle.sz_refresh.proofs.flow.refresh.Goals.{At-loop-number, After-deref-in-loop-number}
use Rattle.sz_refresh.proofs.flow.refresh.Goals as goal

-- a node in its turn is the flow's, and there is an old run of it
is-there : (flow : Graph) (olds : List NodeRun) (base : List Grid) (input : ℕ) (changed : Cells) (before : List Grid)
    (items : List Node) (n : ℕ) (x : Node) → IsBefore flow (map execution_of olds) base input changed before
    → items ≡ flow.nodes → n < length items → x ≡ get_or items n x
    → (slice_get flow.nodes n ≡ Some x) × (n < length olds)
is-there flow olds base input changed before items n x is same low item =
    let there = there-of items flow.nodes n x same low item in
    let many = olds-count flow olds base input changed before is in
    (there, omega (arith, many, slice_get_within flow.nodes n x there))

pub bounds-old-number : goal.bounds-old-number
bounds-old-number g c =
    (is-there c.args.flow.now c.args.old.now (map (λ a. arc_value a) c.args.base.now) c.args.input c.args.changed.now
    c.requires.before.0 c.nodes-node-items.result.now c.loop-number.number c.node-item.result c.requires.before.1
    c.nodes-node-items.ensures c.loop-number-test.true c.node-item.is).1

-- what is known of a node in its turn
record IsTurn (g : given.Over) (c : After-deref-in-loop-number g) : Type 0 where
  pub there : slice_get c.args.flow.now.nodes c.loop-number.number ≡ Some c.node-item.result
  pub inside : c.loop-number.number < length c.args.old.now
  pub count : c.loop-number.number ≡ length c.deref.result.now
  pub over : Over c.args.flow.now (map execution_of c.args.old.now) (map (λ a. arc_value a) c.args.base.now)
      c.args.input c.args.changed.now
  pub node : IsNode c.args.flow.now (map (λ a. arc_value a) c.args.base.now) c.args.input c.args.changed.now
      c.requires.before.0 c.loop-number.number c.node-item.result (execution_of c.index-old-number.result)
      (inputs_among (map (λ a. arc_value a) c.args.base.now) (outs c.deref.result.now) c.node-item.result)
      c.deref-in-loop-number.result.now
      (map (changed_from c.args.input c.args.changed.now c.deref-in-loop-number.result.now) c.node-item.result.from)

is-turn : (g : given.Over) (c : After-deref-in-loop-number g) → IsTurn g c
is-turn g c =
    let flow = c.args.flow.now in
    let base = map (λ a. arc_value a) c.args.base.now in
    let olds = c.args.old.now in
    let n = c.loop-number.number in
    let x = c.node-item.result in
    let before = c.requires.before.0 in
    let known = is-there flow olds base c.args.input c.args.changed.now before c.nodes-node-items.result.now n x
    c.requires.before.1 c.nodes-node-items.ensures c.loop-number-test.true c.node-item.is in
    let over : Over flow (map execution_of olds) base c.args.input c.args.changed.now = record {
      right = c.requires.well_formed;
      count = length-map c.args.base.now (λ a. arc_value a) ∙ c.requires.count;
      fits = c.requires.fits;
      limits = c.within_limits.ensures;
      shape = c.requires.shape;
    } in
    record {
      there = known.0;
      inside = known.1;
      count =
          sym c.loop-number.invariant.ran
          ∙ length-map c.loop-number.runs.items execution_of
          ∙ sym (ap (λ (rs : List NodeRun). length rs) c.deref.ensures.value);
      over = over;
      node =
          step-known flow olds c.loop-number.runs.items c.deref.result.now base c.args.input c.args.changed.now before
          c.loop-number.affected.items c.deref-in-loop-number.result.now c.loop-number.count n x
          c.index-old-number.result over c.requires.before.1 c.loop-number.invariant known.0 known.1
          c.index-old-number.is
          c.deref.ensures.value c.deref-in-loop-number.ensures.value;
    }

pub refresh_node-requires-clause-right : goal.refresh_node-requires-clause-right
refresh_node-requires-clause-right g c κs within =
    let flow = c.args.flow.now in
    let n = c.loop-number.number in
    let x = c.node-item.result in
    let turn = is-turn g (goal.at.refresh_node-requires-clause-right g c).After-deref-in-loop-number in
    subst (λ (m : ℕ). IsRightNode m (length c.deref.result.now) x) (sym c.requires.count)
    (subst (λ (m : ℕ). IsRightNode flow.inputs m x) turn.count
    ((well-formed_parts flow c.requires.well_formed).3 n x turn.there))

pub refresh_node-requires-clause-sets : goal.refresh_node-requires-clause-sets
refresh_node-requires-clause-sets g c κs within =
    ap (λ (sets : List Cells). length sets) c.deref-in-loop-number.ensures.value
    ∙ c.loop-number.invariant.long
    ∙ (is-turn g (goal.at.refresh_node-requires-clause-sets g c).After-deref-in-loop-number).count

pub refresh_node-requires-clause-op : goal.refresh_node-requires-clause-op
refresh_node-requires-clause-op g c κs within =
    (is-turn g (goal.at.refresh_node-requires-clause-op g c).After-deref-in-loop-number).node.op

pub refresh_node-requires-clause-ins : goal.refresh_node-requires-clause-ins
refresh_node-requires-clause-ins g c κs within =
    (is-turn g (goal.at.refresh_node-requires-clause-ins g c).After-deref-in-loop-number).node.ins

pub refresh_node-requires-clause-out : goal.refresh_node-requires-clause-out
refresh_node-requires-clause-out g c κs within =
    (is-turn g (goal.at.refresh_node-requires-clause-out g c).After-deref-in-loop-number).node.out

pub refresh_node-requires-clause-value : goal.refresh_node-requires-clause-value
refresh_node-requires-clause-value g c κs within =
    (is-turn g (goal.at.refresh_node-requires-clause-value g c).After-deref-in-loop-number).node.value

pub refresh_node-requires-clause-shapes : goal.refresh_node-requires-clause-shapes
refresh_node-requires-clause-shapes g c κs within =
    (is-turn g (goal.at.refresh_node-requires-clause-shapes g c).After-deref-in-loop-number).node.shapes

pub refresh_node-requires-clause-others : goal.refresh_node-requires-clause-others
refresh_node-requires-clause-others g c κs within =
    (is-turn g (goal.at.refresh_node-requires-clause-others g c).After-deref-in-loop-number).node.others

pub refresh_node-requires-clause-room : goal.refresh_node-requires-clause-room
refresh_node-requires-clause-room g c κs within =
    let flow = c.args.flow.now in
    let turn = is-turn g (goal.at.refresh_node-requires-clause-room g c).After-deref-in-loop-number in
    let few = (well-formed_parts flow c.requires.well_formed).1 in
    let below = slice_get_within flow.nodes c.loop-number.number c.node-item.result turn.there in
    omega (arith, turn.node.few, few, below, c.loop-number.invariant.few)

pub loop-number-preserved : goal.loop-number-preserved
loop-number-preserved g c =
    let turn = is-turn g (goal.at.loop-number-preserved g c).After-deref-in-loop-number in
    step-next c.args.flow.now c.args.old.now c.loop-number.runs.items c.deref.result.now c.push.new.self.items
    (map (λ a. arc_value a) c.args.base.now) c.args.input c.args.changed.now c.requires.before.0
    c.loop-number.affected.items c.deref-in-loop-number.result.now c.push-in-loop-number.new.self.items
    c.loop-number.count c.loop-number.number c.node-item.result c.index-old-number.result c.in_ok-run.run'
    c.in_ok-run.cells c.refresh_node.new.count turn.over c.requires.before.1 c.loop-number.invariant turn.there
    turn.inside c.index-old-number.is c.deref.ensures.value c.deref-in-loop-number.ensures.value c.in_ok-run.ensures.run
    c.in_ok-run.ensures.cells c.in_ok-run.ensures.ticks c.in_ok-push.ensures.items c.in_ok-push-2.ensures.items

-- what is known after the last node
is-all : (g : given.Over) (c : At-loop-number g) → length c.nodes-node-items.result.now ≤ c.loop-number.number
    → (map execution_of c.loop-number.runs.items ≡ executions c.args.flow.now (map (λ a. arc_value a) c.args.base.now))
    × ((before : List Grid) → IsBefore c.args.flow.now (map execution_of c.args.old.now)
    (map (λ a. arc_value a) c.args.base.now) c.args.input c.args.changed.now before
    → c.loop-number.affected.items ≡ affected c.args.flow.now before (map (λ a. arc_value a) c.args.base.now)
    c.args.input c.args.changed.now)
    × (c.loop-number.count ≡ cells_in c.loop-number.affected.items) × (c.loop-number.count ≤ 32 * 1048576)
is-all g c past =
    let flow = c.args.flow.now in
    let nodes : length c.nodes-node-items.result.now ≡ length flow.nodes =
    ap (λ xs. length xs) c.nodes-node-items.ensures in
    let all : c.loop-number.number ≡ length flow.nodes = omega (arith, nodes, past, c.loop-number.auto.number-end) in
    so_far-all flow (map execution_of c.args.old.now) (map (λ a. arc_value a) c.args.base.now) c.args.input
    c.args.changed.now (map execution_of c.loop-number.runs.items) c.loop-number.affected.items c.loop-number.count
    c.loop-number.number c.requires.well_formed c.loop-number.invariant all

pub returns-clause-runs : goal.returns-clause-runs
returns-clause-runs g c =
    (is-all g (goal.at.returns-clause-runs g c).At-loop-number (omega (arith, c.loop-number-test.false))).0

pub returns-clause-affected : goal.returns-clause-affected
returns-clause-affected g c =
    (is-all g (goal.at.returns-clause-affected g c).At-loop-number (omega (arith, c.loop-number-test.false))).1

pub add-requires : goal.add-requires
add-requires g c =
    let known = is-all g (goal.at.add-requires g c).At-loop-number (omega (arith, c.loop-number-test.false)) in
    omega (arith, known.3, c.requires.room)
