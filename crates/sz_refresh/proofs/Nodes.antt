-- How far a refresh of all nodes has come, and what is known of the next node.
--
-- The key idea: the executions so far are the first ones of the flow over the new base arrays, and the sets so far the
-- first ones of the definition. A source of a right node looks no further than these, so the node takes what it takes
-- among all, and what is changed of that is what the definition says. Its old run holds the old values; where a cell is
-- not affected the law says that these are the new ones.
use Rattle.std.proofs.Common.{◌≡◌, ℕ, zero, suc, ◌+◌, ◌*◌, ◌<◌, ◌≤◌, Bool, true, false, List, [], ◌∷◌, ◌++◌, map}
use Rattle.std.proofs.Common.{length}
use Rattle.std.proofs.Common.{Option, Some, refl, sym, ap, ap₂, subst, ◌∙◌, arith, unwrap_or, take}
use Rattle.std.proofs.Common.{ltb-true, eqb-true, if◌then◌else◌, length-append}
use Rattle.std.specs.Prelude.{is_ok}
use Rattle.std.specs.List.{slice_get}
use Rattle.std.proofs.lemmas.List.{take-map, take_more, length-map}
use Rattle.std.proofs.lemmas.List.Elements.{All-weaker}
use Rattle.std.proofs.lemmas.List.Sums.{fold-append}
use Rattle.std.proofs.lemmas.Option.{slice_get_within, get_or_from_slice_get, same_Some}
use Rattle.sz_cells.specs.declared.Cell.{Cell}
use Rattle.sz_cells.specs.Extent.{Extent, size_of, holds, cell_of, is_extent}
use Rattle.sz_cells.specs.Cells.{Cells, cells_where, has, no_cells}
use Rattle.sz_cells.proofs.Sets.{cell-held, has-index}
use Rattle.sz_cells.proofs.LawsOfSets.{sets-rising}
use Rattle.sz_cells.proofs.Rising.{rising-length}
use Rattle.sz_cells.proofs.Shapes.{sides}
use Rattle.sz_spec.specs.declared.op.Op.{Op}
use Rattle.sz_spec.specs.declared.flow.Node.{Node}
use Rattle.sz_spec.specs.declared.flow.SourceRef.{SourceRef}
use Rattle.sz_spec.specs.declared.flow.SourceRef.TheVariants as source
use Rattle.sz_spec.specs.Values.{Grid, no_grid, no_extent, value_at, input_at, extent_at, extents_of}
use Rattle.sz_spec.specs.Shapes.{output_extent}
use Rattle.sz_spec.specs.Evaluation.{value_of, output_of}
use Rattle.sz_spec.specs.Flows.{Graph, is_source, is_well_formed, array_of, evaluations}
use Rattle.sz_spec.specs.FlowShapes.{source_shape}
use Rattle.sz_spec.specs.Paths.{inputs_of, extent_of}
use Rattle.sz_spec.specs.LawsShapes.{AreExtents}
use Rattle.sz_spec.specs.LawsDependence.{CanRun}
use Rattle.sz_spec.specs.Affected.{set_at, changed_of, changed_in, is_reached, affected_by, affected, cells_in}
use Rattle.sz_spec.proofs.Chains.{inputs-at}
use Rattle.sz_spec.proofs.FlowDependence.{output-there, node-value, fits-of, can-run}
use Rattle.sz_spec.proofs.FlowOutputs.{map-agree, well-formed_parts, evaluations-length}
use Rattle.sz_spec.proofs.FlowShapes.{inputs-shapes, below, each-at}
use Rattle.sz_spec.proofs.OutputShapes.{extent-right}
use Rattle.sz_spec.proofs.PayloadLineage.{extent-of_input}
use Rattle.sz_frame.proofs.Added.{value-index}
use Rattle.sz_flow.specs.Executions.{Execution, execution, executions, FlowFits}
use Rattle.sz_flow.specs.Nodes.{inputs_among}
use Rattle.sz_flow.proofs.Executions.{executions-at, outputs-evaluations, executions-count}
use Rattle.sz_refresh.specs.Before.{IsBefore}
use Rattle.sz_refresh.specs.Changes.{changed_from, is_changed, HaveShapes}
use Rattle.sz_refresh.specs.Outputs.{KeepsOthers}
use Rattle.sz_refresh.proofs.Affected.{affected-at, affected-count, others-keep, outs-same}
use Rattle.sz_refresh.proofs.Changes.{changed-from_in}

-- ---- first parts of lists

-- an element of a first part
slice_get-take : {X : Type 0} (xs : List X) (n m : ℕ) → m < n → slice_get (take n xs) m ≡ slice_get xs m
slice_get-take xs zero m low = absurd (omega arith)
slice_get-take [] (suc n) m low = refl
slice_get-take (x ∷ xs) (suc n) zero low = refl
slice_get-take (x ∷ xs) (suc n) (suc m) low = slice_get-take xs n m (omega arith)

-- a first part with the next element is the next first part
pub take-next : {X : Type 0} (xs ys : List X) (n : ℕ) (x : X) → xs ≡ take n ys → slice_get ys n ≡ Some x
    → xs ++ x ∷ [] ≡ take (n + 1) ys
take-next xs ys n x first there =
    ap (λ zs. zs ++ x ∷ []) first
    ∙ ap (λ z. take n ys ++ z ∷ []) (sym (get_or_from_slice_get ys n x x there))
    ∙ sym (take_more ys n x (slice_get_within ys n x there))

-- the array of a source among the outputs of the nodes before
source-first : (base outputs : List Grid) (inputs n : ℕ) (s : SourceRef) → is_source inputs n s ≡ true
    → array_of base (take n outputs) s ≡ array_of base outputs s
source-first base outputs inputs n (source.Input i) right = refl
source-first base outputs inputs n (source.Node m) right =
    ap (λ (o : Option Grid). unwrap_or o no_grid) (slice_get-take outputs n m (ltb-true m n right))

-- and what is changed of it among the sets of the nodes before
changes-first : (base sets : List Cells) (inputs n : ℕ) (s : SourceRef) → is_source inputs n s ≡ true
    → changed_in base (take n sets) s ≡ changed_in base sets s
changes-first base sets inputs n (source.Input i) right = refl
changes-first base sets inputs n (source.Node m) right =
    ap (λ (o : Option Cells). unwrap_or o (no_cells no_extent)) (slice_get-take sets n m (ltb-true m n right))

-- ---- how far it has come

-- of n nodes there are executions and sets, and as many cells were counted as the sets have
pub record IsSoFar (flow : Graph) (old : List Execution) (base : List Grid) (input : ℕ) (changed : Cells)
    (runs : List Execution) (sets : List Cells) (count n : ℕ) : Type 0 where
  pub executed : runs ≡ take n (executions flow base)
  pub reached : (before : List Grid) → IsBefore flow old base input changed before
      → sets ≡ take n (affected flow before base input changed)
  pub counted : count ≡ cells_in sets
  pub few : count ≤ n * 1048576
  pub ran : length runs ≡ n
  pub long : length sets ≡ n

-- no node yet
pub so_far-none : (flow : Graph) (old : List Execution) (base : List Grid) (input : ℕ) (changed : Cells)
    → IsSoFar flow old base input changed [] [] 0 0
so_far-none flow old base input changed = record {
  executed = refl;
  reached = λ before is. refl;
  counted = refl;
  few = omega arith;
  ran = refl;
  long = refl;
}

-- ---- the next node

-- what a refresh is over
pub record Over (flow : Graph) (old : List Execution) (base : List Grid) (input : ℕ) (changed : Cells) : Type 0 where
  pub right : is_well_formed flow ≡ true
  pub count : length base ≡ flow.inputs
  pub fits : FlowFits flow base
  pub limits : AreExtents (extents_of base)
  pub shape : changed.extent ≡ extent_at (extents_of base) input

-- the flow can be run over the base arrays before
can-run_before : (flow : Graph) (old : List Execution) (base : List Grid) (input : ℕ) (changed : Cells)
    (before : List Grid) → Over flow old base input changed → IsBefore flow old base input changed before
    → CanRun flow before
can-run_before flow old base input changed before over is =
    can-run flow base before (record {
      right = over.right;
      count = over.count;
      limits = over.limits;
      fits = ap is_ok over.fits.1;
    }) (sym is.shapes)

-- what is known of the next node, which is x: over the base arrays before, e is its old execution, gs are the arrays
-- that it takes, and cs what is changed of these
pub record IsNode (flow : Graph) (base : List Grid) (input : ℕ) (changed : Cells) (before : List Grid) (n : ℕ)
    (x : Node) (e : Execution) (gs : List Grid) (sets cs : List Cells) : Type 0 where
  pub op : e.site.op ≡ x.op
  pub ins : extents_of gs ≡ e.site.ins
  pub out : e.out.extent ≡ e.site.out
  pub value : e.out ≡ output_of e.site.op e.inputs
  pub made : slice_get (executions flow base) n ≡ Some (execution x.op gs)
  pub set : slice_get (affected flow before base input changed) n ≡ Some (affected_by x.op e.inputs gs cs)
  pub shapes : HaveShapes input changed sets e.site.ins x.from
  pub others : KeepsOthers e.site gs e.out (affected_by x.op e.inputs gs cs)
  pub few : size_of e.site.out ≤ 1048576
  pub own : output_extent x.op (extents_of e.inputs) ≡ e.site.out

-- the shapes that a node takes are the same before and now
ins-same : (flow : Graph) (before base : List Grid) (n : ℕ) (x : Node) → CanRun flow before
    → extents_of before ≡ extents_of base → slice_get flow.nodes n ≡ Some x
    → extents_of (inputs_of flow base (evaluations flow base) n)
    ≡ extents_of (inputs_of flow before (evaluations flow before) n)
ins-same flow before base n x run same there =
    let a = evaluations flow base in
    let b = evaluations flow before in
    ap extents_of (inputs-at flow base a n x there)
    ∙ inputs-shapes base a x.from
    ∙ ap₂ (λ (es fs : List Extent). map (source_shape es fs) x.from) (sym same) (outs-same flow before base run same)
    ∙ sym (inputs-shapes before b x.from)
    ∙ ap extents_of (sym (inputs-at flow before b n x there))

-- the shape that a node takes as an input is that of the source
ins-at : (flow : Graph) (before : List Grid) (n i : ℕ) (x : Node) (s : SourceRef) → slice_get flow.nodes n ≡ Some x
    → slice_get x.from i ≡ Some s
    → extent_at (extents_of (inputs_of flow before (evaluations flow before) n)) i
    ≡ (array_of before (evaluations flow before) s).extent
ins-at flow before n i x s there takes =
    ap (λ (gs : List Grid). extent_at (extents_of gs) i) (inputs-at flow before (evaluations flow before) n x there)
    ∙ among (array_of before (evaluations flow before)) x.from i s takes where
      among : (f : SourceRef → Grid) (from : List SourceRef) (j : ℕ) (r : SourceRef) → slice_get from j ≡ Some r
          → extent_at (extents_of (map f from)) j ≡ (f r).extent
      among f [] j r h = (cc)
      among f (q ∷ from) zero r h = let one : q ≡ r = (cc) in ap (λ (z : SourceRef). (f z).extent) one
      among f (q ∷ from) (suc j) r h = among f from j r h

-- the affected cells of a node are of the shape of its output
set-shape : (flow : Graph) (before base : List Grid) (input : ℕ) (changed : Cells) (m : ℕ) (y : Node)
    → is_well_formed flow ≡ true → slice_get flow.nodes m ≡ Some y
    → (set_at (affected flow before base input changed) m).extent ≡ extent_of (evaluations flow before) m
set-shape flow before base input changed m y well there =
    let outputs = evaluations flow before in
    ap (λ (o : Option Cells). (unwrap_or o (no_cells no_extent)).extent)
    (affected-at flow before base input changed m y well there)
    ∙ ap (λ (gs : List Grid). output_extent y.op (extents_of gs)) (inputs-at flow before outputs m y there)
    ∙ sym (ap (λ (g : Grid). g.extent) (output-there flow before m y well there))

-- what is changed of a source that may be changed is of its shape
change-shape : (flow : Graph) (old : List Execution) (base : List Grid) (input : ℕ) (changed : Cells)
    (before : List Grid) (n : ℕ) (s : SourceRef) → Over flow old base input changed
    → IsBefore flow old base input changed before → n ≤ length flow.nodes
    → is_source flow.inputs n s ≡ true → is_changed input s ≡ true
    → (changed_from input changed (affected flow before base input changed) s).extent
    ≡ (array_of before (evaluations flow before) s).extent
change-shape flow old base input changed before n (source.Input b) over is low right named =
    let same : b ≡ input = eqb-true b input named in
    ap (λ (t : Bool). (if t then changed else no_cells changed.extent).extent) named
    ∙ over.shape
    ∙ ap (λ (es : List Extent). extent_at es input) (sym is.shapes)
    ∙ ap (extent_at (extents_of before)) (sym same)
    ∙ extent-of_input before b
change-shape flow old base input changed before n (source.Node m) over is low right named =
    let inside : m < n = ltb-true m n right in
    let node = element flow.nodes m (omega arith) in
    set-shape flow before base input changed m node.0 over.right node.1 where
      element : (xs : List Node) (i : ℕ) → i < length xs → (y : Node) × (slice_get xs i ≡ Some y)
      element [] i h = absurd (omega arith)
      element (y ∷ xs) zero h = (y, refl)
      element (y ∷ xs) (suc i) h = element xs i (omega arith)

-- what is known of it
pub node-known : (flow : Graph) (old : List Execution) (base : List Grid) (input : ℕ) (changed : Cells)
    (before : List Grid) (runs : List Execution) (sets : List Cells) (count n : ℕ) (x : Node) (e : Execution)
    → Over flow old base input changed → IsBefore flow old base input changed before
    → IsSoFar flow old base input changed runs sets count n
    → slice_get flow.nodes n ≡ Some x → slice_get old n ≡ Some e
    → IsNode flow base input changed before n x e (inputs_among base (map (λ (d : Execution). d.out) runs) x) sets
    (map (changed_from input changed sets) x.from)
node-known flow old base input changed before runs sets count n x e over is so_far there old_there =
    let now = evaluations flow base in
    let was = evaluations flow before in
    let all = affected flow before base input changed in
    let changes = changed_of flow.inputs input changed in
    let run = can-run_before flow old base input changed before over is in
    let right = (well-formed_parts flow over.right).3 n x there in
    let inside : n < length flow.nodes = below flow.nodes n x there in
    let outs : List Grid = map (λ (d : Execution). d.out) runs in
    let gs : List Grid = inputs_among base outs x in
    let cs : List Cells = map (changed_from input changed sets) x.from in
    let first : outs ≡ take n now =
    ap (λ (ds : List Execution). map (λ (d : Execution). d.out) ds) so_far.executed
    ∙ sym (take-map (λ (d : Execution). d.out) n (executions flow base))
    ∙ ap (λ (os : List Grid). take n os) (outputs-evaluations flow base) in
    let among : gs ≡ map (array_of base now) x.from =
    ap (λ (os : List Grid). map (array_of base os) x.from) first
    ∙ map-agree (array_of base (take n now)) (array_of base now) x.from
    (All-weaker (λ s. is_source flow.inputs n s ≡ true) (λ s. array_of base (take n now) s ≡ array_of base now s)
    (λ s one. source-first base now flow.inputs n s one) x.from right.1) in
    let takes : gs ≡ inputs_of flow base now n = among ∙ sym (inputs-at flow base now n x there) in
    let each : (s : SourceRef) → is_source flow.inputs n s ≡ true
    → changed_from input changed sets s ≡ changed_in changes all s =
    λ s one.
    changed-from_in flow.inputs input n changed sets s one
    ∙ ap (λ (ss : List Cells). changed_in changes ss s) (so_far.reached before is)
    ∙ changes-first changes all flow.inputs n s one in
    let changed_there : cs ≡ map (changed_in changes all) x.from =
    map-agree (changed_from input changed sets) (changed_in changes all) x.from
    (All-weaker (λ s. is_source flow.inputs n s ≡ true)
    (λ s. changed_from input changed sets s ≡ changed_in changes all s) each x.from right.1) in
    let olds : List Grid = inputs_of flow before was n in
    let told : slice_get (executions flow before) n ≡ Some e =
    ap (λ (ds : List Execution). slice_get ds n) (sym is.run) ∙ old_there in
    let known : slice_get (executions flow before) n ≡ Some (execution x.op olds) =
    executions-at flow before n x over.right there in
    let own : e ≡ execution x.op olds = same_Some e (execution x.op olds) (sym told ∙ known) in
    let old_inputs : e.inputs ≡ olds = ap (λ (d : Execution). d.inputs) own in
    let ins : e.site.ins ≡ extents_of olds = ap (λ (d : Execution). d.site.ins) own in
    let out : e.out.extent ≡ e.site.out =
    ap (λ (d : Execution). d.out.extent) own ∙ sym (ap (λ (d : Execution). d.site.out) own) in
    let old_out : e.out ≡ input_at was n =
    ap (λ (d : Execution). d.out) own
    ∙ ap (output_of x.op) (inputs-at flow before was n x there)
    ∙ sym (output-there flow before n x over.right there) in
    let shape : e.site.out ≡ extent_of was n = sym out ∙ ap (λ (g : Grid). g.extent) old_out in
    let own_out : output_extent x.op (extents_of e.inputs) ≡ e.site.out =
    ap (λ (d : Execution). output_extent x.op (extents_of d.inputs)) own
    ∙ sym (ap (λ (d : Execution). d.site.out) own) in
    let set : slice_get all n ≡ Some (affected_by x.op e.inputs gs cs) =
    affected-at flow before base input changed n x over.right there
    ∙ ap (λ (ds : List Grid). Some (affected_by x.op ds (inputs_of flow base now n)
    (map (changed_in changes all) x.from)))
    (sym old_inputs)
    ∙ ap₂ (λ (ds : List Grid) (ss : List Cells). Some (affected_by x.op e.inputs ds ss)) (sym takes)
    (sym changed_there) in
    let right_shape : is_extent (extent_of was n) ≡ true =
    ap is_extent (sym (extent-of_input was n))
    ∙ extent-right (extents_of was) n (fits-of flow before run).limits_out
    (omega (arith, inside, evaluations-length flow before, length-map was (λ (g : Grid). g.extent))) in
    record {
      op = ap (λ (d : Execution). d.site.op) own;
      ins = ap extents_of takes ∙ ins-same flow before base n x run is.shapes there ∙ sym ins;
      out = out;
      value = ap (λ (d : Execution). d.out) own
          ∙ sym (ap (λ (d : Execution). output_of d.site.op d.inputs) own);
      made = executions-at flow base n x over.right there
          ∙ ap (λ (ds : List Grid). Some (execution x.op ds)) (sym takes);
      set = set;
      shapes = λ i s from named.
          let one = each-at (λ (t : SourceRef). is_source flow.inputs n t ≡ true) x.from i s right.1 from in
          let same : changed_from input changed sets s ≡ changed_from input changed all s =
          each s one ∙ sym (changed-from_in flow.inputs input n changed all s one) in
          ap (λ (c : Cells). c.extent) same
          ∙ change-shape flow old base input changed before n s over is (omega (arith, inside)) one named
          ∙ sym (ins-at flow before n i x s there from)
          ∙ ap (λ (es : List Extent). extent_at es i) (sym ins);
      others = λ k low outside.
          let o : Cell = cell_of e.site.out k in
          let held : holds (extent_of was n) o ≡ true =
          ap (λ (d : Extent). holds d o) (sym shape) ∙ cell-held e.site.out k low in
          let held_now : holds (input_at now n).extent o ≡ true =
          ap (λ (d : Extent). holds d o)
          (sym (extent-of_input now n)
          ∙ ap (λ (es : List Extent). extent_at es n) (outs-same flow before base run is.shapes)
          ∙ extent-of_input was n) ∙ held in
          let not_in : has (set_at all n) o ≡ false =
          ap (λ (m : Option Cells). has (unwrap_or m (no_cells no_extent)) o) set
          ∙ has-index (affected_by x.op e.inputs gs cs) e.site.out k own_out low
          ∙ outside in
          sym (value-index e.out e.site.out k out)
          ∙ ap (λ (g : Grid). value_at g o) old_out
          ∙ others-keep flow before base input changed n o run is.shapes is.same held not_in
          ∙ node-value flow base n x o over.right there held_now
          ∙ ap₂ (λ (p : Op) (ds : List Grid). value_of p ds o) (sym (ap (λ (d : Execution). d.site.op) own))
          (sym among);
      few = subst (λ (d : Extent). size_of d ≤ 1048576) (sym shape) (sides (extent_of was n) right_shape).5;
      own = own_out;
    }

-- one node more
pub so_far-next : (flow : Graph) (old : List Execution) (base : List Grid) (input : ℕ) (changed : Cells)
    (before : List Grid) (runs : List Execution) (sets : List Cells) (count n : ℕ) (x : Node) (e made : Execution)
    (set : Cells) (more : ℕ)
    → Over flow old base input changed → IsBefore flow old base input changed before
    → IsSoFar flow old base input changed runs sets count n
    → slice_get flow.nodes n ≡ Some x → slice_get old n ≡ Some e
    → (let gs = inputs_among base (map (λ (d : Execution). d.out) runs) x in
    (made ≡ execution x.op gs)
    × (set ≡ affected_by x.op e.inputs gs (map (changed_from input changed sets) x.from)))
    → more ≡ count + length set.indexes
    → IsSoFar flow old base input changed (runs ++ made ∷ []) (sets ++ set ∷ []) more (n + 1)
so_far-next flow old base input changed before runs sets count n x e made set more over is so_far there old_there both
    counted =
    let node = λ (b : List Grid) (known : IsBefore flow old base input changed b).
    node-known flow old base input changed b runs sets count n x e over known so_far there old_there in
    let gs : List Grid = inputs_among base (map (λ (d : Execution). d.out) runs) x in
    let cs : List Cells = map (changed_from input changed sets) x.from in
    let one = node before is in
    let small : length set.indexes ≤ 1048576 =
    subst (λ (c : Cells). length c.indexes ≤ 1048576) (sym both.1)
    (within (output_extent x.op (extents_of e.inputs)) (is_reached x.op e.inputs gs cs)
    (subst (λ (d : Extent). size_of d ≤ 1048576) (sym one.own) one.few)) in
    record {
      executed = take-next runs (executions flow base) n made so_far.executed
          (one.made ∙ ap (λ (d : Execution). Some d) (sym both.0));
      reached = λ b known.
          take-next sets (affected flow b base input changed) n set (so_far.reached b known)
          ((node b known).set ∙ ap (λ (c : Cells). Some c) (sym both.1));
      counted = counted
          ∙ ap (λ (m : ℕ). m + length set.indexes) so_far.counted
          ∙ sym (fold-append (λ (m : ℕ) (c : Cells). m + length c.indexes) 0 sets (set ∷ []));
      few = omega (arith, so_far.few, small, counted);
      ran = omega (arith, so_far.ran, length-append runs (made ∷ []));
      long = omega (arith, so_far.long, length-append sets (set ∷ []));
    } where
      within : (d : Extent) (test : Cell → Bool) → size_of d ≤ 1048576 → length (cells_where d test).indexes ≤ 1048576
      within d test small =
          omega (
            arith,
            rising-length (size_of d) 0 (size_of d) (cells_where d test).indexes (omega arith)
                (sets-rising d test),
            small,
          )

-- all nodes
take-all : {X : Type 0} (xs : List X) (n : ℕ) → n ≡ length xs → take n xs ≡ xs
take-all [] zero long = refl
take-all [] (suc n) long = absurd (omega arith)
take-all (x ∷ xs) zero long = absurd (omega arith)
take-all (x ∷ xs) (suc n) long = ap (λ ys. x ∷ ys) (take-all xs n (omega arith))

pub so_far-all : (flow : Graph) (old : List Execution) (base : List Grid) (input : ℕ) (changed : Cells)
    (runs : List Execution) (sets : List Cells) (count n : ℕ) → is_well_formed flow ≡ true
    → IsSoFar flow old base input changed runs sets count n → n ≡ length flow.nodes
    → (runs ≡ executions flow base)
    × ((before : List Grid) → IsBefore flow old base input changed before
    → sets ≡ affected flow before base input changed)
    × (count ≡ cells_in sets) × (count ≤ 32 * 1048576)
so_far-all flow old base input changed runs sets count n well so_far all =
    let few = (well-formed_parts flow well).1 in (
      so_far.executed ∙ take-all (executions flow base) n (all ∙ sym (executions-count flow base)),
      λ before is.
          so_far.reached before is
          ∙ take-all (affected flow before base input changed) n
          (all ∙ sym (affected-count flow before base input changed)),
      so_far.counted,
      omega (arith, so_far.few, few, all),
    )
