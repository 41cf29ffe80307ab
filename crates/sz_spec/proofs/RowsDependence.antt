-- Rows of what a value depends on: which paths go back from a node to a base array, that a flow can be run, which
-- lists of cells lead along a path, and two base arrays that differ, but not where a cell is reached.
--
-- The key idea: on written-out flows and paths every definition is a computation. Of a flow of one node there is one
-- path, and what is reached along it is one cell.
use Rattle.std.proofs.Common.{◌≡◌, ℕ, pos, zero, suc, true, false, List, [], ◌∷◌, Some, None, refl, sym, ap, ◌∙◌}
use Rattle.std.proofs.Common.{nat_lt, ltb-true, ◌&&◌, ◌||◌, ◌==◌, unwrap_or, eqb-true, arith, inl, inr, subst}
use Rattle.std.specs.Prelude.{option_and_then}
use Rattle.std.specs.List.{slice_get}
use Rattle.std.proofs.lemmas.Bool.{and_parts, or_cases}
use Rattle.std.proofs.lemmas.List.Elements.{All-cons, All-head, All-nil}
use Rattle.sz_cells.specs.declared.Cell.{Cell}
use Rattle.sz_cells.specs.Extent.{flat, holds, index_of, is_extent}
use Rattle.sz_cells.specs.Cells.{has, named_in}
use Rattle.sz_spec.specs.declared.op.Op.TheVariants as op
use Rattle.sz_spec.specs.declared.flow.Node.{Node}
use Rattle.sz_spec.specs.declared.flow.SourceRef.TheVariants.{Input, Node as Output}
use Rattle.sz_spec.specs.declared.modes.Dir.TheVariants.{Back, Forward}
use Rattle.sz_spec.specs.Values.{Grid, value_at, input_at}
use Rattle.sz_spec.specs.Flows.{Graph, evaluations}
use Rattle.sz_spec.specs.Paths.{Step, source_of, is_there, is_output_of, follows, are_joined, is_joined}
use Rattle.sz_spec.specs.Paths.{compose, extent_of}
use Rattle.sz_spec.specs.LawsShapes.{AreExtents}
use Rattle.sz_spec.specs.LawsDependence.{GoesBack, CanRun, StepLeads, LeadsAlong, AgreeWhereReached}
use Rattle.sz_spec.specs.LawsDependence.{PassesNoRegions, is_regions, LeadsInEither, AgreeWhereReachedInEither}
use Rattle.sz_spec.specs.Lineage.{related}
use Rattle.sz_spec.proofs.FlowDependence.{value-reached}
use Rattle.sz_spec.proofs.RowsArrays.{node, flow, n, none, grid, at}

abbrev step : ℕ → ℕ → Step
step m i = record { node = m; input = i }

abbrev cell : ℕ → ℕ → Cell
cell row col = record { row = row; col = col }

-- ---- paths back

-- node 0 is the negation of base array 0, and node 1 the sum of node 0 and base array 1
abbrev sum : Graph
sum = flow 2 (node op.Neg (Input 0 ∷ []) ∷ node op.Add (Output 0 ∷ Input 1 ∷ []) ∷ [])

pub goes-back : GoesBack sum 1 (step 1 0 ∷ step 0 0 ∷ []) 0 × GoesBack sum 1 (step 1 1 ∷ []) 1
goes-back = ((refl, refl, refl), (refl, refl, refl))

-- not from another node, not to another array, not before its end, and not where it is not joined
pub goes-from_elsewhere : GoesBack sum 1 (step 0 0 ∷ []) 0 → ⊥
goes-from_elsewhere h = let other : 0 ≡ 1 = h.1 in omega (arith, other)

pub goes-elsewhere : GoesBack sum 1 (step 1 1 ∷ []) 0 → ⊥
goes-elsewhere h = let other : source_of sum (step 1 1) ≡ Some (Input 0) = h.2 in (cc)

pub goes-halfway : GoesBack sum 1 (step 1 0 ∷ []) 0 → ⊥
goes-halfway h = let other : source_of sum (step 1 0) ≡ Some (Input 0) = h.2 in (cc)

pub goes-unjoined : GoesBack sum 1 (step 1 1 ∷ step 0 0 ∷ []) 0 → ⊥
goes-unjoined h = let other : is_joined Back sum (step 1 1 ∷ step 0 0 ∷ []) ≡ true = h.0 in (cc)

-- ---- a flow of one node, which takes the middle one of three cells

abbrev picking : Graph
picking = flow 1 (node (op.Slice 0 1 1 1) (Input 0 ∷ []) ∷ [])

abbrev before : List Grid
before = grid 1 3 (n 1 ∷ n 2 ∷ n 3 ∷ []) ∷ []

-- the middle one stays
abbrev after : List Grid
after = grid 1 3 (n 7 ∷ n 2 ∷ none ∷ []) ∷ []

pub of-three : AreExtents (flat 1 3 ∷ [])
of-three = All-cons (λ e. is_extent e ≡ true) (flat 1 3) [] refl (All-nil (λ e. is_extent e ≡ true))

pub can-run : CanRun picking before
can-run = record { right = refl; count = refl; limits = of-three; fits = refl }

-- backward the middle cell is led to, and forward from it
pub leads-back : LeadsAlong (StepLeads Back picking before (evaluations picking before)) (step 0 0 ∷ []) (cell 0 0)
    (cell 0 1 ∷ []) (cell 0 1)
leads-back = ((node (op.Slice 0 1 1 1) (Input 0 ∷ []), refl, refl, refl), refl)

pub leads-forward : LeadsAlong (StepLeads Forward picking before (evaluations picking before)) (step 0 0 ∷ [])
    (cell 0 1) (cell 0 0 ∷ []) (cell 0 0)
leads-forward = ((node (op.Slice 0 1 1 1) (Input 0 ∷ []), refl, refl, refl), refl)

-- the one source of the node
the-source : (i b : ℕ) → slice_get (Input 0 ∷ []) i ≡ Some (Input b) → (i ≡ 0) × (b ≡ 0)
the-source zero b h = let same : 0 ≡ b = (cc) in (refl, sym same)
the-source (suc i) b h = (cc)

no-node : (i m : ℕ) → is_output_of m (slice_get (Input 0 ∷ []) i) ≡ true → ⊥
no-node zero m h = (cc)
no-node (suc i) m h = (cc)

source-here : (s : Step) → s.node ≡ 0 → source_of picking s ≡ slice_get (Input 0 ∷ []) s.input
source-here s begins =
    ap (λ (k : ℕ). option_and_then (λ (x : Node). slice_get x.from s.input) (slice_get picking.nodes k)) begins

-- so no step follows on one of it
no-second : (s t : Step) (path : List Step) → s.node ≡ 0 → are_joined Back picking (s ∷ t ∷ path) ≡ true → ⊥
no-second s t path begins joined =
    let follow = (and_parts (is_there (source_of picking s)) (follows Back picking s t)
    (and_parts (is_there (source_of picking s) && follows Back picking s t) (are_joined Back picking (t ∷ path))
    joined).0).1 in
    no-node s.input t.node (sym (ap (is_output_of t.node) (source-here s begins)) ∙ follow)

-- and one path goes back from it, to the one base array
only-path : (path : List Step) (b : ℕ) → GoesBack picking 0 path b → (path ≡ step 0 0 ∷ []) × (b ≡ 0)
only-path [] b h = absurd h.1
only-path (s ∷ []) b h =
    let one = the-source s.input b (sym (source-here s h.1) ∙ h.2) in
    let make : ℕ → ℕ → List Step = λ k i. step k i ∷ [] in
    (ap (λ (k : ℕ). make k s.input) h.1 ∙ ap (make 0) one.0, one.1)
only-path (s ∷ t ∷ path) b h =
    absurd (no-second s t path h.1 (and_parts _ (are_joined Back picking (s ∷ t ∷ path)) h.0).1)

-- along it the middle cell is reached alone
middle : (x : Cell) → has (at (flat 1 3) (1 ∷ [])) x ≡ true → index_of (flat 1 3) x ≡ 1
middle x inside =
    let named = (and_parts (holds (flat 1 3) x) ((1 == index_of (flat 1 3) x) || false) inside).1 in
    elim (or_cases (1 == index_of (flat 1 3) x) false named) [
      | inl one ↦ sym (eqb-true 1 (index_of (flat 1 3) x) one)
      | inr other ↦ (cc)
    ]

-- there both base arrays hold one value, though they differ in the other two cells
middle-stays : (b : ℕ) (x : Cell) → b ≡ 0 → index_of (flat 1 3) x ≡ 1
    → value_at (input_at before b) x ≡ value_at (input_at after b) x
middle-stays zero x same index =
    ap (λ (k : ℕ). unwrap_or (slice_get (n 1 ∷ n 2 ∷ n 3 ∷ []) k) None) index
    ∙ sym (ap (λ (k : ℕ). unwrap_or (slice_get (n 7 ∷ n 2 ∷ none ∷ []) k) None) index)
middle-stays (suc b) x same index = absurd (omega (arith, same))

pub picked-agrees : AgreeWhereReached picking 0 (cell 0 0) before after
picked-agrees path b x goes inside =
    let only = only-path path b goes in
    let outputs = evaluations picking before in
    let start = named_in (extent_of outputs 0) (cell 0 0 ∷ []) in
    let along : has (compose Back picking before outputs (step 0 0 ∷ []) start) x ≡ true =
    ap (λ (p : List Step). has (compose Back picking before outputs p start) x) (sym only.0) ∙ inside in
    middle-stays b x only.1 (middle x along)

-- so it is with lists of cells that lead there in the old evaluation or in the new one
picked-middle : (d : Cell) → holds (flat 1 3) d ≡ true
    → related (op.Slice 0 1 1 1) before 0 (cell 0 0) d ≡ true → index_of (flat 1 3) d ≡ 1
picked-middle d held passes =
    let row = ltb-true d.row 1 (and_parts (nat_lt d.row 1) (nat_lt d.col 3) held).0 in
    let col = eqb-true d.col 1 (and_parts _ (d.col == 1) passes).1 in
    omega (arith, row, col)

led-middle : (d : Cell) → LeadsInEither picking before after (step 0 0) (cell 0 0) d → index_of (flat 1 3) d ≡ 1
led-middle d (inl led) =
    let same : led.0 ≡ node (op.Slice 0 1 1 1) (Input 0 ∷ []) = let one = led.1 in (cc) in
    picked-middle d led.2 (ap (λ (x : Node). related x.op before 0 (cell 0 0) d) (sym same) ∙ led.3)
led-middle d (inr led) =
    let same : led.0 ≡ node (op.Slice 0 1 1 1) (Input 0 ∷ []) = let one = led.1 in (cc) in
    picked-middle d led.2 (ap (λ (x : Node). related x.op after 0 (cell 0 0) d) (sym same) ∙ led.3)

chain-middle : (cells : List Cell) (x : Cell)
    → LeadsAlong (LeadsInEither picking before after) (step 0 0 ∷ []) (cell 0 0) cells x → index_of (flat 1 3) x ≡ 1
chain-middle [] x led = absurd led
chain-middle (d ∷ []) x led = sym (ap (index_of (flat 1 3)) led.1) ∙ led-middle d led.0
chain-middle (d ∷ e ∷ cells) x led = absurd led.1

pub picked-agrees_in_either : AgreeWhereReachedInEither picking 0 (cell 0 0) before after
picked-agrees_in_either path b cells x goes led =
    let only = only-path path b goes in
    let along = subst (λ (p : List Step). LeadsAlong (LeadsInEither picking before after) p (cell 0 0) cells x) only.0
    led in
    middle-stays b x only.1 (chain-middle cells x along)

-- no path from it passes regions, and one from a node of regions does
pub picked-passes : PassesNoRegions picking 0
picked-passes [] joined begins = absurd begins
picked-passes (s ∷ []) joined begins =
    let P : Step → Type 0 = λ t. (x : Node) → slice_get picking.nodes t.node ≡ Some x → is_regions x.op ≡ false in
    All-cons P s []
    (λ x there.
    let here : slice_get picking.nodes 0 ≡ Some x = sym (ap (slice_get picking.nodes) begins) ∙ there in
    let same : node (op.Slice 0 1 1 1) (Input 0 ∷ []) ≡ x = (cc) in
    sym (ap (λ (z : Node). is_regions z.op) same))
    (All-nil P)
picked-passes (s ∷ t ∷ path) joined begins =
    absurd (no-second s t path begins (and_parts _ (are_joined Back picking (s ∷ t ∷ path)) joined).1)

pub regions-passed : PassesNoRegions (flow 1 (node (op.Regions (pos 5)) (Input 0 ∷ []) ∷ [])) 0 → ⊥
regions-passed clear =
    let high : Node = node (op.Regions (pos 5)) (Input 0 ∷ []) in
    let told = All-head
    (λ t. (x : Node) → slice_get (high ∷ []) t.node ≡ Some x → is_regions x.op ≡ false) (step 0 0) []
    (clear (step 0 0 ∷ []) refl refl) high refl in
    (cc)

-- so the law tells that the node's cell has one value over both
pub picked-same : value_at (input_at (evaluations picking before) 0) (cell 0 0)
    ≡ value_at (input_at (evaluations picking after) 0) (cell 0 0)
picked-same = value-reached picking before after 0 (cell 0 0) can-run refl refl picked-passes picked-agrees
