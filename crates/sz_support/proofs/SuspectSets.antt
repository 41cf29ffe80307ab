-- What follows of the suspects of a flow's nodes.
--
-- The key idea: the suspects of a node are those of its operator over the sets of its sources among all suspects, as
-- its output is that of its operator over all outputs. So a suspect leads to a cell of a source's set, which is a
-- cell that may differ or a suspect of an earlier node; and a path that leads to such a cell makes each cell on it a
-- suspect, from its end on. A cell that is no suspect then leads to none that may differ, and the law of the paths
-- tells the rest.
use Rattle.std.proofs.Common.{◌≡◌, ℕ, zero, suc, ◌+◌, ◌<◌, ◌≤◌, Bool, true, false, ◌&&◌, ◌==◌}
use Rattle.std.proofs.Common.{List, [], ◌∷◌, ◌++◌, map, length, Option, Some, None, refl, sym, ap, subst, ◌∙◌}
use Rattle.std.proofs.Common.{arith, inl, inr, unwrap_or, append_assoc, append-nil, length-append, eq-eqb, eqb-true}
use Rattle.std.proofs.Common.{ltb-true, nat_lt, ◌⊎◌, if◌then◌else◌}
use Rattle.std.specs.Prelude.{option_and_then}
use Rattle.std.specs.List.{slice_get, list_any, range_with_len}
use Rattle.std.proofs.lemmas.Bool.{cases_Bool, and_parts, and_from, or_cases, or_left, or_right}
use Rattle.std.proofs.lemmas.Bool.{true≢false, eqb-false, ltb-false}
use Rattle.std.proofs.lemmas.List.{length-map}
use Rattle.std.proofs.lemmas.List.Elements.{All-weaker}
use Rattle.sz_cells.specs.declared.Cell.{Cell}
use Rattle.sz_cells.specs.Extent.{Extent, holds}
use Rattle.sz_cells.specs.Cells.{Cells, cells_where, any_cell, has, no_cells}
use Rattle.sz_cells.proofs.Sets.{has-cells_where_any, any_cell-true, any_cell-from}
use Rattle.sz_spec.specs.declared.flow.Node.{Node}
use Rattle.sz_spec.specs.declared.flow.SourceRef.{SourceRef}
use Rattle.sz_spec.specs.declared.flow.SourceRef.TheVariants as source
use Rattle.sz_spec.specs.declared.modes.Dir.TheVariants.{Back}
use Rattle.sz_spec.specs.Values.{Grid, no_extent, extents_of}
use Rattle.sz_spec.specs.Shapes.{output_extent}
use Rattle.sz_spec.specs.Flows.{Graph, is_source, is_well_formed, array_of, evaluations}
use Rattle.sz_spec.specs.Paths.{Step, source_of, is_there, follows, are_joined, extent_of}
use Rattle.sz_spec.specs.Affected.{set_at, changed_of, changed_in, arrays_for}
use Rattle.sz_spec.specs.Supports.{supports}
use Rattle.sz_spec.specs.LawsDependence.{LeadsAlong, BeginsAt, EndsIn}
use Rattle.sz_spec.proofs.Chains.{inputs-at, rest-joined}
use Rattle.sz_spec.proofs.FlowOutputs.{well-formed_parts, slice_get-seam, map-agree, standing-same}
use Rattle.sz_spec.proofs.FlowDependence.{step, output-there, node-held, source-there, taken-at, earlier, joined-on}
use Rattle.sz_spec.proofs.FlowDependence.{output-of_node, path-whole}
use Rattle.sz_spec.proofs.FlowShapes.{each-at}
use Rattle.sz_support.specs.LawsSupports.{StepSupports, IsLedTo}
use Rattle.sz_support.specs.Suspects.{is_suspect, suspects_by, suspects_from, suspects}
use Rattle.sz_support.specs.LawsSuspects.{SuspectsAreLedFrom, OtherCellsKeepTheirValues, SuspectsAreUnionsOfImages}
use Rattle.sz_support.specs.LawsSuspects.{SupportIsLedTo, ValuesDependOnSupport, is_suspected}
use Rattle.sz_spec.specs.Lineage.{forward}
use Rattle.sz_cells.specs.Cells.{is_same}
use Rattle.sz_cells.proofs.Sets.{is_same-true, is_same-refl}
use Rattle.sz_support.proofs.OneFlow.{value-led}

-- ---- numbers of a range

any_range-true : (q : ℕ → Bool) (a n : ℕ) → list_any q (range_with_len a n) ≡ true
    → (k : ℕ) × (a ≤ k) × (k < a + n) × (q k ≡ true)
any_range-true q a zero h = absurd (true≢false (sym h))
any_range-true q a (suc n) h =
    elim (or_cases (q a) (list_any q (range_with_len (a + 1) n)) h) [
      | inl here ↦ (a, omega arith, omega arith, here)
      | inr later ↦
          let one = any_range-true q (a + 1) n later in
          (one.0, omega (arith, one.1), omega (arith, one.2), one.3)
    ]

any_range-from : (q : ℕ → Bool) (k a n : ℕ) → a ≤ k → k < a + n → q k ≡ true
    → list_any q (range_with_len a n) ≡ true
any_range-from q k a zero low high passes = absurd (omega arith)
any_range-from q k a (suc n) low high passes =
    elim (cases_Bool (a == k)) [
      | inl same ↦ or_left (q a) (list_any q (range_with_len (a + 1) n)) (ap q (eqb-true a k same) ∙ passes)
      | inr other ↦
          or_right (q a) (list_any q (range_with_len (a + 1) n))
          (any_range-from q k (a + 1) n (omega (arith, eqb-false a k other)) (omega arith) passes)
    ]

-- ---- the suspects of a node

-- the sets so far are a first part of all
suspects-begin : (inputs : Node → List Grid) (base sets : List Cells) (nodes : List Node)
    → (more : List Cells) × (suspects_from inputs base sets nodes ≡ sets ++ more)
suspects-begin inputs base sets [] = ([], sym (append-nil sets))
suspects-begin inputs base sets (x ∷ nodes) =
    let here = suspects_by x.op (inputs x) (map (changed_in base sets) x.from) in
    let rest = suspects-begin inputs base (sets ++ here ∷ []) nodes in
    (here ∷ rest.0, rest.1 ∙ append_assoc sets (here ∷ []) rest.0)

-- the suspects of a node over the sets before it, and where they stand among all
suspects-parts : (inputs : Node → List Grid) (base sets : List Cells) (nodes : List Node) (k : ℕ) (x : Node)
    → slice_get nodes k ≡ Some x
    → (front rest : List Cells) × (length front ≡ length sets + k)
    × (suspects_from inputs base sets nodes
    ≡ front ++ suspects_by x.op (inputs x) (map (changed_in base front) x.from) ∷ rest)
suspects-parts inputs base sets [] k x there = (cc)
suspects-parts inputs base sets (y ∷ nodes) zero x there =
    let same : y ≡ x = cc in
    let here = suspects_by y.op (inputs y) (map (changed_in base sets) y.from) in
    let begins = suspects-begin inputs base (sets ++ here ∷ []) nodes in (
      sets,
      begins.0,
      omega arith,
      begins.1 ∙ append_assoc sets (here ∷ []) begins.0
          ∙ ap (λ (z : Node). sets ++ suspects_by z.op (inputs z) (map (changed_in base sets) z.from) ∷ begins.0)
          same,
    )
suspects-parts inputs base sets (y ∷ nodes) (suc k) x there =
    let here = suspects_by y.op (inputs y) (map (changed_in base sets) y.from) in
    let rest = suspects-parts inputs base (sets ++ here ∷ []) nodes k x there in
    (rest.0, rest.1, omega (arith, rest.2, length-append sets (here ∷ [])), rest.3)

-- the suspects of a node are those of its operator over the sets of its sources
suspects-at : (flow : Graph) (base : List Grid) (b n : ℕ) (set : Cells) (x : Node) → is_well_formed flow ≡ true
    → slice_get flow.nodes n ≡ Some x
    → set_at (suspects flow base b set) n
    ≡ suspects_by x.op (arrays_for base (evaluations flow base) x)
    (map (changed_in (changed_of flow.inputs b set) (suspects flow base b set)) x.from)
suspects-at flow base b n set x well there =
    let first = changed_of flow.inputs b set in
    let arrays = arrays_for base (evaluations flow base) in
    let right = (well-formed_parts flow well).3 n x there in
    let parts = suspects-parts arrays first [] flow.nodes n x there in
    let long : length parts.0 ≡ n = omega (arith, parts.2) in
    let alone = suspects_by x.op (arrays x) (map (changed_in first parts.0) x.from) in
    let whole : suspects flow base b set ≡ parts.0 ++ alone ∷ parts.1 = parts.3 in
    let sources : map (changed_in first parts.0) x.from ≡ map (changed_in first (parts.0 ++ alone ∷ parts.1)) x.from =
    map-agree (changed_in first parts.0) (changed_in first (parts.0 ++ alone ∷ parts.1)) x.from
    (All-weaker (λ s. is_source flow.inputs n s ≡ true)
    (λ s. changed_in first parts.0 s ≡ changed_in first (parts.0 ++ alone ∷ parts.1) s)
    (λ s one. standing-same (no_cells no_extent) first parts.0 (alone ∷ parts.1) flow.inputs n s long one) x.from
    right.1) in
    ap (λ (sets : List Cells). set_at sets n) whole
    ∙ ap (λ (o : Option Cells). unwrap_or o (no_cells no_extent)) (slice_get-seam parts.0 alone parts.1 n long)
    ∙ ap (λ (sets : List Cells). suspects_by x.op (arrays x) sets) sources
    ∙ ap (λ (sets : List Cells). suspects_by x.op (arrays x) (map (changed_in first sets) x.from)) (sym whole)

-- a suspect of an operator is in the image of some set
pub suspects-images : SuspectsAreUnionsOfImages
suspects-images op inputs sets o =
    let out = output_extent op (extents_of inputs) in
    let found : ℕ → Bool = λ i. any_cell (λ x. supports op inputs i o x) (set_at sets i) in
    let law = has-cells_where_any out (is_suspect op inputs sets) o in
    let image : (i : ℕ) → has (forward (supports op inputs i) out (set_at sets i)) o ≡ (holds out o && found i) =
    λ i. has-cells_where_any out (λ c. any_cell (λ x. supports op inputs i c x) (set_at sets i)) o in (
      λ inside.
          let both = and_parts (holds out o) (is_suspect op inputs sets o) (sym law ∙ inside) in
          let one = any_range-true found 0 (length sets) both.1 in
          (one.0, omega (arith, one.2), image one.0 ∙ and_from (holds out o) (found one.0) both.0 one.3),
      λ known.
          let both = and_parts (holds out o) (found known.0) (sym (image known.0) ∙ known.2) in
          law
          ∙ and_from (holds out o) (is_suspect op inputs sets o) both.0
          (any_range-from found known.0 0 (length sets) (omega arith) (omega (arith, known.1)) both.1),
    )

-- ---- sets that are not there, and those of base arrays

-- there are as many sets as nodes
suspects-many : (inputs : Node → List Grid) (base sets : List Cells) (nodes : List Node)
    → length (suspects_from inputs base sets nodes) ≡ length sets + length nodes
suspects-many inputs base sets [] = omega arith
suspects-many inputs base sets (x ∷ nodes) =
    let here = suspects_by x.op (inputs x) (map (changed_in base sets) x.from) in
    omega (arith, suspects-many inputs base (sets ++ here ∷ []) nodes, length-append sets (here ∷ []))

there-or_beyond : (nodes : List Node) (n : ℕ) → ((x : Node) × (slice_get nodes n ≡ Some x)) ⊎ (length nodes ≤ n)
there-or_beyond [] n = inr (omega arith)
there-or_beyond (x ∷ nodes) zero = inl (x, refl)
there-or_beyond (x ∷ nodes) (suc n) =
    elim (there-or_beyond nodes n) [ inl there ↦ inl there | inr past ↦ inr (omega (arith, past)) ]

set-beyond : (sets : List Cells) (n : ℕ) → length sets ≤ n → set_at sets n ≡ no_cells no_extent
set-beyond [] n past = refl
set-beyond (set ∷ sets) zero past = absurd (omega arith)
set-beyond (set ∷ sets) (suc n) past = set-beyond sets n (omega arith)

-- in a set that has a cell, or in which one passes, there is a node
set-there : (flow : Graph) (base : List Grid) (b n : ℕ) (set : Cells)
    → ((x : Node) × (slice_get flow.nodes n ≡ Some x)) ⊎ (set_at (suspects flow base b set) n ≡ no_cells no_extent)
set-there flow base b n set =
    elim (there-or_beyond flow.nodes n) [
      | inl there ↦ inl there
      | inr past ↦
          let many = suspects-many (arrays_for base (evaluations flow base)) (changed_of flow.inputs b set) []
          flow.nodes in
          inr (set-beyond (suspects flow base b set) n (omega (arith, past, many)))
    ]

-- the elements of a list made of a range
range-some : (f : ℕ → Cells) (a n i : ℕ) → i < n → slice_get (map f (range_with_len a n)) i ≡ Some (f (a + i))
range-some f a zero i inside = absurd (omega arith)
range-some f a (suc n) zero inside = let same : a ≡ a + 0 = omega arith in ap (λ (k : ℕ). Some (f k)) same
range-some f a (suc n) (suc i) inside =
    let same : (a + 1) + i ≡ a + suc i = omega arith in
    range-some f (a + 1) n i (omega arith) ∙ ap (λ (k : ℕ). Some (f k)) same

range-none : (f : ℕ → Cells) (a n i : ℕ) → n ≤ i → slice_get (map f (range_with_len a n)) i ≡ None
range-none f a zero i past = refl
range-none f a (suc n) zero past = absurd (omega arith)
range-none f a (suc n) (suc i) past = range-none f (a + 1) n i (omega arith)

-- the set of a base array: what is found in it is found in the given one, and it is that of its number
base-found : (q : Cell → Bool) (k b i : ℕ) (set : Cells) → any_cell q (set_at (changed_of k b set) i) ≡ true
    → (i ≡ b) × (any_cell q set ≡ true)
base-found q k b i set found =
    let f : ℕ → Cells = λ j. if j == b then set else no_cells set.extent in
    let at : Option Cells → Bool = λ o. any_cell q (unwrap_or o (no_cells no_extent)) in
    elim (cases_Bool (nat_lt i k)) [
      | inl below ↦
          let here = range-some f 0 k i (ltb-true i k below) in
          let number : 0 + i ≡ i = omega arith in
          let told : any_cell q (f i) ≡ true = sym (ap at (here ∙ ap (λ (j : ℕ). Some (f j)) number)) ∙ found in
          elim (cases_Bool (i == b)) [
            | inl same ↦ (eqb-true i b same, rw same at told)
            | inr other ↦ let none = rw other at told in (cc)
          ]
      | inr past ↦
          let none = range-none f 0 k i (ltb-false i k past) in
          let told = sym (ap at none) ∙ found in
          (cc)
    ]

base-from : (q : Cell → Bool) (k b : ℕ) (set : Cells) → b < k → any_cell q set ≡ true
    → any_cell q (set_at (changed_of k b set) b) ≡ true
base-from q k b set below found =
    let f : ℕ → Cells = λ j. if j == b then set else no_cells set.extent in
    let at : Option Cells → Bool = λ o. any_cell q (unwrap_or o (no_cells no_extent)) in
    let here = range-some f 0 k b below in
    let number : 0 + b ≡ b = omega arith in
    let own : any_cell q (f b) ≡ true = rw (eq-eqb b b refl) found in
    ap at (here ∙ ap (λ (j : ℕ). Some (f j)) number) ∙ own

-- ---- sets made by tests

made-true : (set : Cells) (e : Extent) (p q : Cell → Bool) → set ≡ cells_where e p → any_cell q set ≡ true
    → (y : Cell) × (has set y ≡ true) × (q y ≡ true)
made-true set e p q made found =
    let one = any_cell-true e p q (sym (ap (any_cell q) made) ∙ found) in (
      one.0,
      ap (λ (z : Cells). has z one.0) made ∙ has-cells_where_any e p one.0 ∙ and_from (holds e one.0) (p one.0) one.1
          one.2,
      one.3,
    )

made-from : (set : Cells) (e : Extent) (p q : Cell → Bool) (y : Cell) → set ≡ cells_where e p → has set y ≡ true
    → q y ≡ true → any_cell q set ≡ true
made-from set e p q y made inside passes =
    let both = and_parts (holds e y) (p y)
    (sym (has-cells_where_any e p y) ∙ sym (ap (λ (z : Cells). has z y) made) ∙ inside) in
    ap (any_cell q) made ∙ any_cell-from e p q y both.0 both.1 passes

-- ---- a suspect

abbrev chosen : List Grid → ℕ → (Cell → Bool) → Cells
chosen base b picks = cells_where (extent_of base b) picks

-- the sets of all sources
abbrev set_for : Graph → List Grid → ℕ → (Cell → Bool) → SourceRef → Cells
set_for flow base b picks s =
    changed_in (changed_of flow.inputs b (chosen base b picks)) (suspects flow base b (chosen base b picks)) s

abbrev set_of : Graph → List Grid → ℕ → (Cell → Bool) → ℕ → Cells
set_of flow base b picks n = set_at (suspects flow base b (chosen base b picks)) n

-- the arrays that a node takes
abbrev taking : Graph → List Grid → Node → List Grid
taking flow base x = arrays_for base (evaluations flow base) x

-- a cell is a suspect where the output has it and some source's set has a cell that supports it
suspect-has : (flow : Graph) (base : List Grid) (b n : ℕ) (picks : Cell → Bool) (x : Node) (o : Cell)
    → is_well_formed flow ≡ true → slice_get flow.nodes n ≡ Some x
    → has (set_of flow base b picks n) o
    ≡ (holds (extent_of (evaluations flow base) n) o
    && is_suspect x.op (taking flow base x) (map (set_for flow base b picks) x.from) o)
suspect-has flow base b n picks x o right there =
    let sets = map (set_for flow base b picks) x.from in
    let out = output_extent x.op (extents_of (taking flow base x)) in
    ap (λ (z : Cells). has z o) (suspects-at flow base b n (chosen base b picks) x right there)
    ∙ has-cells_where_any out (is_suspect x.op (taking flow base x) sets) o
    ∙ ap (λ (e : Extent). holds e o && is_suspect x.op (taking flow base x) sets o)
    (ap (λ (g : Grid). g.extent) (sym (output-there flow base n x right there)))

-- the set of a source among those of a node
set-at_source : (f : SourceRef → Cells) (from : List SourceRef) (i : ℕ) (s : SourceRef) → slice_get from i ≡ Some s
    → set_at (map f from) i ≡ f s
set-at_source f [] i s h = (cc)
set-at_source f (r ∷ from) zero s h = let same : r ≡ s = (cc) in ap f same
set-at_source f (r ∷ from) (suc i) s h = set-at_source f from i s h

source-below : (from : List SourceRef) (i : ℕ) (s : SourceRef) → slice_get from i ≡ Some s → i < length from
source-below [] i s h = (cc)
source-below (r ∷ from) zero s h = omega arith
source-below (r ∷ from) (suc i) s h = omega (arith, source-below from i s h)

-- so a suspect has a source with a cell that supports it
suspect-source : (flow : Graph) (base : List Grid) (b n : ℕ) (picks : Cell → Bool) (x : Node) (o : Cell)
    → is_well_formed flow ≡ true → slice_get flow.nodes n ≡ Some x
    → has (set_of flow base b picks n) o ≡ true
    → (i : ℕ) × (s : SourceRef) × (slice_get x.from i ≡ Some s)
    × (any_cell (λ y. supports x.op (taking flow base x) i o y) (set_for flow base b picks s) ≡ true)
suspect-source flow base b n picks x o right there inside =
    let f = set_for flow base b picks in
    let sets = map f x.from in
    let q : ℕ → Cell → Bool = λ i y. supports x.op (taking flow base x) i o y in
    let suspect = (and_parts (holds (extent_of (evaluations flow base) n) o)
    (is_suspect x.op (taking flow base x) sets o)
    (sym (suspect-has flow base b n picks x o right there) ∙ inside)).1 in
    let found = any_range-true (λ i. any_cell (q i) (set_at sets i)) 0 (length sets) suspect in
    let src = source-there x.from found.0 (omega (arith, found.2, length-map x.from f)) in (
      found.0,
      src.0,
      src.1,
      sym (ap (any_cell (q found.0)) (set-at_source f x.from found.0 src.0 src.1)) ∙ found.3,
    )

-- and a cell with such a source is one
suspect-of : (flow : Graph) (base : List Grid) (b n i : ℕ) (picks : Cell → Bool) (x : Node) (s : SourceRef) (o : Cell)
    → is_well_formed flow ≡ true → slice_get flow.nodes n ≡ Some x → slice_get x.from i ≡ Some s
    → holds (extent_of (evaluations flow base) n) o ≡ true
    → any_cell (λ y. supports x.op (taking flow base x) i o y) (set_for flow base b picks s) ≡ true
    → has (set_of flow base b picks n) o ≡ true
suspect-of flow base b n i picks x s o right there takes held found =
    let f = set_for flow base b picks in
    let sets = map f x.from in
    let q : ℕ → Cell → Bool = λ j y. supports x.op (taking flow base x) j o y in
    suspect-has flow base b n picks x o right there
    ∙ and_from (holds (extent_of (evaluations flow base) n) o) (is_suspect x.op (taking flow base x) sets o) held
    (any_range-from (λ j. any_cell (q j) (set_at sets j)) i 0 (length sets) (omega arith)
    (omega (arith, length-map x.from f, source-below x.from i s takes))
    (ap (any_cell (q i)) (set-at_source f x.from i s takes) ∙ found))

-- a suspect is of a node
set-node : (flow : Graph) (base : List Grid) (b n : ℕ) (picks : Cell → Bool) (o : Cell)
    → has (set_of flow base b picks n) o ≡ true → (x : Node) × (slice_get flow.nodes n ≡ Some x)
set-node flow base b n picks o inside =
    elim (set-there flow base b n (chosen base b picks)) [
      | inl node ↦ node
      | inr none ↦
          let told : has (no_cells no_extent) o ≡ true = sym (ap (λ (z : Cells). has z o) none) ∙ inside in
          let never : false ≡ true = (and_parts (holds no_extent o) false told).1 in
          (cc)
    ]

-- and a cell of the node's output
suspect-held : (flow : Graph) (base : List Grid) (b n : ℕ) (picks : Cell → Bool) (x : Node) (o : Cell)
    → is_well_formed flow ≡ true → slice_get flow.nodes n ≡ Some x
    → has (set_of flow base b picks n) o ≡ true → holds (extent_of (evaluations flow base) n) o ≡ true
suspect-held flow base b n picks x o right there inside =
    (and_parts (holds (extent_of (evaluations flow base) n) o)
    (is_suspect x.op (taking flow base x) (map (set_for flow base b picks) x.from) o)
    (sym (suspect-has flow base b n picks x o right there) ∙ inside)).0

-- ---- steps

-- a step to a cell of a source's array that supports
step-leads : (flow : Graph) (base : List Grid) (n i : ℕ) (x : Node) (s : SourceRef) (o y : Cell)
    → slice_get flow.nodes n ≡ Some x → slice_get x.from i ≡ Some s
    → holds (array_of base (evaluations flow base) s).extent y ≡ true
    → supports x.op (taking flow base x) i o y ≡ true → StepSupports flow base (step n i) o y
step-leads flow base n i x s o y there takes held passes = (
  x,
  there,
  ap (λ (g : Grid). holds g.extent y) (taken-at flow base n i x s there takes) ∙ held,
  ap (λ (gs : List Grid). supports x.op gs i o y) (inputs-at flow base (evaluations flow base) n x there) ∙ passes,
)

-- where a step's input comes from
source-here : (flow : Graph) (n i : ℕ) (x : Node) (s : SourceRef) → slice_get flow.nodes n ≡ Some x
    → slice_get x.from i ≡ Some s → source_of flow (step n i) ≡ Some s
source-here flow n i x s there takes =
    ap (λ (z : Option Node). option_and_then (λ (w : Node). slice_get w.from i) z) there ∙ takes

source-back : (flow : Graph) (t : Step) (x : Node) (s : SourceRef) → slice_get flow.nodes t.node ≡ Some x
    → source_of flow t ≡ Some s → slice_get x.from t.input ≡ Some s
source-back flow t x s there told =
    sym (ap (λ (z : Option Node). option_and_then (λ (w : Node). slice_get w.from t.input) z) there) ∙ told

-- ---- from a suspect

-- a chain of supports from a cell of a node to a cell of a base array
abbrev Chain : Graph → List Grid → ℕ → Cell → ℕ → Cell → Type 0
Chain flow base n o b x = (path : List Step) × (cells : List Cell) × (are_joined Back flow path ≡ true)
    × BeginsAt n path × EndsIn flow path b × LeadsAlong (StepSupports flow base) path o cells x

-- one step before it
chain-on : (flow : Graph) (base : List Grid) (s : Step) (m b : ℕ) (o y x : Cell)
    → source_of flow s ≡ Some (source.Node m) → StepSupports flow base s o y → Chain flow base m y b x
    → Chain flow base s.node o b x
chain-on flow base s m b o y x takes leads ([], cells, joined, begins, ends, led) = absurd begins
chain-on flow base s m b o y x takes leads (t ∷ path, cells, joined, begins, ends, led) =
    let here : source_of flow s ≡ Some (source.Node t.node) =
    takes ∙ ap (λ (k : ℕ). Some (source.Node k)) (sym begins) in
    (s ∷ t ∷ path, y ∷ cells, joined-on flow s t path here joined, refl, ends, (leads, led))

-- a cell that may differ, to which a suspect leads
abbrev Led : Graph → List Grid → ℕ → (Cell → Bool) → ℕ → Cell → Type 0
Led flow base b picks n o = (x : Cell) × (holds (extent_of base b) x ≡ true) × (picks x ≡ true)
    × Chain flow base n o b x

led-by : (flow : Graph) (base : List Grid) (b n i : ℕ) (picks : Cell → Bool) (x : Node) (o : Cell) (s : SourceRef)
    → is_well_formed flow ≡ true → slice_get flow.nodes n ≡ Some x → slice_get x.from i ≡ Some s
    → any_cell (λ y. supports x.op (taking flow base x) i o y) (set_for flow base b picks s) ≡ true
    → ((m : ℕ) (y : Cell) → m < n → has (set_of flow base b picks m) y ≡ true → Led flow base b picks m y)
    → Led flow base b picks n o
led-by flow base b n i picks x o (source.Input c) right there takes found less =
    let q : Cell → Bool = λ y. supports x.op (taking flow base x) i o y in
    let at = base-found q flow.inputs b c (chosen base b picks) found in
    let y = any_cell-true (extent_of base b) picks q at.1 in
    let held : holds (extent_of base c) y.0 ≡ true = ap (λ (k : ℕ). holds (extent_of base k) y.0) at.0 ∙ y.1 in
    let src = source-here flow n i x (source.Input c) there takes in (
      y.0,
      y.1,
      y.2,
      (
        step n i ∷ [],
        y.0 ∷ [],
        ap is_there src,
        refl,
        src ∙ ap (λ (k : ℕ). Some (source.Input k)) at.0,
        (step-leads flow base n i x (source.Input c) o y.0 there takes held y.3, refl),
      ),
    )
led-by flow base b n i picks x o (source.Node m) right there takes found less =
    let q : Cell → Bool = λ y. supports x.op (taking flow base x) i o y in
    let src = source-here flow n i x (source.Node m) there takes in
    elim (set-there flow base b m (chosen base b picks)) [
      | inl node ↦
          let z = node.0 in
          let y = made-true (set_of flow base b picks m) (output_extent z.op (extents_of (taking flow base z)))
          (is_suspect z.op (taking flow base z) (map (set_for flow base b picks) z.from)) q
          (suspects-at flow base b m (chosen base b picks) z right node.1) found in
          let held = suspect-held flow base b m picks z y.0 right node.1 y.1 in
          let rest = less m y.0 (earlier flow (step n i) x m right there takes) y.1 in
          let leads = step-leads flow base n i x (source.Node m) o y.0 there takes held y.2 in
          (rest.0, rest.1, rest.2, chain-on flow base (step n i) m b o y.0 rest.0 src leads rest.3)
      | inr none ↦ let told : any_cell q (no_cells no_extent) ≡ true = sym (ap (any_cell q) none) ∙ found in (cc)
    ]

led-below : (flow : Graph) (base : List Grid) (b : ℕ) (picks : Cell → Bool) → is_well_formed flow ≡ true
    → (k n : ℕ) (o : Cell) → n < k → has (set_of flow base b picks n) o ≡ true → Led flow base b picks n o
led-below flow base b picks right zero n o low inside = absurd (omega arith)
led-below flow base b picks right (suc k) n o low inside =
    let node = set-node flow base b n picks o inside in
    let src = suspect-source flow base b n picks node.0 o right node.1 inside in
    led-by flow base b n src.0 picks node.0 o src.1 right node.1 src.2 src.3
    (λ m y less inside_m. led-below flow base b picks right k m y (omega (arith, low, less)) inside_m)

-- ---- to a suspect

led-suspect : (flow : Graph) (base : List Grid) (b : ℕ) (picks : Cell → Bool) → is_well_formed flow ≡ true
    → (path : List Step) (n : ℕ) (o : Cell) (cells : List Cell) (x : Cell)
    → holds (extent_of (evaluations flow base) n) o ≡ true → are_joined Back flow path ≡ true → BeginsAt n path
    → EndsIn flow path b → LeadsAlong (StepSupports flow base) path o cells x → picks x ≡ true
    → has (set_of flow base b picks n) o ≡ true
led-suspect flow base b picks right [] n o cells x held joined begins ends led passes = absurd begins
led-suspect flow base b picks right (s ∷ []) n o [] x held joined begins ends led passes = absurd led
led-suspect flow base b picks right (s ∷ []) n o (d ∷ []) x held joined begins ends led passes =
    let w = led.0.0 in
    let there = led.0.1 in
    let takes = source-back flow s w (source.Input b) there ends in
    let q : Cell → Bool = λ y. supports w.op (taking flow base w) s.input o y in
    let inside : holds (extent_of base b) d ≡ true =
    sym (ap (λ (g : Grid). holds g.extent d) (taken-at flow base s.node s.input w (source.Input b) there takes))
    ∙ led.0.2 in
    let supporting : q d ≡ true =
    sym (ap (λ (gs : List Grid). supports w.op gs s.input o d) (inputs-at flow base (evaluations flow base) s.node w
    there)) ∙ led.0.3 in
    let below : b < flow.inputs =
    ltb-true b flow.inputs
    (each-at (λ (t : SourceRef). is_source flow.inputs s.node t ≡ true) w.from s.input (source.Input b)
    ((well-formed_parts flow right).3 s.node w there).1 takes) in
    let found = base-from q flow.inputs b (chosen base b picks) below
    (any_cell-from (extent_of base b) picks q d inside (ap picks led.1 ∙ passes) supporting) in
    ap (λ (k : ℕ). has (set_of flow base b picks k) o) (sym begins)
    ∙ suspect-of flow base b s.node s.input picks w (source.Input b) o right there takes
    (ap (λ (k : ℕ). holds (extent_of (evaluations flow base) k) o) begins ∙ held) found
led-suspect flow base b picks right (s ∷ []) n o (d ∷ e ∷ cells) x held joined begins ends led passes = absurd led.1
led-suspect flow base b picks right (s ∷ t ∷ path) n o [] x held joined begins ends led passes = absurd led
led-suspect flow base b picks right (s ∷ t ∷ path) n o (d ∷ cells) x held joined begins ends led passes =
    let w = led.0.0 in
    let there = led.0.1 in
    let follow = (and_parts (is_there (source_of flow s)) (follows Back flow s t)
    (and_parts (is_there (source_of flow s) && follows Back flow s t) (are_joined Back flow (t ∷ path)) joined).0).1 in
    let takes = source-back flow s w (source.Node t.node) there
    (output-of_node (source_of flow s) t.node follow) in
    let q : Cell → Bool = λ y. supports w.op (taking flow base w) s.input o y in
    let inside : holds (extent_of (evaluations flow base) t.node) d ≡ true =
    sym (ap (λ (g : Grid). holds g.extent d) (taken-at flow base s.node s.input w (source.Node t.node) there takes))
    ∙ led.0.2 in
    let supporting : q d ≡ true =
    sym (ap (λ (gs : List Grid). supports w.op gs s.input o d) (inputs-at flow base (evaluations flow base) s.node w
    there)) ∙ led.0.3 in
    let rest = led-suspect flow base b picks right (t ∷ path) t.node d cells x inside
    (rest-joined Back flow s (t ∷ path) joined) refl ends led.1 passes in
    let node = node-held flow base t.node d inside in
    let z = node.0 in
    let found = made-from (set_of flow base b picks t.node) (output_extent z.op (extents_of (taking flow base z)))
    (is_suspect z.op (taking flow base z) (map (set_for flow base b picks) z.from)) q d
    (suspects-at flow base b t.node (chosen base b picks) z right node.1) rest supporting in
    ap (λ (k : ℕ). has (set_of flow base b picks k) o) (sym begins)
    ∙ suspect-of flow base b s.node s.input picks w (source.Node t.node) o right there takes
    (ap (λ (k : ℕ). holds (extent_of (evaluations flow base) k) o) begins ∙ held) found

-- the cell that is led to is one of the base array
led-held : (flow : Graph) (base : List Grid) (b : ℕ) (path : List Step) (n : ℕ) (o : Cell) (cells : List Cell)
    (x : Cell) → BeginsAt n path → EndsIn flow path b → LeadsAlong (StepSupports flow base) path o cells x
    → holds (extent_of base b) x ≡ true
led-held flow base b [] n o cells x begins ends led = absurd begins
led-held flow base b (s ∷ []) n o [] x begins ends led = absurd led
led-held flow base b (s ∷ []) n o (d ∷ []) x begins ends led =
    let w = led.0.0 in
    let there = led.0.1 in
    let takes = source-back flow s w (source.Input b) there ends in
    sym (ap (λ (z : Cell). holds (extent_of base b) z) led.1)
    ∙ sym (ap (λ (g : Grid). holds g.extent d) (taken-at flow base s.node s.input w (source.Input b) there takes))
    ∙ led.0.2
led-held flow base b (s ∷ []) n o (d ∷ e ∷ cells) x begins ends led = absurd led.1
led-held flow base b (s ∷ t ∷ path) n o [] x begins ends led = absurd led
led-held flow base b (s ∷ t ∷ path) n o (d ∷ cells) x begins ends led =
    led-held flow base b (t ∷ path) t.node d cells x refl ends led.1

-- ---- the laws

pub suspects-led : SuspectsAreLedFrom
suspects-led flow base b n picks o run = (
  λ inside.
      let node = set-node flow base b n picks o inside in
      let held = suspect-held flow base b n picks node.0 o run.right node.1 inside in
      let found = led-below flow base b picks run.right (suc n) n o (omega arith) inside in
      let chain = found.3 in (
        held,
        (
          found.0,
          found.1,
          found.2,
          (
            chain.0,
            chain.1,
            (path-whole flow chain.0 n node.0 run.right node.1 chain.2 chain.3, chain.3, chain.4),
            chain.5,
          ),
        ),
      ),
  λ known.
      let chain = known.1.3 in
      let goes = chain.2 in
      led-suspect flow base b picks run.right chain.0 n o chain.1 known.1.0 known.0
      (and_parts _ (are_joined Back flow chain.0) goes.0).1 goes.1 goes.2 chain.3 known.1.2,
)

pub others-keep : OtherCellsKeepTheirValues
others-keep flow old new b n picks o run same elsewhere held clean =
    value-led flow old new n o run same held
    (λ i x led.
    let inside = led-held flow old i led.0 n o led.1 x (led.2).1 (led.2).2 led.3 in
    elim (cases_Bool ((i == b) && picks x)) [
      | inl chosen_one ↦
          let both = and_parts (i == b) (picks x) chosen_one in
          let number = eqb-true i b both.0 in
          let to_b : IsLedTo flow old n o b x = subst (λ (k : ℕ). IsLedTo flow old n o k x) number led in
          let in_b : holds (extent_of old b) x ≡ true = subst (λ (k : ℕ). holds (extent_of old k) x ≡ true) number
          inside in
          absurd (true≢false (sym ((suspects-led flow old b n picks o run).1 (held, (x, in_b, both.1, to_b))) ∙ clean))
      | inr other ↦ elsewhere i x inside other
    ])

-- ---- the support of some cells

pub support-led : SupportIsLedTo
support-led flow base n b picks x run =
    let out = extent_of (evaluations flow base) n in
    let one : Cell → Bool = λ c. is_same c x in
    let test : Cell → Bool = λ o. is_suspected flow base b one n o in
    let law = has-cells_where_any (extent_of base b)
    (λ y. any_cell (λ o. is_suspected flow base b (λ c. is_same c y) n o) (cells_where out picks)) x in (
      λ inside.
          let both = and_parts (holds (extent_of base b) x) (any_cell test (cells_where out picks))
          (sym law ∙ inside) in
          let found = any_cell-true out picks test both.1 in
          let led = (suspects-led flow base b n one found.0 run).0 found.3 in
          let same = is_same-true led.1.0 x led.1.2 in
          (found.0, found.1, found.2, subst (λ (y : Cell). IsLedTo flow base n found.0 b y) same led.1.3),
      λ known.
          let led = known.3 in
          let held = led-held flow base b led.0 n known.0 led.1 x (led.2).1 (led.2).2 led.3 in
          let suspect = (suspects-led flow base b n one known.0 run).1 (known.1, (x, held, is_same-refl x, led)) in
          law
          ∙ and_from (holds (extent_of base b) x) (any_cell test (cells_where out picks)) held
          (any_cell-from out picks test known.0 known.1 known.2 suspect),
    )

pub support-fixes : ValuesDependOnSupport
support-fixes flow old new n picks o run same agree held passes =
    value-led flow old new n o run same held
    (λ b x led. agree b x ((support-led flow old n b picks x run).1 (o, held, passes, led)))
