-- What follows of affected cells.
--
-- The key idea: a value depends on the base cells to which cells lead from its own, in the old evaluation or in the
-- new one. If one of these is changed, then each cell of such a list is affected, from the base array up to the
-- first: so from a cell that is not affected, none leads to a changed one.
use Rattle.std.proofs.Common.{◌≡◌, ℕ, zero, suc, ◌+◌, ◌<◌, Bool, true, false, List, [], ◌∷◌, ◌++◌, map, length}
use Rattle.std.proofs.Common.{All, Option, Some, None, Ok, Err, Result, refl, sym, ap, ap₂, ◌∙◌, arith, inl, inr}
use Rattle.std.proofs.Common.{◌&&◌, ◌||◌, ◌==◌, unwrap_or, append_assoc, append-nil, length-append, ltb-true}
use Rattle.std.proofs.Common.{eq-eqb, eqb-true, true≢false, if◌then◌else◌, get_or}
use Rattle.std.specs.Prelude.{is_ok, option_and_then}
use Rattle.std.specs.List.{slice_get, list_any, range_with_len}
use Rattle.std.proofs.lemmas.Bool.{and_parts, and_from, or_cases, or_left, or_right, false_from_ne_true}
use Rattle.std.proofs.lemmas.List.Elements.{All-weaker}
use Rattle.std.proofs.lemmas.List.Folds.{list_any_at}
use Rattle.std.proofs.lemmas.List.FromFn.{length-range_with_len, get_or-range_with_len, get_or-map-range_with_len}
use Rattle.std.proofs.lemmas.Option.{unwrap_or-slice_get}
use Rattle.std.proofs.lemmas.List.{length-map}
use Rattle.sz_cells.specs.declared.Cell.{Cell}
use Rattle.sz_cells.specs.Extent.{Extent, holds, index_of, cell_of}
use Rattle.sz_cells.specs.Cells.{Cells, any_cell, has, no_cells}
use Rattle.sz_cells.proofs.Sets.{has-cells_where_any, cell-index}
use Rattle.sz_spec.specs.declared.op.Op.{Op}
use Rattle.sz_spec.specs.declared.flow.Node.{Node}
use Rattle.sz_spec.specs.declared.flow.SourceRef.{SourceRef}
use Rattle.sz_spec.specs.declared.flow.SourceRef.TheVariants as source
use Rattle.sz_spec.specs.declared.modes.Dir.TheVariants.{Back}
use Rattle.sz_spec.specs.Values.{Grid, no_extent, extent_at, extents_of}
use Rattle.sz_spec.specs.Shapes.{output_extent}
use Rattle.sz_spec.specs.Lineage.{related, forward}
use Rattle.sz_spec.specs.Flows.{Graph, is_source, is_well_formed, array_of, evaluations}
use Rattle.sz_spec.specs.FlowShapes.{output_shapes}
use Rattle.sz_spec.specs.Paths.{Step, source_of, is_there, is_output_of, follows, are_joined, inputs_of}
use Rattle.sz_spec.specs.Paths.{extent_of}
use Rattle.sz_spec.specs.LawsDependence.{StepLeads, LeadsAlong, CanRun, BeginsAt, EndsIn, LeadsInEither}
use Rattle.sz_spec.proofs.Chains.{inputs-at, rest-joined}
use Rattle.sz_spec.proofs.FlowDependence.{output-there, value-reached_in_either}
use Rattle.sz_spec.proofs.FlowOutputs.{map-agree, well-formed_parts, slice_get-left, slice_get-seam}
use Rattle.sz_spec.proofs.FlowShapes.{shapes-found, below, each-at}
use Rattle.sz_spec.proofs.PayloadLineage.{extent-of_input}
use Rattle.sz_spec.specs.Affected.{set_at, changed_of, changed_in, is_reached, affected_by, arrays_for}
use Rattle.sz_spec.specs.Affected.{affected_from, affected}
use Rattle.sz_refresh.specs.Laws.{AffectedCellsAreReachedForward, EachNodeHasItsAffectedCells}
use Rattle.sz_refresh.specs.Laws.{AffectedCellsAreThoseOfTheirNodes, OtherCellsKeepTheirValues}

-- ---- one operator

-- some cell of a set passes where one that is in it does
pub any-has : (test : Cell → Bool) (set : Cells) (x : Cell) → has set x ≡ true → test x ≡ true
    → any_cell test set ≡ true
any-has test set x inside passes =
    let e : Extent = set.extent in
    let both = and_parts (holds e x) (list_any (λ k. k == index_of e x) set.indexes) inside in
    let known : test (cell_of e (index_of e x)) ≡ true = ap test (cell-index e x both.0) ∙ passes in
    there set.indexes (index_of e x) known both.1 where
      there : (ks : List ℕ) (j : ℕ) → test (cell_of set.extent j) ≡ true → list_any (λ k. k == j) ks ≡ true
          → list_any (λ k. test (cell_of set.extent k)) ks ≡ true
      there [] j known found = found
      there (k ∷ ks) j known found =
          elim (or_cases (k == j) (list_any (λ i. i == j) ks) found) [
            | inl here ↦
                or_left (test (cell_of set.extent k)) (list_any (λ i. test (cell_of set.extent i)) ks)
                (ap (λ (i : ℕ). test (cell_of set.extent i)) (eqb-true k j here) ∙ known)
            | inr later ↦
                or_right (test (cell_of set.extent k)) (list_any (λ i. test (cell_of set.extent i)) ks)
                (there ks j known later)
          ]

-- some number of a range passes where one below its end does
pub any-below : (test : ℕ → Bool) (n i : ℕ) → i < n → test i ≡ true → list_any test (range_with_len 0 n) ≡ true
any-below test n i inside passes =
    let at : get_or (range_with_len 0 n) i 0 ≡ i = get_or-range_with_len 0 n i 0 inside ∙ omega arith in
    list_any_at test (range_with_len 0 n) i 0 (omega (arith, length-range_with_len 0 n)) (ap test at ∙ passes)

-- a cell that is related to a changed cell is reached
pub reached-at : (op : Op) (old new : List Grid) (changed : List Cells) (o x : Cell) (i : ℕ) → i < length changed
    → has (set_at changed i) x ≡ true → (related op old i o x || related op new i o x) ≡ true
    → is_reached op old new changed o ≡ true
reached-at op old new changed o x i inside there passes =
    any-below
    (λ j. any_cell (λ y. related op old j o y || related op new j o y) (set_at changed j)) (length changed) i inside
    (any-has (λ y. related op old i o y || related op new i o y) (set_at changed i) x there passes)

-- some element passes one of two tests exactly where some passes the one, or some the other
pub any-either : (p q : ℕ → Bool) (ks : List ℕ) → list_any (λ k. p k || q k) ks ≡ (list_any p ks || list_any q ks)
any-either p q [] = refl
any-either p q (k ∷ ks) =
    ap (λ (b : Bool). (p k || q k) || b) (any-either p q ks)
    ∙ mixed (p k) (q k) (list_any p ks) (list_any q ks) where
      mixed : (a b c d : Bool) → ((a || b) || (c || d)) ≡ ((a || c) || (b || d))
      mixed true b c d = refl
      mixed false true true d = refl
      mixed false true false d = refl
      mixed false false c d = refl

-- two tests that agree everywhere find alike
any-same : (p q : ℕ → Bool) → ((k : ℕ) → p k ≡ q k) → (ks : List ℕ) → list_any p ks ≡ list_any q ks
any-same p q same [] = refl
any-same p q same (k ∷ ks) = ap₂ (λ (a b : Bool). a || b) (same k) (any-same p q same ks)

-- and so in the set of a shape
any-held : (b : Bool) (p q : ℕ → Bool) → ((k : ℕ) → (b && p k) ≡ q k) → (ks : List ℕ)
    → (b && list_any p ks) ≡ list_any q ks
any-held true p q same ks = any-same p q same ks
any-held false p q same ks = sym (none ks) where
  none : (js : List ℕ) → list_any q js ≡ false
  none [] = refl
  none (j ∷ js) = ap₂ (λ (a b : Bool). a || b) (sym (same j)) (none js)

-- the affected cells are the images forward
pub affected-forward : AffectedCellsAreReachedForward
affected-forward op old new changed o =
    let out = output_extent op (extents_of old) in
    let toward = λ (inputs : List Grid) (i : ℕ). λ (c : Cell).
    any_cell (λ x. related op inputs i c x) (set_at changed i) in
    has-cells_where_any out (is_reached op old new changed) o
    ∙ any-held (holds out o) (λ i. any_cell (λ x. related op old i o x || related op new i o x) (set_at changed i))
    (λ i. has (forward (related op old i) out (set_at changed i)) o
    || has (forward (related op new i) out (set_at changed i)) o)
    (λ i.
    ap (λ (b : Bool). holds out o && b)
    (any-either (λ k. related op old i o (cell_of (set_at changed i).extent k))
    (λ k. related op new i o (cell_of (set_at changed i).extent k)) (set_at changed i).indexes)
    ∙ shared (holds out o) (toward old i o) (toward new i o)
    ∙ sym (ap₂ (λ (a b : Bool). a || b) (has-cells_where_any out (toward old i) o)
    (has-cells_where_any out (toward new i) o))) (range_with_len 0 (length changed)) where
      shared : (h a b : Bool) → (h && (a || b)) ≡ ((h && a) || (h && b))
      shared true a b = refl
      shared false a b = refl

-- ---- the nodes of a flow, one after another

-- the sets so far are a first part of all, and there is one more for each node
affected-begin : (old new : Node → List Grid) (base sets : List Cells) (nodes : List Node)
    → (more : List Cells) × (affected_from old new base sets nodes ≡ sets ++ more) × (length more ≡ length nodes)
affected-begin old new base sets [] = ([], sym (append-nil sets), refl)
affected-begin old new base sets (x ∷ nodes) =
    let cells : Cells = affected_by x.op (old x) (new x) (map (changed_in base sets) x.from) in
    let rest = affected-begin old new base (sets ++ cells ∷ []) nodes in
    (cells ∷ rest.0, rest.1 ∙ append_assoc sets (cells ∷ []) rest.0, omega (arith, rest.2))

-- the set of a node over the sets before it, and where it stands among all
affected-split : (old new : Node → List Grid) (base sets : List Cells) (nodes : List Node) (k : ℕ) (x : Node)
    → slice_get nodes k ≡ Some x
    → (front rest : List Cells) × (length front ≡ length sets + k)
    × (affected_from old new base sets nodes
    ≡ front ++ affected_by x.op (old x) (new x) (map (changed_in base front) x.from) ∷ rest)
affected-split old new base sets [] k x there = (cc)
affected-split old new base sets (y ∷ nodes) zero x there =
    let same : y ≡ x = cc in
    let cells : Cells = affected_by y.op (old y) (new y) (map (changed_in base sets) y.from) in
    let begins = affected-begin old new base (sets ++ cells ∷ []) nodes in
    let whole : affected_from old new base sets (y ∷ nodes) ≡ sets ++ cells ∷ begins.0 =
    begins.1 ∙ append_assoc sets (cells ∷ []) begins.0 in (
      sets,
      begins.0,
      omega arith,
      whole ∙ ap (λ (z : Node).
          sets ++ affected_by z.op (old z) (new z) (map (changed_in base sets) z.from) ∷ begins.0) same,
    )
affected-split old new base sets (y ∷ nodes) (suc k) x there =
    let cells : Cells = affected_by y.op (old y) (new y) (map (changed_in base sets) y.from) in
    let rest = affected-split old new base (sets ++ cells ∷ []) nodes k x there in
    (rest.0, rest.1, omega (arith, rest.2, length-append sets (cells ∷ [])), rest.3)

-- a source of a right node has the same changed cells among all sets
changed-same : (base front more : List Cells) (inputs n : ℕ) (s : SourceRef) → length front ≡ n
    → is_source inputs n s ≡ true → changed_in base front s ≡ changed_in base (front ++ more) s
changed-same base front more inputs n (source.Input i) long right = refl
changed-same base front more inputs n (source.Node m) long right =
    let below : m < n = ltb-true m n right in
    ap (λ (o : Option Cells). unwrap_or o (no_cells no_extent)) (sym (slice_get-left front more m (omega arith)))

-- there is a set for each node
pub affected-count : EachNodeHasItsAffectedCells
affected-count flow old new input changed =
    let begins = affected-begin (arrays_for old (evaluations flow old)) (arrays_for new (evaluations flow new))
    (changed_of flow.inputs input changed) [] flow.nodes in
    ap length begins.1 ∙ begins.2

-- the set of a node is that of its operator over what it takes
pub affected-at : AffectedCellsAreThoseOfTheirNodes
affected-at flow old new input changed n x well there =
    let right = (well-formed_parts flow well).3 n x there in
    let a = arrays_for old (evaluations flow old) in
    let b = arrays_for new (evaluations flow new) in
    let base = changed_of flow.inputs input changed in
    let parts = affected-split a b base [] flow.nodes n x there in
    let long : length parts.0 ≡ n = omega (arith, parts.2) in
    let alone : Cells = affected_by x.op (a x) (b x) (map (changed_in base parts.0) x.from) in
    let whole : affected flow old new input changed ≡ parts.0 ++ alone ∷ parts.1 = parts.3 in
    let sources : map (changed_in base parts.0) x.from ≡ map (changed_in base (parts.0 ++ alone ∷ parts.1)) x.from =
    map-agree-sets (changed_in base parts.0) (changed_in base (parts.0 ++ alone ∷ parts.1)) x.from
    (All-weaker (λ s. is_source flow.inputs n s ≡ true)
    (λ s. changed_in base parts.0 s ≡ changed_in base (parts.0 ++ alone ∷ parts.1) s)
    (λ s one. changed-same base parts.0 (alone ∷ parts.1) flow.inputs n s long one) x.from right.1) in
    ap (λ (sets : List Cells). slice_get sets n) whole
    ∙ slice_get-seam parts.0 alone parts.1 n long
    ∙ ap (λ (cs : List Cells). Some (affected_by x.op (a x) (b x) cs)) sources
    ∙ ap (λ (sets : List Cells). Some (affected_by x.op (a x) (b x) (map (changed_in base sets) x.from))) (sym whole)
    ∙ ap₂ (λ (f g : List Grid). Some (affected_by x.op f g
    (map (changed_in base (affected flow old new input changed)) x.from)))
    (sym (inputs-at flow old (evaluations flow old) n x there))
    (sym (inputs-at flow new (evaluations flow new) n x there)) where
      map-agree-sets : (f g : SourceRef → Cells) (xs : List SourceRef) → All (λ s. f s ≡ g s) xs → map f xs ≡ map g xs
      map-agree-sets f g xs h = map-agree f g xs h

-- ---- the changed cells of a source

-- the set of a source of a list
pub mapped-set : (f : SourceRef → Cells) (from : List SourceRef) (i : ℕ) (s : SourceRef) → slice_get from i ≡ Some s
    → set_at (map f from) i ≡ f s
mapped-set f [] i s h = (cc)
mapped-set f (r ∷ from) zero s h = let same : r ≡ s = (cc) in ap f same
mapped-set f (r ∷ from) (suc i) s h = mapped-set f from i s h

-- those of a base array of the flow
pub changed-base : (inputs input b : ℕ) (changed : Cells) → b < inputs
    → set_at (changed_of inputs input changed) b ≡ (if b == input then changed else no_cells changed.extent)
changed-base inputs input b changed inside =
    let one : ℕ → Cells = λ k. if k == input then changed else no_cells changed.extent in
    unwrap_or-slice_get (map one (range_with_len 0 inputs)) b (no_cells no_extent)
    ∙ get_or-map-range_with_len one 0 inputs b b (no_cells no_extent) inside (omega arith)

-- a source that is there is one of its node
source-node : (flow : Graph) (s : Step) (src : SourceRef) (x : Node) → source_of flow s ≡ Some src
    → slice_get flow.nodes s.node ≡ Some x → slice_get x.from s.input ≡ Some src
source-node flow s src x takes there =
    sym (ap (λ (z : Option Node). option_and_then (λ (w : Node). slice_get w.from s.input) z) there) ∙ takes

-- ---- one step

-- the shapes of the outputs are the same
pub outs-same : (flow : Graph) (old new : List Grid) → CanRun flow old → extents_of old ≡ extents_of new
    → extents_of (evaluations flow new) ≡ extents_of (evaluations flow old)
outs-same flow old new run same =
    let told = given (output_shapes flow (extents_of old)) run.fits in
    shapes-found flow new told.0 (ap (output_shapes flow) (sym same) ∙ told.1) ∙ sym
    (shapes-found flow old told.0 told.1)
  where
    given : (r : Result (List Extent) ℕ) → is_ok r ≡ true → (es : List Extent) × (r ≡ Ok es)
    given (Ok es) h = (es, refl)
    given (Err n) h = (cc)

-- the array of a source has the shape of what a node takes there
source-extent : (flow : Graph) (base outputs : List Grid) (s : Step) (src : SourceRef) (x : Node)
    → slice_get flow.nodes s.node ≡ Some x → slice_get x.from s.input ≡ Some src
    → extent_of (inputs_of flow base outputs s.node) s.input ≡ (array_of base outputs src).extent
source-extent flow base outputs s src x there takes =
    ap (λ (gs : List Grid). extent_of gs s.input) (inputs-at flow base outputs s.node x there)
    ∙ among (array_of base outputs) x.from s.input src takes where
      among : (f : SourceRef → Grid) (from : List SourceRef) (i : ℕ) (r : SourceRef) → slice_get from i ≡ Some r
          → extent_of (map f from) i ≡ (f r).extent
      among f [] i r h = (cc)
      among f (q ∷ from) zero r h = let one : q ≡ r = (cc) in ap (λ (z : SourceRef). (f z).extent) one
      among f (q ∷ from) (suc i) r h = among f from i r h

-- two runs over arrays of the same shapes have sources of the same shapes
source-same : (old new a b : List Grid) (s : SourceRef) → extents_of old ≡ extents_of new → extents_of b ≡ extents_of a
    → (array_of new b s).extent ≡ (array_of old a s).extent
source-same old new a b (source.Input i) first second =
    sym (extent-of_input new i) ∙ ap (λ (es : List Extent). extent_at es i) (sym first) ∙ extent-of_input old i
source-same old new a b (source.Node m) first second =
    sym (extent-of_input b m) ∙ ap (λ (es : List Extent). extent_at es m) second ∙ extent-of_input a m

-- a step leads to a cell of its source
step-held : (flow : Graph) (base : List Grid) (s : Step) (src : SourceRef) (c d : Cell)
    → source_of flow s ≡ Some src → StepLeads Back flow base (evaluations flow base) s c d
    → holds (array_of base (evaluations flow base) src).extent d ≡ true
step-held flow base s src c d takes led =
    let outputs = evaluations flow base in
    ap (λ (e : Extent). holds e d)
    (sym (source-extent flow base outputs s src led.0 led.1 (source-node flow s src led.0 takes led.1)))
    ∙ led.2

either-held : (flow : Graph) (old new : List Grid) (s : Step) (src : SourceRef) (c d : Cell)
    → CanRun flow old → extents_of old ≡ extents_of new
    → source_of flow s ≡ Some src → LeadsInEither flow old new s c d
    → holds (array_of old (evaluations flow old) src).extent d ≡ true
either-held flow old new s src c d run same takes (inl led) = step-held flow old s src c d takes led
either-held flow old new s src c d run same takes (inr led) =
    ap (λ (e : Extent). holds e d)
    (sym (source-same old new (evaluations flow old) (evaluations flow new) src same (outs-same flow old new run same)))
    ∙ step-held flow new s src c d takes led

-- a cell from which a step leads to a changed cell of its source is affected
step-affected : (flow : Graph) (old new : List Grid) (input : ℕ) (changed : Cells) (s : Step) (src : SourceRef)
    (x : Node) (c d : Cell) → is_well_formed flow ≡ true
    → slice_get flow.nodes s.node ≡ Some x → source_of flow s ≡ Some src
    → (related x.op (inputs_of flow old (evaluations flow old) s.node) s.input c d
    || related x.op (inputs_of flow new (evaluations flow new) s.node) s.input c d) ≡ true
    → has (changed_in (changed_of flow.inputs input changed) (affected flow old new input changed) src) d ≡ true
    → holds (extent_of (evaluations flow old) s.node) c ≡ true
    → has (set_at (affected flow old new input changed) s.node) c ≡ true
step-affected flow old new input changed s src x c d well there takes passes inside held =
    let sets = affected flow old new input changed in
    let base = changed_of flow.inputs input changed in
    let a = inputs_of flow old (evaluations flow old) s.node in
    let b = inputs_of flow new (evaluations flow new) s.node in
    let from = source-node flow s src x takes there in
    let changes : List Cells = map (changed_in base sets) x.from in
    let own : Cells = affected_by x.op a b changes in
    let at : set_at sets s.node ≡ own =
    ap (λ (o : Option Cells). unwrap_or o (no_cells no_extent))
    (affected-at flow old new input changed s.node x well there) in
    let shape : output_extent x.op (extents_of a) ≡ extent_of (evaluations flow old) s.node =
    ap (λ (gs : List Grid). output_extent x.op (extents_of gs)) (inputs-at flow old (evaluations flow old)
    s.node x there)
    ∙ sym (ap (λ (g : Grid). g.extent) (output-there flow old s.node x well there)) in
    let few : s.input < length changes = omega (
      arith,
      below x.from s.input src from,
      length-map x.from (changed_in base sets),
    ) in
    let found : has (set_at changes s.input) d ≡ true =
    ap (λ (set : Cells). has set d) (mapped-set (changed_in base sets) x.from s.input src from) ∙ inside in
    ap (λ (set : Cells). has set c) at
    ∙ has-cells_where_any (output_extent x.op (extents_of a)) (is_reached x.op a b changes) c
    ∙ and_from (holds (output_extent x.op (extents_of a)) c) (is_reached x.op a b changes c)
    (ap (λ (e : Extent). holds e c) shape ∙ held)
    (reached-at x.op a b changes c d s.input few found passes)

either-affected : (flow : Graph) (old new : List Grid) (input : ℕ) (changed : Cells) (s : Step) (src : SourceRef)
    (c d : Cell) → is_well_formed flow ≡ true → source_of flow s ≡ Some src → LeadsInEither flow old new s c d
    → has (changed_in (changed_of flow.inputs input changed) (affected flow old new input changed) src) d ≡ true
    → holds (extent_of (evaluations flow old) s.node) c ≡ true
    → has (set_at (affected flow old new input changed) s.node) c ≡ true
either-affected flow old new input changed s src c d well takes (inl led) inside held =
    step-affected flow old new input changed s src led.0 c d well led.1 takes
    (or_left (related led.0.op (inputs_of flow old (evaluations flow old) s.node) s.input c d)
    (related led.0.op (inputs_of flow new (evaluations flow new) s.node) s.input c d) led.3) inside held
either-affected flow old new input changed s src c d well takes (inr led) inside held =
    step-affected flow old new input changed s src led.0 c d well led.1 takes
    (or_right (related led.0.op (inputs_of flow old (evaluations flow old) s.node) s.input c d)
    (related led.0.op (inputs_of flow new (evaluations flow new) s.node) s.input c d) led.3) inside held

-- ---- a list of cells that lead to a base array

-- a source that is the output of a node
output-of_node : (o : Option SourceRef) (m : ℕ) → is_output_of m o ≡ true → o ≡ Some (source.Node m)
output-of_node None m h = (cc)
output-of_node (Some (source.Input i)) m h = (cc)
output-of_node (Some (source.Node k)) m h = ap (λ (j : ℕ). Some (source.Node j)) (eqb-true k m h)

-- where the last cell is changed, the first is affected; and the last is one of the base array
record Led (flow : Graph) (old new : List Grid) (input : ℕ) (changed : Cells) (n b : ℕ) (o x : Cell) : Type 0 where
  held : holds (extent_of old b) x ≡ true
  affected : has (set_at (changed_of flow.inputs input changed) b) x ≡ true
      → holds (extent_of (evaluations flow old) n) o ≡ true
      → has (set_at (affected flow old new input changed) n) o ≡ true
  inside : b < flow.inputs

-- the base array of a step is one of the flow
base-inside : (flow : Graph) (s : Step) (x : Node) (b : ℕ) → is_well_formed flow ≡ true
    → slice_get flow.nodes s.node ≡ Some x → source_of flow s ≡ Some (source.Input b) → b < flow.inputs
base-inside flow s x b well there takes =
    ltb-true b flow.inputs
    (each-at (λ (t : SourceRef). is_source flow.inputs s.node t ≡ true) x.from s.input (source.Input b)
    ((well-formed_parts flow well).3 s.node x there).1 (source-node flow s (source.Input b) x takes there))

leads-node : (flow : Graph) (old new : List Grid) (s : Step) (c d : Cell) → LeadsInEither flow old new s c d
    → (x : Node) × (slice_get flow.nodes s.node ≡ Some x)
leads-node flow old new s c d (inl led) = (led.0, led.1)
leads-node flow old new s c d (inr led) = (led.0, led.1)

chain-led : (flow : Graph) (old new : List Grid) (input : ℕ) (changed : Cells) → CanRun flow old
    → extents_of old ≡ extents_of new → (path : List Step) (n b : ℕ) (cells : List Cell) (o x : Cell)
    → are_joined Back flow path ≡ true → BeginsAt n path → EndsIn flow path b
    → LeadsAlong (LeadsInEither flow old new) path o cells x → Led flow old new input changed n b o x
chain-led flow old new input changed run same [] n b cells o x joined begins ends led = absurd begins
chain-led flow old new input changed run same (s ∷ path) n b [] o x joined begins ends led = absurd led
chain-led flow old new input changed run same (s ∷ []) n b (d ∷ []) o x joined begins ends led =
    let node = leads-node flow old new s o d led.0 in
    let sets = affected flow old new input changed in
    record {
      held = ap (λ (z : Cell). holds (extent_of old b) z) (sym led.1)
          ∙ either-held flow old new s (source.Input b) o d run same ends led.0;
      affected = λ inside held.
          ap (λ (m : ℕ). has (set_at sets m) o) (sym begins)
          ∙ either-affected flow old new input changed s (source.Input b) o d run.right ends led.0
          (ap (λ (z : Cell). has (set_at (changed_of flow.inputs input changed) b) z) led.1 ∙ inside)
          (ap (λ (m : ℕ). holds (extent_of (evaluations flow old) m) o) begins ∙ held);
      inside = base-inside flow s node.0 b run.right node.1 ends;
    }
chain-led flow old new input changed run same (s ∷ []) n b (d ∷ e ∷ cells) o x joined begins ends led = absurd led.1
chain-led flow old new input changed run same (s ∷ t ∷ path) n b (d ∷ cells) o x joined begins ends led =
    let rest = rest-joined Back flow s (t ∷ path) joined in
    let follow = (and_parts (is_there (source_of flow s)) (follows Back flow s t)
    (and_parts (is_there (source_of flow s) && follows Back flow s t) (are_joined Back flow (t ∷ path)) joined).0).1 in
    let takes = output-of_node (source_of flow s) t.node follow in
    let less = chain-led flow old new input changed run same (t ∷ path) t.node b cells d x rest refl ends led.1 in
    let sets = affected flow old new input changed in
    let there = either-held flow old new s (source.Node t.node) o d run same takes led.0 in
    record {
      held = less.held;
      affected = λ inside held.
          ap (λ (m : ℕ). has (set_at sets m) o) (sym begins)
          ∙ either-affected flow old new input changed s (source.Node t.node) o d run.right takes led.0
          (less.affected inside there)
          (ap (λ (m : ℕ). holds (extent_of (evaluations flow old) m) o) begins ∙ held);
      inside = less.inside;
    }

-- ---- the law

-- a cell that is not affected keeps its value
pub others-keep : OtherCellsKeepTheirValues
others-keep flow old new input changed n o run same differ held out =
    let sets = affected flow old new input changed in
    value-reached_in_either flow old new n o run same held
    (λ path b cells x goes led.
    let joined = (and_parts _ (are_joined Back flow path) goes.0).1 in
    let known = chain-led flow old new input changed run same path n b cells o x joined goes.1 goes.2 led in
    differ b x known.held
    (λ here.
    false_from_ne_true (has changed x) (λ inside.
    let named : set_at (changed_of flow.inputs input changed) b ≡ changed =
    changed-base flow.inputs input b changed known.inside
    ∙ ap (λ (t : Bool). if t then changed else no_cells changed.extent) (eq-eqb b input here) in
    let found : has (set_at sets n) o ≡ true =
    known.affected (ap (λ (set : Cells). has set x) named ∙ inside) held in
    true≢false (sym found ∙ out))))
