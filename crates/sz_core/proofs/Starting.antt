-- What follows of the conditions on which a machine is made.
--
-- The key idea: each test of the conditions is a test of every node, pair or query, so it is read off at the one at
-- hand.
-- A path is joined where each step's cells are those to which the step before it leads, and joined arrays have one
-- shape.
use Rattle.std.proofs.Common.{◌≡◌, ℕ, zero, suc, ◌+◌, ◌/◌, ◌<◌, ◌≤◌, Bool, true}
use Rattle.std.proofs.Common.{false, ◌&&◌, ◌==◌, nat_lt, nat_le, List, [], ◌∷◌}
use Rattle.std.proofs.Common.{length, get_or, map, refl, sym, ap}
use Rattle.std.proofs.Common.{ap₂, ◌∙◌, arith, true≢false, eqb-true, ltb-true, Option, Some}
use Rattle.std.proofs.Common.{None, All}
use Rattle.std.proofs.lemmas.Bool.{and_parts}
use Rattle.std.proofs.lemmas.List.Elements.{All-cons}
use Rattle.std.proofs.lemmas.List.{length-map}
use Rattle.std.proofs.lemmas.List.FromFn.{get_or-map-range_with_len, length-map-range_with_len}
use Rattle.std.proofs.lemmas.Option.{slice_get-get_or, slice_get_within}
use Rattle.std.proofs.lemmas.Option.{slice_get-map}
use Rattle.std.specs.List.{slice_get, list_all, enumerate_from}
use Rattle.std.specs.Option.{option_map, option_map_or}
use Rattle.std.specs.Prelude.{Result, Ok, Err, is_ok, is_none}
use Rattle.std.specs.Result.{result_unwrap_or}
use Rattle.sz_cells.specs.Extent.{Extent, size_of}
use Rattle.sz_spec.specs.declared.flow.Node.{Node}
use Rattle.sz_spec.specs.declared.flow.SourceRef.{SourceRef}
use Rattle.sz_spec.specs.declared.flow.SourceRef.TheVariants as source
use Rattle.sz_spec.specs.declared.modes.Dir.{Dir}
use Rattle.sz_spec.specs.declared.modes.Dir.TheVariants.{Back, Forward}
use Rattle.sz_spec.specs.declared.op.Op.{Op}
use Rattle.sz_spec.specs.declared.op.Op.TheVariants.{Lookup}
use Rattle.sz_spec.specs.Flows.{Graph, is_source, flow_fault}
use Rattle.sz_spec.specs.FlowShapes.{source_shape, node_inputs, output_shapes}
use Rattle.sz_spec.specs.LawsFlows.{IsRightNode}
use Rattle.sz_spec.specs.Paths.{Step, source_of, is_output_of, is_there, follows, are_joined}
use Rattle.sz_spec.specs.Paths.{is_joined}
use Rattle.sz_spec.specs.Pieces.{pieces_of}
use Rattle.sz_spec.specs.Shapes.{arity, are_equal}
use Rattle.sz_spec.specs.Sides.{extent_before, extent_after}
use Rattle.sz_spec.specs.Values.{extent_at}
use Rattle.sz_core.specs.declared.pairs.Pair.{Pair}
use Rattle.sz_core.specs.Links.{near_cell, far_cell, LiesWithin, PairsLieWithin}
use Rattle.sz_core.specs.Invariants.{IsStepFrom, LiesAlong, CanGoOn, extent_beyond}
use Rattle.sz_core.specs.Starts.{shapes_fit, shapes_made, shapes_taken, first_shelf, first_shelves, first_ask}
use Rattle.sz_core.specs.Starts.{is_pair_of}
use Rattle.sz_core.specs.Starts.{is_shelf, are_shelves, fits_step, is_query, are_queries}
use Rattle.sz_core.specs.States.{Shelf, Query, shelf_at, no_shelf}
use Rattle.sz_core.proofs.Relations.{extent-at}
use Rattle.sz_spec.proofs.Chains.{first-there}
use Rattle.sz_spec.proofs.FlowOutputs.{well-formed_parts}
use Rattle.sz_spec.proofs.FlowShapes.{wider, outputs-length}

-- ---- lists

-- a test of all is one of each
pub all-each : {A : Type 0} (t : A → Bool) (xs : List A) → list_all t xs ≡ true → All (λ x. t x ≡ true) xs
all-each t [] passes = λ k d within. absurd (omega arith)
all-each t (x ∷ xs) passes =
    let both = and_parts (t x) (list_all t xs) passes in
    All-cons (λ y. t y ≡ true) x xs both.0 (all-each t xs both.1)

-- a test of all with their places is one of each with its place
pub places-each : {A : Type 0} (t : ℕ × A → Bool) (a : ℕ) (xs : List A)
    → list_all t (enumerate_from a xs) ≡ true
    → (k : ℕ) (d : A) → k < length xs → t (a + k, get_or xs k d) ≡ true
places-each t a [] passes k d within = absurd (omega arith)
places-each t a (x ∷ xs) passes zero d within =
    let none : a + 0 ≡ a = omega arith in
    rw none (and_parts (t (a, x)) (list_all t (enumerate_from (a + 1) xs)) passes).0
places-each t a (x ∷ xs) passes (suc k) d within =
    let next : a + suc k ≡ a + 1 + k = omega arith in
    rw next (places-each t (a + 1) xs (and_parts (t (a, x)) (list_all t (enumerate_from (a + 1) xs)) passes).1 k d
    (omega arith))

-- ---- nodes

-- what holds of node n of a flow without a fault
pub node-at : (g : Graph) (n m : ℕ) (x : Node) → flow_fault g ≡ None → n < length g.nodes
    → x ≡ get_or g.nodes n x → n ≤ m
    → (length x.from ≡ arity x.op) × All (λ s. is_source g.inputs m s ≡ true) x.from
node-at g n m x none within at order =
    let there : slice_get g.nodes n ≡ Some x =
    slice_get-get_or g.nodes n x within ∙ ap (λ (y : Node). Some y) (sym at) in
    let right : IsRightNode g.inputs n x = (well-formed_parts g (ap is_none none)).3 n x there in
    (right.0, λ k d inside. wider g.inputs g.inputs n m (get_or x.from k d) refl order (right.1 k d inside))

-- an operator takes at most two inputs
pub arity-few : (op : Op) → arity op ≤ 2
arity-few Lookup = omega arith
arity-few _ = omega arith

-- shapes that are found are those that are made
found-made : (r : Result (List Extent) ℕ) → is_ok r ≡ true → r ≡ Ok (result_unwrap_or r [])
found-made (Ok shapes) found = refl
found-made (Err n) found = absurd (true≢false (sym found))

-- where shapes fit there are as many as base arrays, and each node's rule gives one
pub fit-parts : (g : Graph) (base : List Extent) → shapes_fit g base ≡ true
    → (length base ≡ g.inputs) × (output_shapes g base ≡ Ok (shapes_made g base))
fit-parts g base fits =
    let both = and_parts (length base == g.inputs) (is_ok (output_shapes g base)) fits in
    (eqb-true (length base) g.inputs both.0, found-made (output_shapes g base) both.1)

-- there is one output shape for each node
pub count-made : (g : Graph) (base : List Extent) → shapes_fit g base ≡ true
    → length (shapes_made g base) ≡ length g.nodes
count-made g base fits = outputs-length g base (shapes_made g base) (fit-parts g base fits).1

-- the shapes that a node takes
pub inputs-at : (g : Graph) (base : List Extent) (n : ℕ) (x : Node) → n < length g.nodes
    → x ≡ get_or g.nodes n x
    → shapes_taken g base n ≡ node_inputs base (shapes_made g base) x
inputs-at g base n x within at =
    let here : slice_get g.nodes n ≡ Some x = slice_get-get_or g.nodes n x within
    ∙ ap (λ (y : Node). Some y) (sym at) in rw here refl

-- the shapes made of a node's sources are those that it takes
pub taken-found : (g : Graph) (base outs ins : List Extent) (n : ℕ) (x : Node) (from : List SourceRef)
    → n < length g.nodes → x ≡ get_or g.nodes n x → outs ≡ shapes_made g base → from ≡ x.from
    → ins ≡ map (source_shape base outs) from → ins ≡ shapes_taken g base n
taken-found g base outs ins n x from within at made same found =
    found ∙ ap (map (source_shape base outs)) same
    ∙ ap (λ (os : List Extent). node_inputs base os x) made
    ∙ sym (inputs-at g base n x within at)

-- the shape at hand is that of the node's output
pub out-found : (g : Graph) (base outs : List Extent) (n : ℕ) (e : Extent) → shapes_fit g base ≡ true
    → n < length g.nodes → outs ≡ shapes_made g base → e ≡ get_or outs n e → e ≡ extent_at (shapes_made g base) n
out-found g base outs n e fits within made at =
    let long = ap length made ∙ count-made g base fits in
    extent-at outs n e (omega (arith, long, within)) at ∙ ap (λ (os : List Extent). extent_at os n) made

-- ---- pairs

-- where a pair is one of a piece, it lies within the shapes
pair-within : (s : Shelf) (dir : Dir) (i k : ℕ) (p : Pair) → is_pair_of s k p ≡ true
    → LiesWithin dir i (size_of (extent_before dir s.out s.ins i)) (extent_after dir s.out s.ins i) p
pair-within s dir i k p right same = at dir where
  parts : (p.out < size_of s.out) × (p.cell < size_of (extent_at s.ins i))
  parts =
      let both = and_parts (nat_lt p.out (size_of s.out) && (p.out / 64 == k))
      (nat_lt p.input (length s.ins) && nat_lt p.cell (size_of (extent_at s.ins p.input))) right in
      let low = and_parts (nat_lt p.out (size_of s.out)) (p.out / 64 == k) both.0 in
      let high = and_parts (nat_lt p.input (length s.ins)) (nat_lt p.cell (size_of (extent_at s.ins p.input)))
      both.1 in (
        ltb-true p.out (size_of s.out) low.0,
        rw same at (ltb-true p.cell (size_of (extent_at s.ins p.input)) high.1),
      )

  at : (dir : Dir) → (near_cell dir p < size_of (extent_before dir s.out s.ins i))
      × (far_cell dir p < size_of (extent_after dir s.out s.ins i))
  at Back = (parts.0, parts.1)
  at Forward = (parts.1, parts.0)

-- the pairs of a shelf lie within its shapes
pub pairs-within : (s : Shelf) → is_shelf s ≡ true
    → PairsLieWithin (record { out = s.out; ins = s.ins; pieces = s.pieces })
pairs-within s right dir i inside k d within j e here =
    let pairs = get_or s.pieces k d in
    let pieces = (and_parts (length s.pieces == pieces_of s.out)
    (list_all (λ x. list_all (is_pair_of s x.0) x.1) (enumerate_from 0 s.pieces)) right).1 in
    let piece = places-each (λ x. list_all (is_pair_of s x.0) x.1) 0 s.pieces pieces k d within in
    pair-within s dir i (0 + k) (get_or pairs j e) (all-each (is_pair_of s (0 + k)) pairs piece j e here)

-- a shelf has no more pieces than its node's output has cells
pub pieces-few : (s : Shelf) → is_shelf s ≡ true → length s.pieces ≤ size_of s.out
pieces-few s right =
    let count = eqb-true (length s.pieces) (pieces_of s.out)
    (and_parts (length s.pieces == pieces_of s.out)
    (list_all (λ x. list_all (is_pair_of s x.0) x.1) (enumerate_from 0 s.pieces)) right).0 in
    omega (arith, count)

-- ---- shelves

-- there is one shelf for each node, and each is right
pub shelves-right : (g : Graph) (base : List Extent) (pairs : List (List (List Pair)))
    → are_shelves g base pairs ≡ true
    → (length pairs ≡ length g.nodes)
    × ((n : ℕ) → n < length pairs → is_shelf (first_shelf g base pairs n) ≡ true)
shelves-right g base pairs right =
    let both = and_parts (length pairs == length g.nodes) (list_all is_shelf (first_shelves g base pairs)) right in
    let f = first_shelf g base pairs in
    let each = all-each is_shelf (first_shelves g base pairs) both.1 in (
      eqb-true (length pairs) (length g.nodes) both.0,
      λ n within.
          let long : n < length (first_shelves g base pairs) =
          rw (length-map-range_with_len f 0 (length pairs)) within in
          rw (get_or-map-range_with_len f 0 (length pairs) n n no_shelf within (omega arith)) at (each n no_shelf
          long),
    )

-- the shelf of a node among them
pub shelf-of-node : (g : Graph) (base : List Extent) (pairs : List (List (List Pair))) (n : ℕ) → n < length pairs
    → shelf_at (first_shelves g base pairs) n ≡ first_shelf g base pairs n
shelf-of-node g base pairs n within =
    get_or-map-range_with_len (first_shelf g base pairs) 0 (length pairs) n n no_shelf within (omega arith)

-- ---- queries

-- equal shapes are one
pub equal-extents : (a b : Extent) → are_equal a b ≡ true → a ≡ b
equal-extents a b same =
    let outer = and_parts ((a.layers == b.layers) && (a.rows == b.rows)) (a.cols == b.cols) same in
    let inner = and_parts (a.layers == b.layers) (a.rows == b.rows) outer.0 in
    let make : ℕ → ℕ → ℕ → Extent = λ l r c. record { layers = l; rows = r; cols = c } in
    ap₂ (λ l r. make l r a.cols) (eqb-true a.layers b.layers inner.0) (eqb-true a.rows b.rows inner.1)
    ∙ ap (λ c. make b.layers b.rows c) (eqb-true a.cols b.cols outer.1)

-- a step whose source is there is of a node of the flow, and over one of its sources
pub source-there : (g : Graph) (s : Step) → is_there (source_of g s) ≡ true
    → (x : Node) × (r : SourceRef) × (slice_get g.nodes s.node ≡ Some x)
    × (slice_get x.from s.input ≡ Some r) × (source_of g s ≡ Some r)
source-there g s there = at (slice_get g.nodes s.node) refl where
  inner : (x : Node) → slice_get g.nodes s.node ≡ Some x → (o : Option SourceRef)
      → slice_get x.from s.input ≡ o
      → (x : Node) × (r : SourceRef) × (slice_get g.nodes s.node ≡ Some x)
      × (slice_get x.from s.input ≡ Some r) × (source_of g s ≡ Some r)
  inner x node None none = let h : source_of g s ≡ None = rw (node, none) refl in
      absurd (true≢false (sym there ∙ ap is_there h))
  inner x node (Some r) some = (x, r, node, some, rw (node, some) refl)

  at : (o : Option Node) → slice_get g.nodes s.node ≡ o
      → (x : Node) × (r : SourceRef) × (slice_get g.nodes s.node ≡ Some x)
      × (slice_get x.from s.input ≡ Some r) × (source_of g s ≡ Some r)
  at None none = let h : source_of g s ≡ None = rw none refl in absurd (true≢false (sym there ∙ ap is_there h))
  at (Some x) some = inner x some (slice_get x.from s.input) refl

-- the shape of an input of a step
input-shape : (g : Graph) (base : List Extent) (s : Step) (r : SourceRef) → source_of g s ≡ Some r
    → (x : Node) → slice_get g.nodes s.node ≡ Some x → slice_get x.from s.input ≡ Some r
    → extent_at (shapes_taken g base s.node) s.input ≡ source_shape base (shapes_made g base) r
input-shape g base s r _ x node at =
    let mapped : slice_get (node_inputs base (shapes_made g base) x) s.input ≡ Some
    (source_shape base (shapes_made g base) r) =
    slice_get-map (source_shape base (shapes_made g base)) x.from s.input
    ∙ ap (option_map (source_shape base (shapes_made g base))) at in
    rw (node, mapped) refl

-- the shelf of a step of the flow
pub step-shelf : (g : Graph) (base : List Extent) (pairs : List (List (List Pair))) (s : Step)
    → length pairs ≡ length g.nodes → is_there (source_of g s) ≡ true
    → shelf_at (first_shelves g base pairs) s.node ≡ first_shelf g base pairs s.node
step-shelf g base pairs s count there =
    let at = source-there g s there in
    shelf-of-node g base pairs s.node (rw count (slice_get_within g.nodes s.node at.0 at.2))

-- what holds of a step of the flow that takes cells of the right shape
step-from : (dir : Dir) (g : Graph) (base : List Extent) (pairs : List (List (List Pair))) (e : Extent) (s : Step)
    → length pairs ≡ length g.nodes
    → is_there (source_of g s) ≡ true
    → e ≡ extent_before dir (shelf_at (first_shelves g base pairs) s.node).out
    (shelf_at (first_shelves g base pairs) s.node).ins s.input
    → IsStepFrom dir (first_shelves g base pairs) e s
step-from dir g base pairs e s count there shape =
    let at = source-there g s there in
    let within = slice_get_within g.nodes s.node at.0 at.2 in
    let inside = slice_get_within (at.0).from s.input at.1 at.3 in
    let ins : (shelf_at (first_shelves g base pairs) s.node).ins ≡ node_inputs base (shapes_made g base) at.0 =
    ap (λ (x : Shelf). x.ins) (step-shelf g base pairs s count there) ∙ (rw at.2 refl) in
    record {
      node = rw (length-map-range_with_len (first_shelf g base pairs) 0 (length pairs), count) within;
      input = rw (ins, length-map (at.0).from (source_shape base (shapes_made g base))) inside;
      shape = shape;
    }

-- a source that is the output of a node has the shape of that output
output-of : (g : Graph) (base : List Extent) (s : Step) (n : ℕ) (r : SourceRef) → is_output_of n (Some r) ≡ true
    → source_shape base (shapes_made g base) r ≡ extent_at (shapes_made g base) n
output-of g base s n (source.Input i) is = absurd (true≢false (sym is))
output-of g base s n (source.Node m) is = ap (extent_at (shapes_made g base)) (eqb-true m n is)

-- a step that follows another takes the cells to which that one leads
pub follow-shape : (dir : Dir) (g : Graph) (base : List Extent) (pairs : List (List (List Pair))) (s t : Step)
    → length pairs ≡ length g.nodes
    → is_there (source_of g s) ≡ true → is_there (source_of g t) ≡ true → follows dir g s t ≡ true
    → extent_beyond dir (first_shelves g base pairs) s
    ≡ extent_before dir (shelf_at (first_shelves g base pairs) t.node).out
    (shelf_at (first_shelves g base pairs) t.node).ins t.input
follow-shape Back g base pairs s t count first second joined =
    let at = source-there g s first in
    let o = output-of g base s t.node at.1 (rw at.4 at joined) in
    ap (λ (x : Shelf). extent_at x.ins s.input) (step-shelf g base pairs s count first)
    ∙ input-shape g base s at.1 at.4 at.0 at.2 at.3 ∙ o
    ∙ sym (ap (λ (x : Shelf). x.out) (step-shelf g base pairs t count second))
follow-shape Forward g base pairs s t count first second joined =
    let at = source-there g t second in
    let o = output-of g base t s.node at.1 (rw at.4 at joined) in
    ap (λ (x : Shelf). x.out) (step-shelf g base pairs s count first) ∙ sym o
    ∙ sym (input-shape g base t at.1 at.4 at.0 at.2 at.3)
    ∙ sym (ap (λ (x : Shelf). extent_at x.ins t.input) (step-shelf g base pairs t count second))

-- a joined path can be taken from cells of the shape that its first step takes
along-joined : (dir : Dir) (g : Graph) (base : List Extent) (pairs : List (List (List Pair))) (e : Extent)
    (s : Step) (path : List Step)
    → length pairs ≡ length g.nodes → are_joined dir g (s ∷ path) ≡ true
    → e ≡ extent_before dir (shelf_at (first_shelves g base pairs) s.node).out
    (shelf_at (first_shelves g base pairs) s.node).ins s.input
    → LiesAlong dir (first_shelves g base pairs) e (s ∷ path)
along-joined dir g base pairs e s [] count joined shape = (step-from dir g base pairs e s count joined shape, tt)
along-joined dir g base pairs e s (t ∷ path) count joined shape =
    let outer = and_parts (is_there (source_of g s) && follows dir g s t) (are_joined dir g (t ∷ path)) joined in
    let inner = and_parts (is_there (source_of g s)) (follows dir g s t) outer.0 in
    let second = first-there dir g t path outer.1 in (
      step-from dir g base pairs e s count inner.0 shape,
      along-joined dir g base pairs (extent_beyond dir (first_shelves g base pairs) s) t path count outer.1
          (follow-shape dir g base pairs s t count inner.0 second inner.1),
    )

-- a query's ask can go on
pub query-ready : (g : Graph) (base : List Extent) (pairs : List (List (List Pair))) (q : Query)
    → length pairs ≡ length g.nodes
    → is_query g (first_shelves g base pairs) q ≡ true → CanGoOn (first_shelves g base pairs) (first_ask q)
query-ready g base pairs q count right =
    let shelves = first_shelves g base pairs in
    let both = and_parts (is_joined q.dir g q.path)
    (option_map_or (fits_step q.dir shelves q.cells.extent) (slice_get q.path 0) false) right in
    let joined = and_parts (nat_lt 0 (length q.path) && nat_le (length q.path) 32) (are_joined q.dir g q.path)
    both.0 in
    at q.path joined.1 both.1 where
      at : (path : List Step) → are_joined q.dir g path ≡ true
          → option_map_or (fits_step q.dir (first_shelves g base pairs) q.cells.extent) (slice_get path 0) false ≡
          true
          → LiesAlong q.dir (first_shelves g base pairs) q.cells.extent path
      at [] joined fits = tt
      at (s ∷ path) joined fits = along-joined q.dir g base pairs q.cells.extent s path count joined
          (equal-extents q.cells.extent _ fits)

-- so can the asks of all queries
pub queries-ready : (g : Graph) (base : List Extent) (pairs : List (List (List Pair))) (queries : List Query)
    → length pairs ≡ length g.nodes
    → are_queries g (first_shelves g base pairs) queries ≡ true
    → All (CanGoOn (first_shelves g base pairs)) (map first_ask queries)
queries-ready g base pairs [] count right = λ k d within. absurd (omega arith)
queries-ready g base pairs (q ∷ queries) count right =
    let both = and_parts (is_query g (first_shelves g base pairs) q)
    (are_queries g (first_shelves g base pairs) queries) right in
    All-cons (CanGoOn (first_shelves g base pairs)) (first_ask q) (map first_ask queries)
    (query-ready g base pairs q count both.0)
    (queries-ready g base pairs queries count both.1)
