-- The law that joins the machine to the composed relation of a path.
--
-- The key idea: along a joined path the sets are of the shapes of the arrays, and their cells are there; so where
-- the pairs say
-- the operators' relations of cells that are there, each image is the image under the operator's relation.
use Rattle.std.proofs.Common.{◌≡◌, ℕ, suc, ◌<◌, Bool, true, false, ◌&&◌, ◌||◌}
use Rattle.std.proofs.Common.{List, [], ◌∷◌, length, map, refl, sym, ap, ap₂, ◌∙◌}
use Rattle.std.proofs.Common.{arith, Some, unwrap_or, All, nat_lt, nat_le}
use Rattle.std.proofs.lemmas.Bool.{and_parts}
use Rattle.std.proofs.lemmas.Option.{slice_get-map, slice_get_within}
use Rattle.std.specs.List.{slice_get, list_any}
use Rattle.std.specs.Option.{option_map, option_map_or}
use Rattle.sz_cells.proofs.Sets.{cells_where-ext, cell-held, indexes-below}
use Rattle.sz_cells.specs.declared.Cell.{Cell}
use Rattle.sz_cells.specs.Extent.{Extent, size_of, holds, cell_of}
use Rattle.sz_cells.specs.Cells.{Cells, any_cell}
use Rattle.sz_spec.specs.declared.flow.Node.{Node}
use Rattle.sz_spec.specs.declared.modes.Dir.{Dir}
use Rattle.sz_spec.specs.declared.modes.Dir.TheVariants.{Back, Forward}
use Rattle.sz_spec.specs.Flows.{Graph, array_of, evaluations}
use Rattle.sz_spec.specs.Lineage.{related, back, forward}
use Rattle.sz_spec.specs.Paths.{Step, source_of, is_there, follows, are_joined, is_joined}
use Rattle.sz_spec.specs.Paths.{inputs_of, extent_of, image, compose}
use Rattle.sz_spec.specs.FlowShapes.{source_shape}
use Rattle.sz_spec.specs.Sides.{extent_before}
use Rattle.sz_spec.specs.Values.{Grid, no_grid, extent_at, extents_of}
use Rattle.sz_core.specs.declared.pairs.Pair.{Pair}
use Rattle.sz_core.specs.Images.{say, image_by, image_on}
use Rattle.sz_core.specs.Images.{compose_pairs}
use Rattle.sz_core.specs.Laws.{SayTheRelations, LiesInItsShape, EndedAsksHoldTheComposedRelation}
use Rattle.sz_core.specs.Starts.{shapes_fit, shapes_made, shapes_taken, first_shelf, first_shelves, first_ask}
use Rattle.sz_core.specs.Starts.{start, fits_step}
use Rattle.sz_core.specs.States.{Shelf, shelf_at, whole_pairs}
use Rattle.sz_core.proofs.Ending.{states_lemma, ended_lemma}
use Rattle.sz_core.proofs.Going.{image-extent}
use Rattle.sz_spec.proofs.Chains.{first-there}
use Rattle.sz_core.proofs.Starting.{source-there, step-shelf, follow-shape}
use Rattle.sz_core.proofs.Starting.{equal-extents, fit-parts}
use Rattle.sz_spec.proofs.FlowShapes.{inputs-shapes, shapes-found}
use Rattle.sz_spec.proofs.PayloadLineage.{extent-of_input}

-- ---- shapes of arrays

-- the shape of an array of a list
extent-got : (arrays : List Grid) (i : ℕ)
    → (unwrap_or (slice_get arrays i) no_grid).extent ≡ extent_at (extents_of arrays) i
extent-got arrays i = sym (extent-of_input arrays i)

-- the shapes of the outputs are those told by the rules
outs-extents : (g : Graph) (base : List Grid) → shapes_fit g (extents_of base) ≡ true
    → extents_of (evaluations g base) ≡ shapes_made g (extents_of base)
outs-extents g base fits =
    shapes-found g base (shapes_made g (extents_of base)) (fit-parts g (extents_of base) fits).1

-- the shapes that a node takes
ins-extents : (g : Graph) (base : List Grid) (n : ℕ) (x : Node) → shapes_fit g (extents_of base) ≡ true
    → slice_get g.nodes n ≡ Some x
    → shapes_taken g (extents_of base) n ≡ extents_of (inputs_of g base (evaluations g base) n)
ins-extents g base n x fits at =
    let outs = outs-extents g base fits in
    rw at (ap (λ (es : List Extent). map (source_shape (extents_of base) es) x.from) (sym outs)
    ∙ sym (inputs-shapes base (evaluations g base) x.from))

-- ---- images

-- two tests that agree on the numbers below a bound are passed alike by a list of such numbers
any-below : (p q : ℕ → Bool) (bound : ℕ) (ks : List ℕ) → All (λ k. k < bound) ks
    → ((k : ℕ) → k < bound → p k ≡ q k) → list_any p ks ≡ list_any q ks
any-below p q bound [] below same = refl
any-below p q bound (k ∷ ks) below same =
    ap₂ (λ (a b : Bool). a || b) (same k (below 0 k (omega arith)))
    (any-below p q bound ks (λ j d within. below (suc j) d (omega arith)) same)

-- where two relations agree on cells that are there, so do their images
back-same : (r t : Cell → Cell → Bool) (e : Extent) (s : Cells) → LiesInItsShape s
    → ((o c : Cell) → holds s.extent o ≡ true → holds e c ≡ true → r o c ≡ t o c)
    → back r e s ≡ back t e s
back-same r t e s lies same =
    cells_where-ext e (λ x. any_cell (λ o. r o x) s) (λ x. any_cell (λ o. t o x) s)
    (λ x held. any-below (λ k. r (cell_of s.extent k) x) (λ k. t (cell_of s.extent k) x) (size_of s.extent)
    s.indexes lies
    (λ k within. same (cell_of s.extent k) x (cell-held s.extent k within) held))

forward-same : (r t : Cell → Cell → Bool) (e : Extent) (s : Cells) → LiesInItsShape s
    → ((o c : Cell) → holds e o ≡ true → holds s.extent c ≡ true → r o c ≡ t o c)
    → forward r e s ≡ forward t e s
forward-same r t e s lies same =
    cells_where-ext e (λ o. any_cell (λ x. r o x) s) (λ o. any_cell (λ x. t o x) s)
    (λ o held. any-below (λ k. r o (cell_of s.extent k)) (λ k. t o (cell_of s.extent k)) (size_of s.extent)
    s.indexes lies
    (λ k within. same o (cell_of s.extent k) held (cell-held s.extent k within)))

-- the inputs of a node are the arrays of its sources
ins-are : (g : Graph) (base : List Grid) (n : ℕ) (x : Node) → slice_get g.nodes n ≡ Some x
    → inputs_of g base (evaluations g base) n ≡ map (array_of base (evaluations g base)) x.from
ins-are g base n x at = rw at refl

-- the image by all pairs of a node's shelf is the image under its operator's relation
image-related : (dir : Dir) (g : Graph) (base : List Grid) (pairs : List (List (List Pair))) (s : Step)
    (set : Cells) (x : Node)
    → shapes_fit g (extents_of base) ≡ true → SayTheRelations g base pairs → slice_get g.nodes s.node ≡ Some x
    → s.input < length x.from
    → LiesInItsShape set
    → set.extent ≡ extent_before dir (first_shelf g (extents_of base) pairs s.node).out
    (first_shelf g (extents_of base) pairs s.node).ins s.input
    → image_on dir (first_shelf g (extents_of base) pairs s.node) s.input set ≡ image dir g base
    (evaluations g base) s set
image-related Back g base pairs s set x fits says at within lies shape =
    let f = first_shelf g (extents_of base) pairs s.node in
    let ins = inputs_of g base (evaluations g base) s.node in
    let e = extent_at f.ins s.input in
    let same : e ≡ extent_of ins s.input =
    ap (λ (es : List Extent). extent_at es s.input) (ins-extents g base s.node x fits at)
    ∙ sym (extent-got ins s.input) in
    let lead : List Grid → Cells = λ arrays. back (related x.op arrays s.input) (extent_of arrays s.input) set in
    let unfolded : image Back g base (evaluations g base) s set
    ≡ lead (map (array_of base (evaluations g base)) x.from) =
    rw at (ap lead (ins-are g base s.node x at)) in
    back-same (say f.out e (whole_pairs f) s.input) (related x.op ins s.input) e set lies
    (λ o c there held. says s.node s.input x o c at within (rw shape at there) held)
    ∙ ap (λ (d : Extent). back (related x.op ins s.input) d set) same
    ∙ sym (unfolded ∙ ap lead (sym (ins-are g base s.node x at)))
image-related Forward g base pairs s set x fits says at within lies shape =
    let f = first_shelf g (extents_of base) pairs s.node in
    let ins = inputs_of g base (evaluations g base) s.node in
    let outs = evaluations g base in
    let same : f.out ≡ extent_of outs s.node =
    ap (λ (es : List Extent). extent_at es s.node) (sym (outs-extents g base fits))
    ∙ sym (extent-got outs s.node) in
    let lead : List Grid → Cells = λ arrays. forward (related x.op arrays s.input) (extent_of outs s.node) set in
    let unfolded : image Forward g base outs s set ≡ lead (map (array_of base outs) x.from) =
    rw at (ap lead (ins-are g base s.node x at)) in
    forward-same (say f.out (extent_at f.ins s.input) (whole_pairs f) s.input) (related x.op ins s.input) f.out set
    lies
    (λ o c held there. says s.node s.input x o c at within held (rw shape at there))
    ∙ ap (λ (d : Extent). forward (related x.op ins s.input) d set) same
    ∙ sym (unfolded ∙ ap lead (sym (ins-are g base s.node x at)))

-- an image lies in its shape
image-lies : (pairs : List Pair) (dir : Dir) (out : Extent) (ins : List Extent) (i : ℕ) (set : Cells)
    → LiesInItsShape (image_by pairs dir out ins i set)
image-lies pairs Back out ins i set =
    indexes-below (extent_at ins i) (λ x. any_cell (λ o. say out (extent_at ins i) pairs i o x) set)
image-lies pairs Forward out ins i set =
    indexes-below out (λ o. any_cell (λ x. say out (extent_at ins i) pairs i o x) set)

-- ---- along a path

-- the image under the first step
first-image : (dir : Dir) (g : Graph) (base : List Grid) (pairs : List (List (List Pair))) (s : Step) (set : Cells)
    → shapes_fit g (extents_of base) ≡ true → length pairs ≡ length g.nodes → SayTheRelations g base pairs
    → is_there (source_of g s) ≡ true
    → LiesInItsShape set
    → set.extent ≡ extent_before dir (shelf_at (first_shelves g (extents_of base) pairs) s.node).out
    (shelf_at (first_shelves g (extents_of base) pairs) s.node).ins s.input
    → image_on dir (shelf_at (first_shelves g (extents_of base) pairs) s.node) s.input set ≡ image dir g base
    (evaluations g base) s set
first-image dir g base pairs s set fits count says there lies shape =
    let at = source-there g s there in
    let here = step-shelf g (extents_of base) pairs s count there in
    ap (λ (f : Shelf). image_on dir f s.input set) here
    ∙ image-related dir g base pairs s set at.0 fits says at.2 (slice_get_within (at.0).from s.input at.1 at.3) lies
    (rw here at shape)

-- a path's composition by all pairs is the composed relation of it
composed-along : (dir : Dir) (g : Graph) (base : List Grid) (pairs : List (List (List Pair))) (s : Step)
    (path : List Step) (set : Cells)
    → shapes_fit g (extents_of base) ≡ true → length pairs ≡ length g.nodes → SayTheRelations g base pairs
    → are_joined dir g (s ∷ path) ≡ true
    → LiesInItsShape set
    → set.extent ≡ extent_before dir (shelf_at (first_shelves g (extents_of base) pairs) s.node).out
    (shelf_at (first_shelves g (extents_of base) pairs) s.node).ins s.input
    → compose_pairs dir (first_shelves g (extents_of base) pairs) (s ∷ path) set ≡ compose dir g base
    (evaluations g base) (s ∷ path) set
composed-along dir g base pairs s [] set fits count says joined lies shape =
    first-image dir g base pairs s set fits count says joined lies shape
composed-along dir g base pairs s (t ∷ path) set fits count says joined lies shape =
    let shelves = first_shelves g (extents_of base) pairs in
    let x = shelf_at shelves s.node in
    let outer = and_parts (is_there (source_of g s) && follows dir g s t) (are_joined dir g (t ∷ path)) joined in
    let inner = and_parts (is_there (source_of g s)) (follows dir g s t) outer.0 in
    let second = first-there dir g t path outer.1 in
    let next = image_on dir x s.input set in
    composed-along dir g base pairs t path next fits count says outer.1
    (image-lies (whole_pairs x) dir x.out x.ins s.input set)
    (image-extent (whole_pairs x) dir x.out x.ins s.input set
    ∙ follow-shape dir g (extents_of base) pairs s t count inner.0 second inner.1)
    ∙ ap (compose dir g base (evaluations g base) (t ∷ path))
    (first-image dir g base pairs s set fits count says inner.0 lies shape)

pub composed_lemma : EndedAsksHoldTheComposedRelation
composed_lemma g base pairs queries events n q b shaped count right says lies query last told =
    let shelves = first_shelves g (extents_of base) pairs in
    let s = start g (extents_of base) pairs queries in
    let first : slice_get s.asks n ≡ Some (first_ask q) = slice_get-map first_ask queries n
    ∙ ap (option_map first_ask) query in
    let both = and_parts (is_joined q.dir g q.path)
    (option_map_or (fits_step q.dir shelves q.cells.extent) (slice_get q.path 0) false) right in
    let joined = and_parts (nat_lt 0 (length q.path) && nat_le (length q.path) 32) (are_joined q.dir g q.path)
    both.0 in
    ended_lemma s events n (first_ask q) b (states_lemma.0 g (extents_of base) pairs queries) first last told
    ∙ at q.path joined.1 both.1 where
      at : (path : List Step) → are_joined q.dir g path ≡ true
          → option_map_or (fits_step q.dir (first_shelves g (extents_of base) pairs) q.cells.extent)
          (slice_get path 0)
          false ≡ true
          → compose_pairs q.dir (first_shelves g (extents_of base) pairs) path q.cells ≡ compose q.dir g base
          (evaluations g base) path q.cells
      at [] joined fits = refl
      at (s ∷ path) joined fits =
          let x = shelf_at (first_shelves g (extents_of base) pairs) s.node in
          composed-along q.dir g base pairs s path q.cells shaped count says joined lies
          (equal-extents q.cells.extent (extent_before q.dir x.out x.ins s.input) fits)
