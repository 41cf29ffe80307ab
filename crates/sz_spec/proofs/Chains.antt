-- What follows of lists of cells that lead along a path.
--
-- The key idea: the image of a set under a step is itself a set made by a test, which a cell passes exactly where
-- the step leads to it from a cell of the set. So a list of cells grows by one at each step.
use Rattle.std.proofs.Common.{◌≡◌, ℕ, Bool, true, List, [], ◌∷◌, Option, Some, None, refl, sym, ap, ◌∙◌}
use Rattle.std.proofs.Common.{map, ◌&&◌, ◌↔◌}
use Rattle.std.specs.List.{slice_get}
use Rattle.std.specs.Prelude.{option_and_then}
use Rattle.std.proofs.lemmas.Bool.{and_parts, and_from}
use Rattle.sz_cells.specs.declared.Cell.{Cell}
use Rattle.sz_cells.specs.Extent.{Extent, holds}
use Rattle.sz_cells.specs.Cells.{Cells, cells_where, any_cell, has}
use Rattle.sz_cells.proofs.Sets.{has-cells_where_any, any_cell-true, any_cell-from}
use Rattle.sz_spec.specs.declared.flow.Node.{Node}
use Rattle.sz_spec.specs.declared.modes.Dir.{Dir}
use Rattle.sz_spec.specs.declared.modes.Dir.TheVariants.{Back, Forward}
use Rattle.sz_spec.specs.Values.{Grid}
use Rattle.sz_spec.specs.Lineage.{related, back, forward}
use Rattle.sz_spec.specs.Flows.{Graph, array_of}
use Rattle.sz_spec.specs.Paths.{Step, source_of, is_there, follows, are_joined, inputs_of, extent_of, image, compose}
use Rattle.sz_spec.specs.LawsDependence.{StepLeads, LeadsAlong, ComposedCellsAreLedTo}

-- ---- joined paths

-- the first step of a joined path is of the flow
pub first-there : (dir : Dir) (flow : Graph) (s : Step) (path : List Step) → are_joined dir flow (s ∷ path) ≡ true
    → is_there (source_of flow s) ≡ true
first-there dir flow s [] joined = joined
first-there dir flow s (t ∷ path) joined =
    (and_parts (is_there (source_of flow s)) (follows dir flow s t)
    (and_parts (is_there (source_of flow s) && follows dir flow s t) (are_joined dir flow (t ∷ path)) joined).0).0

-- and the rest of it is joined
pub rest-joined : (dir : Dir) (flow : Graph) (s : Step) (path : List Step) → are_joined dir flow (s ∷ path) ≡ true
    → are_joined dir flow path ≡ true
rest-joined dir flow s [] joined = refl
rest-joined dir flow s (t ∷ path) joined =
    (and_parts (is_there (source_of flow s) && follows dir flow s t) (are_joined dir flow (t ∷ path)) joined).1

-- the node of a step that is of the flow
node-there : (flow : Graph) (s : Step) → is_there (source_of flow s) ≡ true
    → (x : Node) × (slice_get flow.nodes s.node ≡ Some x)
node-there flow s there = from (slice_get flow.nodes s.node) refl there where
  from : (o : Option Node) → slice_get flow.nodes s.node ≡ o
      → is_there (option_and_then (λ (x : Node). slice_get x.from s.input) o) ≡ true
      → (x : Node) × (slice_get flow.nodes s.node ≡ Some x)
  from None same h = (cc)
  from (Some x) same h = (x, same)

-- ---- one step

-- the arrays of a node that is there
pub inputs-at : (flow : Graph) (base outputs : List Grid) (n : ℕ) (x : Node) → slice_get flow.nodes n ≡ Some x
    → inputs_of flow base outputs n ≡ map (array_of base outputs) x.from
inputs-at flow base outputs n x there = rw there refl

-- the image under a step of a node that is there, backward and forward
pub image-back : (flow : Graph) (base outputs : List Grid) (s : Step) (x : Node) (set : Cells)
    → slice_get flow.nodes s.node ≡ Some x → image Back flow base outputs s set
    ≡ back (related x.op (inputs_of flow base outputs s.node) s.input)
    (extent_of (inputs_of flow base outputs s.node) s.input) set
image-back flow base outputs s x set there =
    let taken : List Grid = map (array_of base outputs) x.from in
    let by : List Grid → Cells = λ arrays. back (related x.op arrays s.input) (extent_of arrays s.input) set in
    let named = inputs-at flow base outputs s.node x there in
    let unfolded : image Back flow base outputs s set ≡ by taken = rw there (ap by named) in
    unfolded ∙ ap by (sym named)

pub image-forward : (flow : Graph) (base outputs : List Grid) (s : Step) (x : Node) (set : Cells)
    → slice_get flow.nodes s.node ≡ Some x → image Forward flow base outputs s set
    ≡ forward (related x.op (inputs_of flow base outputs s.node) s.input) (extent_of outputs s.node) set
image-forward flow base outputs s x set there =
    let taken : List Grid = map (array_of base outputs) x.from in
    let by : List Grid → Cells =
    λ arrays. forward (related x.op arrays s.input) (extent_of outputs s.node) set in
    let named = inputs-at flow base outputs s.node x there in
    let unfolded : image Forward flow base outputs s set ≡ by taken = rw there (ap by named) in
    unfolded ∙ ap by (sym named)

-- the set to which a step takes a set made by a test: what passes its test is what the step leads to
abbrev Led : Dir → Graph → List Grid → List Grid → Step → Extent → (Cell → Bool) → Type 0
Led dir flow base outputs s d test =
    (e : Extent) × (t : Cell → Bool)
    × (image dir flow base outputs s (cells_where d test) ≡ cells_where e t)
    × ((y : Cell) → ((holds e y && t y) ≡ true)
    ↔ ((c : Cell) × (holds d c ≡ true) × (test c ≡ true) × StepLeads dir flow base outputs s c y))

-- some cell of a set leads to a cell of a shape by the node that is there exactly where one of them does by some
-- node that is
led-by : (o : Option Node) (node : Node) → o ≡ Some node → (e d : Extent) (test : Cell → Bool)
    (leads : Node → Cell → Cell → Bool) (y : Cell)
    → ((holds e y && any_cell (λ c. leads node c y) (cells_where d test)) ≡ true)
    ↔ ((c : Cell) × (holds d c ≡ true) × (test c ≡ true)
    × ((x : Node) × (o ≡ Some x) × (holds e y ≡ true) × (leads x c y ≡ true)))
led-by o node there e d test leads y = (
  λ inside.
      let both = and_parts (holds e y) (any_cell (λ c. leads node c y) (cells_where d test)) inside in
      let found = any_cell-true d test (λ c. leads node c y) both.1 in
      (found.0, found.1, found.2, (node, there, both.0, found.3)),
  λ known.
      let same : known.3.0 ≡ node = let one = known.3.1 in let two = there in (cc) in
      and_from (holds e y) (any_cell (λ c. leads node c y) (cells_where d test)) known.3.2
      (any_cell-from d test (λ c. leads node c y) known.0 known.1 known.2
      (ap (λ (x : Node). leads x known.0 y) (sym same) ∙ known.3.3)),
)

step-led : (dir : Dir) (flow : Graph) (base outputs : List Grid) (s : Step) (d : Extent) (test : Cell → Bool)
    → is_there (source_of flow s) ≡ true → Led dir flow base outputs s d test
step-led Back flow base outputs s d test there =
    let node = node-there flow s there in
    let inputs = inputs_of flow base outputs s.node in
    let e = extent_of inputs s.input in
    let leads : Node → Cell → Cell → Bool = λ x c y. related x.op inputs s.input c y in (
      e,
      λ y. any_cell (λ c. leads node.0 c y) (cells_where d test),
      image-back flow base outputs s node.0 (cells_where d test) node.1,
      led-by (slice_get flow.nodes s.node) node.0 node.1 e d test leads,
    )
step-led Forward flow base outputs s d test there =
    let node = node-there flow s there in
    let inputs = inputs_of flow base outputs s.node in
    let e = extent_of outputs s.node in
    let leads : Node → Cell → Cell → Bool = λ x c y. related x.op inputs s.input y c in (
      e,
      λ y. any_cell (λ c. leads node.0 c y) (cells_where d test),
      image-forward flow base outputs s node.0 (cells_where d test) node.1,
      led-by (slice_get flow.nodes s.node) node.0 node.1 e d test leads,
    )

-- ---- a path

-- along no step a list of cells leads nowhere
ended : (leads : Step → Cell → Cell → Type 0) (c : Cell) (cells : List Cell) (x : Cell)
    → LeadsAlong leads [] c cells x → c ≡ x
ended leads c [] x led = led
ended leads c (d ∷ cells) x led = absurd led

-- a list of cells along a path begins with the cell of the first step
onward : (leads : Step → Cell → Cell → Type 0) (s : Step) (path : List Step) (c : Cell) (cells : List Cell) (x : Cell)
    → LeadsAlong leads (s ∷ path) c cells x
    → (d : Cell) × (leads s c d) × ((rest : List Cell) × LeadsAlong leads path d rest x)
onward leads s path c [] x led = absurd led
onward leads s path c (d ∷ cells) x led = (d, led.0, (cells, led.1))

-- a cell of the composed image is led to, and what is led to is one
pub composed-led : ComposedCellsAreLedTo
composed-led dir flow base outputs [] d test x joined =
    let law = has-cells_where_any d test x in
    let leads = StepLeads dir flow base outputs in (
      λ inside. let both = and_parts (holds d x) (test x) (sym law ∙ inside) in (x, both.0, both.1, ([], refl)),
      λ known.
          let same = ended leads known.0 known.3.0 x known.3.1 in
          law
          ∙ and_from (holds d x) (test x) (ap (holds d) (sym same) ∙ known.1) (ap test (sym same) ∙ known.2),
    )
composed-led dir flow base outputs (s ∷ path) d test x joined =
    let leads = StepLeads dir flow base outputs in
    let step = step-led dir flow base outputs s d test (first-there dir flow s path joined) in
    let rest = composed-led dir flow base outputs path step.0 step.1 x (rest-joined dir flow s path joined) in
    let same : has (compose dir flow base outputs (s ∷ path) (cells_where d test)) x
    ≡ has (compose dir flow base outputs path (cells_where step.0 step.1)) x =
    ap (λ (set : Cells). has (compose dir flow base outputs path set) x) step.2 in (
      λ inside.
          let found = rest.0 (sym same ∙ inside) in
          let before = (step.3 found.0).0 (and_from (holds step.0 found.0) (step.1 found.0) found.1 found.2) in
          (before.0, before.1, before.2, (found.0 ∷ found.3.0, (before.3, found.3.1))),
      λ known.
          let next = onward leads s path known.0 known.3.0 x known.3.1 in
          let both = and_parts (holds step.0 next.0) (step.1 next.0)
          ((step.3 next.0).1 (known.0, known.1, known.2, next.1)) in
          same ∙ rest.1 (next.0, both.0, both.1, next.2),
    )
