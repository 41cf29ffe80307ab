-- What a reader may take for granted of what a value depends on: over one operator, along a path,
-- and over a flow. Each law is proved of the definitions.
use Rattle.std.specs.Prelude.{◌≡◌, ℕ, ◌<◌, ◌⊎◌, List, [], ◌∷◌, length, All, Bool, true, false}
use Rattle.std.specs.Prelude.{◌||◌, ◌↔◌, Some, is_ok}
use Rattle.std.specs.List.{slice_get}
use Rattle.sz_cells.specs.declared.Cell.{Cell}
use Rattle.sz_cells.specs.Extent.{Extent, holds}
use Rattle.sz_cells.specs.Cells.{cells_where, has, named_in}
use Rattle.sz_spec.specs.declared.op.Op.{Op}
use Rattle.sz_spec.specs.declared.op.Op.TheVariants.{Regions}
use Rattle.sz_spec.specs.declared.flow.Node.{Node}
use Rattle.sz_spec.specs.declared.flow.SourceRef.TheVariants as source
use Rattle.sz_spec.specs.declared.modes.Dir.{Dir}
use Rattle.sz_spec.specs.declared.modes.Dir.TheVariants.{Back, Forward}
use Rattle.sz_spec.specs.Values.{Grid, value_at, input_at, extent_at, extents_of}
use Rattle.sz_spec.specs.Shapes.{Site}
use Rattle.sz_spec.specs.Lineage.{related}
use Rattle.sz_spec.specs.Evaluation.{value_of}
use Rattle.sz_spec.specs.Flows.{Graph, is_well_formed, evaluations}
use Rattle.sz_spec.specs.FlowShapes.{output_shapes}
use Rattle.sz_spec.specs.Paths.{Step, source_of, are_joined, is_joined, inputs_of, extent_of}
use Rattle.sz_spec.specs.Paths.{compose}
use Rattle.sz_spec.specs.LawsShapes.{AreExtents}
use Rattle.sz_spec.specs.Work.{IsAtWork}

-- ---- one operator

-- old and new inputs of an operator hold the same value at each cell that a test picks
abbrev pub AgreeWhere : Site → (ℕ → Cell → Bool) → List Grid → List Grid → Type 0
AgreeWhere s test old new = (i : ℕ) (x : Cell) → i < length s.ins
    → holds (extent_at s.ins i) x ≡ true → test i x ≡ true
    → value_at (input_at old i) x ≡ value_at (input_at new i) x

abbrev pub is_regions : Op → Bool
is_regions (Regions t) = true
is_regions _ = false

-- where they agree on the cells to which o is related by the old inputs, o has one value, and is
-- related to the same cells: for every operator but regions
abbrev pub ValuesDependOnRelatedCells : Type 0
ValuesDependOnRelatedCells = (s : Site) (old new : List Grid) (o : Cell)
    → IsAtWork s old → IsAtWork s new → holds s.out o ≡ true → is_regions s.op ≡ false
    → AgreeWhere s (λ i x. related s.op old i o x) old new
    → value_of s.op old o ≡ value_of s.op new o

abbrev pub RelationsDependOnRelatedCells : Type 0
RelationsDependOnRelatedCells = (s : Site) (old new : List Grid) (i : ℕ) (o x : Cell)
    → IsAtWork s old → IsAtWork s new → holds s.out o ≡ true → is_regions s.op ≡ false
    → AgreeWhere s (λ j y. related s.op old j o y) old new
    → related s.op old i o x ≡ related s.op new i o x

-- where they agree on those to which o is related by the old inputs or by the new ones, so it is
-- for regions too
abbrev pub ValuesDependOnEitherRelation : Type 0
ValuesDependOnEitherRelation = (s : Site) (old new : List Grid) (o : Cell)
    → IsAtWork s old → IsAtWork s new → holds s.out o ≡ true
    → AgreeWhere s (λ i x. related s.op old i o x || related s.op new i o x) old new
    → value_of s.op old o ≡ value_of s.op new o

abbrev pub RelationsDependOnEitherRelation : Type 0
RelationsDependOnEitherRelation = (s : Site) (old new : List Grid) (i : ℕ) (o x : Cell)
    → IsAtWork s old → IsAtWork s new → holds s.out o ≡ true
    → AgreeWhere s (λ j y. related s.op old j o y || related s.op new j o y) old new
    → related s.op old i o x ≡ related s.op new i o x

-- ---- a path

-- a step leads from cell c to cell d: d is a cell of the shape to which the step goes, and the two
-- are related by the step's node over the step's input
abbrev pub StepLeads : Dir → Graph → List Grid → List Grid → Step → Cell → Cell → Type 0
StepLeads Back flow base outputs s c d = let inputs = inputs_of flow base outputs s.node in
    (x : Node) × (slice_get flow.nodes s.node ≡ Some x)
    × (holds (extent_of inputs s.input) d ≡ true) × (related x.op inputs s.input c d ≡ true)
StepLeads Forward flow base outputs s c d = let inputs = inputs_of flow base outputs s.node in
    (x : Node) × (slice_get flow.nodes s.node ≡ Some x)
    × (holds (extent_of outputs s.node) d ≡ true) × (related x.op inputs s.input d c ≡ true)

-- the cells of a list, one for each step of a path, lead from c to x: each step leads from one cell
-- to the next, and the last cell is x
abbrev pub LeadsAlong : (Step → Cell → Cell → Type 0) → List Step → Cell → List Cell → Cell → Type 0
LeadsAlong leads [] c [] x = c ≡ x
LeadsAlong leads [] c (d ∷ cells) x = ⊥
LeadsAlong leads (s ∷ path) c [] x = ⊥
LeadsAlong leads (s ∷ path) c (d ∷ cells) x = leads s c d × LeadsAlong leads path d cells x

-- x is in the composed image of the cells of shape d that pass a test exactly where a list of cells
-- leads from one of them to x
abbrev pub ComposedCellsAreLedTo : Type 0
ComposedCellsAreLedTo = (dir : Dir) (flow : Graph) (base outputs : List Grid) (path : List Step)
    (d : Extent) (test : Cell → Bool) (x : Cell)
    → are_joined dir flow path ≡ true
    → (has (compose dir flow base outputs path (cells_where d test)) x ≡ true)
    ↔ ((c : Cell) × (holds d c ≡ true) × (test c ≡ true)
    × ((cells : List Cell) × LeadsAlong (StepLeads dir flow base outputs) path c cells x))

-- ---- a flow

-- a flow can be run over base arrays: it is well formed, there is one for each that it takes, their
-- shapes are within the limits, and no node's shape rule is broken
pub record CanRun (flow : Graph) (base : List Grid) : Type 0 where
  pub right : is_well_formed flow ≡ true
  pub count : length base ≡ flow.inputs
  pub limits : AreExtents (extents_of base)
  pub fits : is_ok (output_shapes flow (extents_of base)) ≡ true

-- a path begins at node n
abbrev pub BeginsAt : ℕ → List Step → Type 0
BeginsAt n [] = ⊥
BeginsAt n (s ∷ path) = s.node ≡ n

-- the last step of a path takes base array b
abbrev pub EndsIn : Graph → List Step → ℕ → Type 0
EndsIn flow [] b = ⊥
EndsIn flow (s ∷ []) b = source_of flow s ≡ Some (source.Input b)
EndsIn flow (s ∷ t ∷ path) b = EndsIn flow (t ∷ path) b

-- a path goes back from node n to base array b
abbrev pub GoesBack : Graph → ℕ → List Step → ℕ → Type 0
GoesBack flow n path b =
    (is_joined Back flow path ≡ true) × BeginsAt n path × EndsIn flow path b

-- old and new base arrays hold the same value at each cell that is asked for backward from cell o
-- of node n, along whichever path, in the old evaluation
abbrev pub AgreeWhereReached : Graph → ℕ → Cell → List Grid → List Grid → Type 0
AgreeWhereReached flow n o old new = let outputs = evaluations flow old in
    (path : List Step) (b : ℕ) (x : Cell) → GoesBack flow n path b
    → has (compose Back flow old outputs path (named_in (extent_of outputs n) (o ∷ []))) x ≡ true
    → value_at (input_at old b) x ≡ value_at (input_at new b) x

-- no path back from node n passes a node of regions
abbrev pub PassesNoRegions : Graph → ℕ → Type 0
PassesNoRegions flow n = (path : List Step) → is_joined Back flow path ≡ true → BeginsAt n path
    → All (λ s. (x : Node) → slice_get flow.nodes s.node ≡ Some x → is_regions x.op ≡ false) path

-- then o has one value
abbrev pub ValuesDependOnReachedCells : Type 0
ValuesDependOnReachedCells = (flow : Graph) (old new : List Grid) (n : ℕ) (o : Cell)
    → CanRun flow old → extents_of old ≡ extents_of new
    → holds (extent_of (evaluations flow old) n) o ≡ true
    → PassesNoRegions flow n → AgreeWhereReached flow n o old new
    → value_at (input_at (evaluations flow old) n) o
    ≡ value_at (input_at (evaluations flow new) n) o

-- a step leads back in the old evaluation or in the new one
abbrev pub LeadsInEither : Graph → List Grid → List Grid → Step → Cell → Cell → Type 0
LeadsInEither flow old new s c d = StepLeads Back flow old (evaluations flow old) s c d
    ⊎ StepLeads Back flow new (evaluations flow new) s c d

-- old and new base arrays hold the same value at each cell to which cells lead from cell o of node
-- n, along whichever path, at each step in the old evaluation or in the new one
abbrev pub AgreeWhereReachedInEither : Graph → ℕ → Cell → List Grid → List Grid → Type 0
AgreeWhereReachedInEither flow n o old new =
    (path : List Step) (b : ℕ) (cells : List Cell) (x : Cell) → GoesBack flow n path b
    → LeadsAlong (LeadsInEither flow old new) path o cells x
    → value_at (input_at old b) x ≡ value_at (input_at new b) x

-- then o has one value, whatever the path passes
abbrev pub ValuesDependOnCellsReachedInEither : Type 0
ValuesDependOnCellsReachedInEither = (flow : Graph) (old new : List Grid) (n : ℕ) (o : Cell)
    → CanRun flow old → extents_of old ≡ extents_of new
    → holds (extent_of (evaluations flow old) n) o ≡ true
    → AgreeWhereReachedInEither flow n o old new
    → value_at (input_at (evaluations flow old) n) o
    ≡ value_at (input_at (evaluations flow new) n) o
