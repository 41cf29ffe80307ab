-- What fixes a value, by the old inputs alone, for every operator. Each law is proved of the
-- definitions.
use Rattle.std.specs.Prelude.{◌≡◌, ℕ, ℤ, ◌⊎◌, List, true, false, ◌↔◌, Some}
use Rattle.std.specs.List.{slice_get}
use Rattle.sz_cells.specs.declared.Cell.{Cell}
use Rattle.sz_cells.specs.Extent.{holds}
use Rattle.sz_cells.specs.Cells.{is_same}
use Rattle.sz_spec.specs.declared.op.Op.{Op}
use Rattle.sz_spec.specs.declared.op.Op.TheVariants.{Regions}
use Rattle.sz_spec.specs.declared.flow.Node.{Node}
use Rattle.sz_spec.specs.Values.{Grid, value_at, input_at, extents_of}
use Rattle.sz_spec.specs.Shapes.{Site}
use Rattle.sz_spec.specs.Lineage.{related}
use Rattle.sz_spec.specs.Evaluation.{value_of}
use Rattle.sz_spec.specs.Operators.Regions.{is_high, are_neighbours, is_connected}
use Rattle.sz_spec.specs.Flows.{Graph, evaluations}
use Rattle.sz_spec.specs.Paths.{Step, inputs_of, extent_of}
use Rattle.sz_spec.specs.Supports.{supports}
use Rattle.sz_spec.specs.LawsDependence.{AgreeWhere, is_regions, GoesBack, LeadsAlong, CanRun}
use Rattle.sz_spec.specs.Work.{IsAtWork}

-- ---- which cells support

-- a cell to which o is related supports it
abbrev pub RelatedCellsSupport : Type 0
RelatedCellsSupport = (op : Op) (inputs : List Grid) (i : ℕ) (o x : Cell)
    → related op inputs i o x ≡ true → supports op inputs i o x ≡ true

-- of every operator but regions no other cell does
abbrev pub RelationsSupport : Type 0
RelationsSupport = (op : Op) (inputs : List Grid) (i : ℕ) (o x : Cell) → is_regions op ≡ false
    → supports op inputs i o x ≡ related op inputs i o x

-- a high cell of regions is supported by the cells that are connected to it, and by the neighbours
-- of these in the layer
abbrev pub RegionsRestOnTheirRims : Type 0
RegionsRestOnTheirRims = (t : ℤ) (inputs : List Grid) (o x : Cell)
    → is_high t (input_at inputs 0) o ≡ true
    → (supports (Regions t) inputs 0 o x ≡ true)
    ↔ ((c : Cell) × (is_connected t (input_at inputs 0) o c ≡ true)
    × ((c ≡ x) ⊎ (are_neighbours (input_at inputs 0).extent c x ≡ true)))

-- and one that is not high by itself
abbrev pub LowCellsRestOnThemselves : Type 0
LowCellsRestOnThemselves = (t : ℤ) (inputs : List Grid) (o x : Cell)
    → is_high t (input_at inputs 0) o ≡ false
    → supports (Regions t) inputs 0 o x ≡ is_same x o

-- ---- what they fix

-- where old and new inputs agree on the cells that support o by the old ones, o has one value, and
-- is supported by the same cells
abbrev pub ValuesDependOnSupportingCells : Type 0
ValuesDependOnSupportingCells = (s : Site) (old new : List Grid) (o : Cell)
    → IsAtWork s old → IsAtWork s new → holds s.out o ≡ true
    → AgreeWhere s (λ i x. supports s.op old i o x) old new
    → value_of s.op old o ≡ value_of s.op new o

abbrev pub SupportsDependOnSupportingCells : Type 0
SupportsDependOnSupportingCells = (s : Site) (old new : List Grid) (i : ℕ) (o x : Cell)
    → IsAtWork s old → IsAtWork s new → holds s.out o ≡ true
    → AgreeWhere s (λ j y. supports s.op old j o y) old new
    → supports s.op old i o x ≡ supports s.op new i o x

-- ---- a flow

-- a step leads back from cell c of its node's output to cell d of its input: d supports c
abbrev pub StepSupports : Graph → List Grid → Step → Cell → Cell → Type 0
StepSupports flow base s c d = let inputs = inputs_of flow base (evaluations flow base) s.node in
    (x : Node) × (slice_get flow.nodes s.node ≡ Some x)
    × (holds (extent_of inputs s.input) d ≡ true) × (supports x.op inputs s.input c d ≡ true)

-- cell x of base array b is led to from cell o of node n by supports, along some path
abbrev pub IsLedTo : Graph → List Grid → ℕ → Cell → ℕ → Cell → Type 0
IsLedTo flow base n o b x = (path : List Step) × (cells : List Cell) × GoesBack flow n path b
    × LeadsAlong (StepSupports flow base) path o cells x

-- old and new base arrays hold the same value at each cell that is led to in the old evaluation
abbrev pub AgreeWhereLedTo : Graph → ℕ → Cell → List Grid → List Grid → Type 0
AgreeWhereLedTo flow n o old new = (b : ℕ) (x : Cell) → IsLedTo flow old n o b x
    → value_at (input_at old b) x ≡ value_at (input_at new b) x

-- then o has one value, whatever the paths pass and whatever stands elsewhere
abbrev pub ValuesDependOnCellsLedTo : Type 0
ValuesDependOnCellsLedTo = (flow : Graph) (old new : List Grid) (n : ℕ) (o : Cell)
    → CanRun flow old → extents_of old ≡ extents_of new
    → holds (extent_of (evaluations flow old) n) o ≡ true → AgreeWhereLedTo flow n o old new
    → value_at (input_at (evaluations flow old) n) o
    ≡ value_at (input_at (evaluations flow new) n) o
