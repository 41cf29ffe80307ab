-- What a reader may take for granted of suspects. Each law is proved of the definitions.
use Rattle.std.specs.Prelude.{◌≡◌, ℕ, ◌<◌, List, length, Bool, true, false, ◌&&◌, ◌==◌, ◌↔◌}
use Rattle.sz_cells.specs.declared.Cell.{Cell}
use Rattle.sz_cells.specs.Extent.{holds}
use Rattle.sz_cells.specs.Cells.{Cells, is_same, cells_where, any_cell, has}
use Rattle.sz_spec.specs.declared.op.Op.{Op}
use Rattle.sz_spec.specs.Values.{Grid, value_at, input_at, extents_of}
use Rattle.sz_spec.specs.Shapes.{output_extent}
use Rattle.sz_spec.specs.Lineage.{forward}
use Rattle.sz_spec.specs.Flows.{Graph, evaluations}
use Rattle.sz_spec.specs.Paths.{extent_of}
use Rattle.sz_spec.specs.Affected.{set_at}
use Rattle.sz_spec.specs.Supports.{supports}
use Rattle.sz_spec.specs.LawsDependence.{CanRun}
use Rattle.sz_support.specs.LawsSupports.{IsLedTo}
use Rattle.sz_support.specs.Suspects.{suspects_by, suspects}

-- a cell is a suspect of an operator exactly where it is in the forward image of the set of some
-- input, by supports: the suspects are the union of these images
abbrev pub SuspectsAreUnionsOfImages : Type 0
SuspectsAreUnionsOfImages = (op : Op) (inputs : List Grid) (sets : List Cells) (o : Cell)
    → (has (suspects_by op inputs sets) o ≡ true)
    ↔ ((i : ℕ) × (i < length sets)
    × (has (forward (supports op inputs i) (output_extent op (extents_of inputs))
    (set_at sets i)) o ≡ true))

-- cell o is a suspect of node n, where the cells of base array b that pass a test may hold other
-- values
abbrev pub is_suspected : Graph → List Grid → ℕ → (Cell → Bool) → ℕ → Cell → Bool
is_suspected flow base b picks n o =
    has (set_at (suspects flow base b (cells_where (extent_of base b) picks)) n) o

-- the suspects of a node are exactly the cells of its output from which one of these cells is led
-- to by supports, along some path: node by node they are found as along all paths
abbrev pub SuspectsAreLedFrom : Type 0
SuspectsAreLedFrom = (flow : Graph) (base : List Grid) (b n : ℕ) (picks : Cell → Bool) (o : Cell)
    → CanRun flow base
    → (is_suspected flow base b picks n o ≡ true)
    ↔ ((holds (extent_of (evaluations flow base) n) o ≡ true)
    × ((x : Cell) × (holds (extent_of base b) x ≡ true) × (picks x ≡ true)
    × IsLedTo flow base n o b x))

-- the support in base array b of the cells of node n that pass a test: the cells of the array of
-- which one of these is a suspect
abbrev pub support_of : Graph → List Grid → ℕ → (Cell → Bool) → ℕ → Cells
support_of flow base n picks b = cells_where (extent_of base b) (λ x.
    any_cell (λ o. is_suspected flow base b (λ c. is_same c x) n o)
    (cells_where (extent_of (evaluations flow base) n) picks))

-- it is exactly the cells that are led to from one of these by supports, along some path
abbrev pub SupportIsLedTo : Type 0
SupportIsLedTo = (flow : Graph) (base : List Grid) (n b : ℕ) (picks : Cell → Bool) (x : Cell)
    → CanRun flow base
    → (has (support_of flow base n picks b) x ≡ true)
    ↔ ((o : Cell) × (holds (extent_of (evaluations flow base) n) o ≡ true) × (picks o ≡ true)
    × IsLedTo flow base n o b x)

-- old and new base arrays hold the same value at each cell of the support
abbrev pub AgreeOnSupport : Graph → ℕ → (Cell → Bool) → List Grid → List Grid → Type 0
AgreeOnSupport flow n picks old new = (b : ℕ) (x : Cell)
    → has (support_of flow old n picks b) x ≡ true
    → value_at (input_at old b) x ≡ value_at (input_at new b) x

-- then each of these cells has one value
abbrev pub ValuesDependOnSupport : Type 0
ValuesDependOnSupport = (flow : Graph) (old new : List Grid) (n : ℕ) (picks : Cell → Bool)
    (o : Cell)
    → CanRun flow old → extents_of old ≡ extents_of new → AgreeOnSupport flow n picks old new
    → holds (extent_of (evaluations flow old) n) o ≡ true → picks o ≡ true
    → value_at (input_at (evaluations flow old) n) o
    ≡ value_at (input_at (evaluations flow new) n) o

-- old and new base arrays hold the same value at each cell, but for those of base array b that pass
-- a test
abbrev pub AgreeElsewhere : ℕ → (Cell → Bool) → List Grid → List Grid → Type 0
AgreeElsewhere b picks old new = (i : ℕ) (x : Cell) → holds (extent_of old i) x ≡ true
    → ((i == b) && picks x) ≡ false
    → value_at (input_at old i) x ≡ value_at (input_at new i) x

-- whatever new values these cells take, a cell of a node that is no suspect has one value
abbrev pub OtherCellsKeepTheirValues : Type 0
OtherCellsKeepTheirValues = (flow : Graph) (old new : List Grid) (b n : ℕ) (picks : Cell → Bool)
    (o : Cell)
    → CanRun flow old → extents_of old ≡ extents_of new → AgreeElsewhere b picks old new
    → holds (extent_of (evaluations flow old) n) o ≡ true
    → is_suspected flow old b picks n o ≡ false
    → value_at (input_at (evaluations flow old) n) o
    ≡ value_at (input_at (evaluations flow new) n) o
