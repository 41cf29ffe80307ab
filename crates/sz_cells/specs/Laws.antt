-- What a reader may take for granted of shapes and of sets of cells. Each law is proved.
use Rattle.std.specs.Prelude.{◌≡◌, ℕ, ◌+◌, ◌<◌, ◌≤◌, Bool, true, ◌&&◌, ◌||◌, ◌==◌}
use Rattle.std.specs.Prelude.{List, [], ◌++◌, length, Some, None}
use Rattle.std.specs.List.{list_any}
use Rattle.sz_cells.specs.declared.Bounds.{Bounds}
use Rattle.sz_cells.specs.declared.Cell.{Cell}
use Rattle.sz_cells.specs.declared.Run.{Run}
use Rattle.sz_cells.specs.Extent.{Extent, size_of, height_of, is_shape, is_layered, is_extent}
use Rattle.sz_cells.specs.Extent.{layered, flat, holds, index_of, cell_of, layer_of, row_in}
use Rattle.sz_cells.specs.Extent.{is_place, cell_in}
use Rattle.sz_cells.specs.Cells.{Cells, is_same, cells_where, has, union_of, with_cell, next_index}
use Rattle.sz_cells.specs.Rising.{AreRising}
use Rattle.sz_cells.specs.Runs.{Spells, runs_of, bounds_of}
use Rattle.sz_cells.specs.SetBytes.{IsSetOf, BeginsSet, set_bytes}

-- ---- shapes

-- layers within the limits make a shape, of which each layer has the height that was given
abbrev pub LayersMakeShapes : Type 0
LayersMakeShapes = (layers height cols : ℕ) → is_layered layers height cols ≡ true
    → (is_extent (layered layers height cols) ≡ true)
    × (height_of (layered layers height cols) ≡ height)

-- the shapes of one layer are those of its rows and columns
abbrev pub OneLayerIsFlat : Type 0
OneLayerIsFlat = (rows cols : ℕ)
    → (is_layered 1 rows cols ≡ is_shape rows cols) × (layered 1 rows cols ≡ flat rows cols)

-- a cell of a shape has a layer and a row in that layer, and is the cell of these and its column
abbrev pub CellsHavePlaces : Type 0
CellsHavePlaces = (e : Extent) (c : Cell) → is_extent e ≡ true → holds e c ≡ true
    → (is_place e (layer_of e c) (row_in e c) c.col ≡ true)
    × (cell_in e (layer_of e c) (row_in e c) c.col ≡ c)

-- a place of a shape has a cell of the shape, with the place's layer, row in it and column
abbrev pub PlacesHaveCells : Type 0
PlacesHaveCells = (e : Extent) (layer row col : ℕ)
    → is_extent e ≡ true → is_place e layer row col ≡ true
    → (holds e (cell_in e layer row col) ≡ true)
    × (layer_of e (cell_in e layer row col) ≡ layer)
    × (row_in e (cell_in e layer row col) ≡ row)
    × ((cell_in e layer row col).col ≡ col)

-- a cell of a shape has an index below the shape's size, and the cell of that index is the cell
abbrev pub CellsHaveIndexes : Type 0
CellsHaveIndexes = (e : Extent) (c : Cell) → holds e c ≡ true
    → (index_of e c < size_of e) × (cell_of e (index_of e c) ≡ c)

-- an index below a shape's size has a cell of the shape, and the cell's index is that index
abbrev pub IndexesHaveCells : Type 0
IndexesHaveCells = (e : Extent) (k : ℕ) → k < size_of e
    → (holds e (cell_of e k) ≡ true) × (index_of e (cell_of e k) ≡ k)

-- ---- sets

-- in the set of a shape's cells that pass a test are the cells that the shape holds and that pass
abbrev pub SetsAreTheirTests : Type 0
SetsAreTheirTests = (e : Extent) (test : Cell → Bool) (c : Cell)
    → has (cells_where e test) c ≡ (holds e c && test c)

-- two tests that agree on each cell of a shape make one set
abbrev pub SetsAreEqualByTheirCells : Type 0
SetsAreEqualByTheirCells = (e : Extent) (test other : Cell → Bool)
    → ((c : Cell) → holds e c ≡ true → test c ≡ other c)
    → cells_where e test ≡ cells_where e other

-- rising indexes below the size are the set of the cells that are among them
abbrev pub RisingIndexesAreSets : Type 0
RisingIndexesAreSets = (set : Cells) → AreRising 0 (size_of set.extent) set.indexes
    → set ≡ cells_where set.extent (has set)

-- and the set of the cells that pass a test has rising indexes below the size
abbrev pub SetsHaveRisingIndexes : Type 0
SetsHaveRisingIndexes = (e : Extent) (test : Cell → Bool)
    → AreRising 0 (size_of e) (cells_where e test).indexes

-- a union has exactly the cells of both sets
abbrev pub UnionsHaveTheCellsOfBoth : Type 0
UnionsHaveTheCellsOfBoth = (a b : Cells) (c : Cell) → b.extent ≡ a.extent
    → has (union_of a b) c ≡ (has a c || has b c)

-- a set with a cell of its shape has the cells that it had, and that one
abbrev pub OneMoreCell : Type 0
OneMoreCell = (set : Cells) (cell c : Cell) → holds set.extent cell ≡ true
    → has (with_cell set cell) c ≡ (has set c || is_same c cell)

-- the next index of a set is the least of its indexes that is not below the number
abbrev pub NextIsLeast : Type 0
NextIsLeast = (set : Cells) (from i : ℕ) → AreRising 0 (size_of set.extent) set.indexes
    → next_index set from ≡ Some i
    → (from ≤ i) × (list_any (λ x. x == i) set.indexes ≡ true)
    × ((k : ℕ) → from ≤ k → list_any (λ x. x == k) set.indexes ≡ true → i ≤ k)

-- and where there is none, each index of the set is below the number
abbrev pub NoneIsNext : Type 0
NoneIsNext = (set : Cells) (from k : ℕ) → next_index set from ≡ None
    → list_any (λ x. x == k) set.indexes ≡ true → k < from

-- ---- runs and bounds

-- the longest runs of rising indexes spell them
abbrev pub RunsSpellSets : Type 0
RunsSpellSets = (set : Cells) → AreRising 0 (size_of set.extent) set.indexes
    → Spells (runs_of set.indexes) set

-- and no other longest runs do
abbrev pub RunsAreOne : Type 0
RunsAreOne = (set : Cells) (runs : List Run) → Spells runs set → runs ≡ runs_of set.indexes

-- the cell is in the rectangle
abbrev pub IsInBounds : Bounds → Cell → Type 0
IsInBounds b c = (b.top ≤ c.row) × (b.left ≤ c.col) × (c.row ≤ b.bottom) × (c.col ≤ b.right)

-- a set's bounds have each of its cells
abbrev pub BoundsHaveEachCell : Type 0
BoundsHaveEachCell = (set : Cells) (b : Bounds) (c : Cell)
    → bounds_of set ≡ Some b → has set c ≡ true → IsInBounds b c

-- and any rectangle that has each of its cells reaches as far on each side
abbrev pub BoundsAreSmallest : Type 0
BoundsAreSmallest = (set : Cells) (b other : Bounds)
    → AreRising 0 (size_of set.extent) set.indexes → bounds_of set ≡ Some b
    → ((c : Cell) → has set c ≡ true → IsInBounds other c)
    → (other.top ≤ b.top) × (other.left ≤ b.left) × (b.bottom ≤ other.bottom)
    × (b.right ≤ other.right)

-- only a set of no cell has no bounds
abbrev pub NoBoundsOfNoCell : Type 0
NoBoundsOfNoCell = (set : Cells) → bounds_of set ≡ None → set.indexes ≡ []

-- ---- bytes

-- of two sets of one shape with the same bytes at the beginning, whatever follows, the sets are
-- one, and so is what follows
abbrev pub BytesAreOneSet : Type 0
BytesAreOneSet = (e : Extent) (a b : Cells) (x y : List ℕ)
    → is_extent e ≡ true → IsSetOf e a → IsSetOf e b
    → set_bytes a ++ x ≡ set_bytes b ++ y → (a ≡ b) × (x ≡ y)

-- at most one set of a shape begins at a place of some bytes, and it ends at one place
abbrev pub OneSetBegins : Type 0
OneSetBegins = (e : Extent) (bytes : List ℕ) (at next other : ℕ) (a b : Cells)
    → is_extent e ≡ true → BeginsSet e bytes at next a → BeginsSet e bytes at other b
    → next ≤ length bytes → other ≤ length bytes
    → (a ≡ b) × (next ≡ other) × (next ≡ at + length (set_bytes a))
