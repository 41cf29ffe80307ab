-- What a reader may take for granted of connected cells and of regions. Each law is proved of the
-- definitions.
use Rattle.std.specs.Prelude.{◌≡◌, ℕ, ◌+◌, ◌<◌, ℤ, pos, List, [], ◌∷◌, true, false, ◌↔◌}
use Rattle.std.specs.Prelude.{Some}
use Rattle.sz_cells.specs.declared.Cell.{Cell}
use Rattle.sz_cells.specs.Extent.{holds, cell_of, size_of}
use Rattle.sz_spec.specs.Values.{Grid}
use Rattle.sz_spec.specs.Operators.Regions.{is_high, are_neighbours, spread, component_of}
use Rattle.sz_spec.specs.Operators.Regions.{is_connected}
use Rattle.sz_spec.specs.Operators.Regions.{labelled_at}

-- cell o and then the cells of a list: each is a cell of the array and high, each but o is a
-- neighbour of the one before it, and the last is x
abbrev pub Leads : ℤ → Grid → Cell → List Cell → Cell → Type 0
Leads t g o [] x = (holds g.extent o ≡ true) × (is_high t g o ≡ true) × (o ≡ x)
Leads t g o (c ∷ cells) x = (holds g.extent o ≡ true) × (is_high t g o ≡ true)
    × (are_neighbours g.extent o c ≡ true) × Leads t g c cells x

-- x is connected to o exactly where there is a list of cells that leads from o to x
abbrev pub ConnectedCellsAreLedTo : Type 0
ConnectedCellsAreLedTo = (t : ℤ) (g : Grid) (o x : Cell)
    → (is_connected t g o x ≡ true) ↔ ((cells : List Cell) × Leads t g o cells x)

-- cells that are connected are of the array and high, both
abbrev pub ConnectedCellsAreHigh : Type 0
ConnectedCellsAreHigh = (t : ℤ) (g : Grid) (o x : Cell) → is_connected t g o x ≡ true
    → (holds g.extent o ≡ true) × (is_high t g o ≡ true) × (holds g.extent x ≡ true)
    × (is_high t g x ≡ true)

-- a high cell is connected to itself
abbrev pub HighCellsAreConnectedToThemselves : Type 0
HighCellsAreConnectedToThemselves = (t : ℤ) (g : Grid) (o : Cell)
    → holds g.extent o ≡ true → is_high t g o ≡ true → is_connected t g o o ≡ true

-- where x is connected to o, o is connected to x
abbrev pub ConnectionIsSymmetric : Type 0
ConnectionIsSymmetric = (t : ℤ) (g : Grid) (o x : Cell)
    → is_connected t g o x ≡ is_connected t g x o

-- what is connected to a connected cell is connected
abbrev pub ConnectionGoesByParts : Type 0
ConnectionGoesByParts = (t : ℤ) (g : Grid) (o x y : Cell)
    → is_connected t g o x ≡ true → is_connected t g x y ≡ true → is_connected t g o y ≡ true

-- a high neighbour of a connected cell is connected
abbrev pub ComponentsAreClosed : Type 0
ComponentsAreClosed = (t : ℤ) (g : Grid) (o x y : Cell) → is_connected t g o x ≡ true
    → holds g.extent y ≡ true → is_high t g y ≡ true → are_neighbours g.extent x y ≡ true
    → is_connected t g o y ≡ true

-- a further spread adds nothing to a component
abbrev pub ComponentsAreWhole : Type 0
ComponentsAreWhole = (t : ℤ) (g : Grid) (o : Cell)
    → spread t g (component_of t g o) ≡ component_of t g o

-- connected cells have one component
abbrev pub ConnectedCellsHaveOneComponent : Type 0
ConnectedCellsHaveOneComponent = (t : ℤ) (g : Grid) (o x : Cell)
    → is_connected t g o x ≡ true → component_of t g x ≡ component_of t g o

-- the label of a cell that is not high is 0
abbrev pub OtherCellsAreLabelledZero : Type 0
OtherCellsAreLabelledZero = (t : ℤ) (g : Grid) (o : Cell) → is_high t g o ≡ false
    → labelled_at t g o ≡ Some (pos 0)

-- that of a high cell is 1 plus the least index of a cell that is connected to it
abbrev pub HighCellsAreLabelledByTheLeast : Type 0
HighCellsAreLabelledByTheLeast = (t : ℤ) (g : Grid) (o : Cell)
    → holds g.extent o ≡ true → is_high t g o ≡ true
    → (k : ℕ) × (labelled_at t g o ≡ Some (pos (1 + k))) × (k < size_of g.extent)
    × (is_connected t g o (cell_of g.extent k) ≡ true)
    × ((j : ℕ) → j < k → is_connected t g o (cell_of g.extent j) ≡ false)
