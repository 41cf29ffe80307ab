-- Nothing idle, exactly: of operators whose answers may have idle cells, where a supporting cell
-- can matter, and that elsewhere no value of it, an i64 or nothing, makes a difference. Each law is
-- proved of the definitions.
use Rattle.std.specs.Prelude.{◌≡◌, ℕ, ◌+◌, ◌-◌, ◌^◌, ◌<◌, ◌≤◌, ◌⊎◌, ℤ, pos, neg_ℤ, int_lt}
use Rattle.std.specs.Prelude.{List, ◌∷◌, Bool, true, false, Option, Some, None, ◌↔◌}
use Rattle.std.specs.List.{list_any}
use Rattle.sz_cells.specs.declared.Cell.{Cell}
use Rattle.sz_cells.specs.Extent.{holds, index_of}
use Rattle.sz_cells.specs.Cells.{is_same}
use Rattle.sz_spec.specs.declared.op.Op.{Op}
use Rattle.sz_spec.specs.declared.op.Op.TheVariants.{Block, FoldLayers, Clean, Regions, Convolve}
use Rattle.sz_spec.specs.declared.op.Op.TheVariants.{Add, Sub, Mul, Min, Max, Lookup}
use Rattle.sz_spec.specs.declared.op.Fold.TheVariants as fold
use Rattle.sz_spec.specs.Values.{Grid, value_at, input_at, extent_at}
use Rattle.sz_spec.specs.Shapes.{Site}
use Rattle.sz_spec.specs.Weights.{Weights}
use Rattle.sz_spec.specs.Operators.Lookup.{entry_at}
use Rattle.sz_spec.specs.Operators.Regions.{is_high, is_connected, are_neighbours, labelled_at}
use Rattle.sz_spec.specs.Supports.{supports}
use Rattle.sz_spec.specs.LawsRegions.{Leads}
use Rattle.sz_spec.specs.Work.{IsAtWork}
use Rattle.sz_support.specs.Changes.{IsSupported, ValueDiffers, MattersByNumber, CanBeNumber}
use Rattle.sz_support.specs.Changes.{HoldValues, Matters}
use Rattle.sz_support.specs.LawsMatter.{ComparedCellsMatter}

-- the least and the greatest i64
abbrev pub least_i64 : ℤ
least_i64 = neg_ℤ (pos (2 ^ 63))

abbrev pub greatest_i64 : ℤ
greatest_i64 = pos (2 ^ 63 - 1)

-- x matters by a number where a condition holds, and where it does not x is idle: it matters by no
-- value
abbrev pub MattersExactlyWhere : Type 0 → Site → List Grid → ℕ → Cell → Cell → Type 0
MattersExactlyWhere condition s inputs i o x =
    (condition → MattersByNumber s inputs i o x) × (Matters s inputs i o x → condition)

-- the same by one value: by v where the condition holds, and else by none
abbrev pub DiffersExactlyWhere :
    Type 0 → Site → List Grid → ℕ → Cell → Cell → Option ℤ → Type 0
DiffersExactlyWhere condition s inputs i o x v =
    (condition → ValueDiffers s inputs i o x v) × (Matters s inputs i o x → condition)

-- a cell other than x that supports o holds this number
abbrev pub AnotherHolds : Site → List Grid → ℕ → Cell → Cell → ℤ → Type 0
AnotherHolds s inputs i o x z = (y : Cell) × (is_same y x ≡ false)
    × (holds (extent_at s.ins i) y ≡ true) × (supports s.op inputs i o y ≡ true)
    × (value_at (input_at inputs i) y ≡ Some z)

-- ---- folds of the least and of the greatest

-- each supporting cell matters exactly where no other one holds this number
abbrev pub EachMattersUnlessAnother : Op → ℤ → Type 0
EachMattersUnlessAnother op z = (s : Site) (inputs : List Grid) (i : ℕ) (o x : Cell) → s.op ≡ op
    → IsSupported s inputs i o x → HoldValues s inputs
    → MattersExactlyWhere (AnotherHolds s inputs i o x z → ⊥) s inputs i o x

-- of the least, unless another cell holds the least i64, below which nothing is
abbrev pub CellsOfLeastMatter : Type 0
CellsOfLeastMatter = (height width : ℕ)
    → EachMattersUnlessAnother (Block fold.Min height width) least_i64

abbrev pub CellsOfLeastOfLayersMatter : Type 0
CellsOfLeastOfLayersMatter = EachMattersUnlessAnother (FoldLayers fold.Min) least_i64

-- of the greatest, unless another cell holds the greatest i64
abbrev pub CellsOfGreatestMatter : Type 0
CellsOfGreatestMatter = (height width : ℕ)
    → EachMattersUnlessAnother (Block fold.Max height width) greatest_i64

abbrev pub CellsOfGreatestOfLayersMatter : Type 0
CellsOfGreatestOfLayersMatter = EachMattersUnlessAnother (FoldLayers fold.Max) greatest_i64

-- ---- clean

-- its own cell matters, by being empty or by the least i64, exactly where the threshold is above
-- the least i64: where it is not each number is hot, and all of the output is empty
abbrev pub OwnCellsOfCleanMatter : Type 0
OwnCellsOfCleanMatter = (t : ℤ) (s : Site) (inputs : List Grid) (o : Cell) → s.op ≡ Clean t
    → IsAtWork s inputs → holds s.out o ≡ true → HoldValues s inputs
    → (int_lt least_i64 t ≡ true
    → ValueDiffers s inputs 0 o o None ⊎ ValueDiffers s inputs 0 o o (Some least_i64))
    × (Matters s inputs 0 o o → int_lt least_i64 t ≡ true)

-- another cell in the square round a hot one matters exactly where the threshold is above the least
-- i64, and no other cell in the square holds the least i64
abbrev pub CellsRoundHotOnesMatter : Type 0
CellsRoundHotOnesMatter = (t : ℤ) (s : Site) (inputs : List Grid) (o x : Cell) → s.op ≡ Clean t
    → IsSupported s inputs 0 o x → is_same x o ≡ false → HoldValues s inputs
    → MattersExactlyWhere
    ((int_lt least_i64 t ≡ true) × (AnotherHolds s inputs 0 o x least_i64 → ⊥)) s inputs 0 o x

-- ---- sums, convolutions, and operators of two inputs

-- each cell matters only where, by some number there, the value of o is a number
abbrev pub EachMattersOnlyWhereNumber : Op → Type 0
EachMattersOnlyWhereNumber op = (s : Site) (inputs : List Grid) (i : ℕ) (o x : Cell) → s.op ≡ op
    → IsSupported s inputs i o x → HoldValues s inputs → Matters s inputs i o x
    → CanBeNumber s inputs i o x

abbrev pub SummedCellsMatterOnlyThere : Type 0
SummedCellsMatterOnlyThere = (height width : ℕ)
    → EachMattersOnlyWhereNumber (Block fold.Sum height width)

abbrev pub SummedCellsOfLayersMatterOnlyThere : Type 0
SummedCellsOfLayersMatterOnlyThere = EachMattersOnlyWhereNumber (FoldLayers fold.Sum)

abbrev pub ConvolvedCellsMatterOnlyThere : Type 0
ConvolvedCellsMatterOnlyThere = (kernel : Weights) → EachMattersOnlyWhereNumber (Convolve kernel)

-- an operator that makes one number of two
abbrev pub is_paired : Op → Bool
is_paired Add = true
is_paired Sub = true
is_paired Mul = true
is_paired Min = true
is_paired Max = true
is_paired _ = false

abbrev pub PairedCellsMatterOnlyThere : Type 0
PairedCellsMatterOnlyThere = (op : Op) → is_paired op ≡ true → EachMattersOnlyWhereNumber op

-- of a product each cell matters there, at least by being empty or 0
abbrev pub MultipliedCellsMatterByPresence : Type 0
MultipliedCellsMatterByPresence = ComparedCellsMatter Mul

-- the cell that names a column of a table matters exactly where the table holds some number
abbrev pub NamingCellsMatter : Type 0
NamingCellsMatter = (s : Site) (inputs : List Grid) (o x : Cell) → s.op ≡ Lookup
    → IsSupported s inputs 0 o x
    → Matters s inputs 0 o x ↔ ((k : ℕ) × (k < (input_at inputs 1).extent.cols)
    × (r : ℤ) × (value_at (input_at inputs 1) (entry_at k) ≡ Some r))

-- ---- regions: the threshold is an i64, as it always is in the program

-- c is the first cell of o's region: it is connected to o, and no cell that is comes before it
pub record IsFirst (t : ℤ) (g : Grid) (o c : Cell) : Type 0 where
  pub inside : is_connected t g o c ≡ true
  pub first : (d : Cell) → is_connected t g o d ≡ true
      → index_of g.extent c ≤ index_of g.extent d

-- each high cell's region has a first cell, which gives the label
abbrev pub RegionsHaveFirstCells : Type 0
RegionsHaveFirstCells = (t : ℤ) (g : Grid) (o : Cell) → holds g.extent o ≡ true
    → is_high t g o ≡ true
    → (c : Cell) × IsFirst t g o c × (labelled_at t g o ≡ Some (pos (1 + index_of g.extent c)))

-- x stands between o and c: each list of high neighbours that leads from o to c passes x, as one
-- that begins at x or ends there does
abbrev pub StandsBetween : ℤ → Grid → Cell → Cell → Cell → Type 0
StandsBetween t g o c x = (cells : List Cell) → Leads t g o cells c
    → list_any (λ d. is_same d x) (o ∷ cells) ≡ true

-- a cell of a region matters to the label of a cell of it, by being emptied, exactly where it
-- stands between that cell and the region's first
abbrev pub InnerCellsOfRegionsMatter : Type 0
InnerCellsOfRegionsMatter = (t : ℤ) (s : Site) (inputs : List Grid) (o x c : Cell)
    → s.op ≡ Regions t → IsAtWork s inputs → IsFirst t (input_at inputs 0) o c
    → is_connected t (input_at inputs 0) o x ≡ true
    → DiffersExactlyWhere (StandsBetween t (input_at inputs 0) o c x) s inputs 0 o x None

-- what x would join, were it high, has a cell before c: x itself, or a cell that is connected to a
-- neighbour of x
abbrev pub JoinsBefore : ℤ → Grid → Cell → Cell → Type 0
JoinsBefore t g c x = (d : Cell) × (index_of g.extent d < index_of g.extent c)
    × ((d ≡ x)
    ⊎ ((y : Cell) × (are_neighbours g.extent x y ≡ true) × (is_connected t g y d ≡ true)))

-- a neighbour of a region matters to the label of a cell of it, by being raised to the threshold,
-- exactly where it would join the region to a cell before the region's first
abbrev pub RimCellsOfRegionsMatter : Type 0
RimCellsOfRegionsMatter = (t : ℤ) (s : Site) (inputs : List Grid) (o x c : Cell)
    → s.op ≡ Regions t → IsSupported s inputs 0 o x → IsFirst t (input_at inputs 0) o c
    → is_connected t (input_at inputs 0) o x ≡ false
    → DiffersExactlyWhere (JoinsBefore t (input_at inputs 0) c x) s inputs 0 o x (Some t)
