-- Nothing idle: of which operators each supporting cell can matter, and when. Each law is proved of
-- the definitions.
use Rattle.std.specs.Prelude.{◌≡◌, ℕ, ◌-◌, ℤ, pos, List, true, ◌<◌, length, Option, Some, None, ◌⊎◌}
use Rattle.sz_cells.specs.declared.Cell.{Cell}
use Rattle.sz_cells.specs.Extent.{holds, index_of}
use Rattle.sz_spec.specs.declared.op.Op.{Op}
use Rattle.sz_spec.specs.declared.op.Op.TheVariants.{Neg, Abs, AddK, MulK, Clip, Transpose, Slice}
use Rattle.sz_spec.specs.declared.op.Op.TheVariants.{Convolve, Block, FoldLayers, Add, Sub, Mul}
use Rattle.sz_spec.specs.declared.op.Op.TheVariants.{Min, Max, Lookup, Regions}
use Rattle.sz_spec.specs.declared.op.Fold.TheVariants.{Sum, Count}
use Rattle.sz_spec.specs.Values.{Grid, fit, value_at, input_at, extent_at}
use Rattle.sz_spec.specs.Evaluation.{value_of}
use Rattle.sz_spec.specs.Shapes.{Site}
use Rattle.sz_spec.specs.Weights.{Weights}
use Rattle.sz_spec.specs.Operators.Regions.{is_high, is_connected}
use Rattle.sz_spec.specs.Work.{IsAtWork}
use Rattle.sz_support.specs.Changes.{DiffersAt, IsSupported, ValueDiffers, MattersByNumber}
use Rattle.sz_support.specs.Changes.{CanBeNumber}

-- inputs that are changed at a cell differ from what they were at that cell alone
abbrev pub ChangedInputsDifferThere : Type 0
ChangedInputsDifferThere = (s : Site) (inputs : List Grid) (i : ℕ) (x : Cell) (v : Option ℤ)
    → IsAtWork s inputs → i < length s.ins → holds (extent_at s.ins i) x ≡ true
    → DiffersAt s inputs i x v

-- each supporting cell of an operator matters by a number, whatever the other cells hold
abbrev pub EachMattersByNumber : Op → Type 0
EachMattersByNumber op = (s : Site) (inputs : List Grid) (i : ℕ) (o x : Cell) → s.op ≡ op
    → IsSupported s inputs i o x → MattersByNumber s inputs i o x

-- each matters, at least by being empty where it is not, or by holding 0 where it is empty
abbrev pub EachMattersByPresence : Op → Type 0
EachMattersByPresence op = (s : Site) (inputs : List Grid) (i : ℕ) (o x : Cell) → s.op ≡ op
    → IsSupported s inputs i o x
    → ValueDiffers s inputs i o x None ⊎ ValueDiffers s inputs i o x (Some (pos 0))

-- each matters by a number, where the value of o is a number for some number at x: where it is not,
-- no number at x makes it one
abbrev pub EachMattersWhereNumber : Op → Type 0
EachMattersWhereNumber op = (s : Site) (inputs : List Grid) (i : ℕ) (o x : Cell) → s.op ≡ op
    → IsSupported s inputs i o x → CanBeNumber s inputs i o x → MattersByNumber s inputs i o x

-- it is a number where x holds an i64 and the value of o is a number
abbrev pub NumbersCanBeNumbers : Type 0
NumbersCanBeNumbers = (s : Site) (inputs : List Grid) (i : ℕ) (o x : Cell) (z r : ℤ)
    → IsSupported s inputs i o x → value_at (input_at inputs i) x ≡ Some z → fit z ≡ Some z
    → value_of s.op inputs o ≡ Some r → CanBeNumber s inputs i o x

-- ---- operators of one cell

abbrev pub NegatedCellsMatter : Type 0
NegatedCellsMatter = EachMattersByNumber Neg

abbrev pub CellsOfAbsMatter : Type 0
CellsOfAbsMatter = EachMattersByNumber Abs

-- where the constant is an i64, as it always is in the program
abbrev pub CellsOfAddKMatter : Type 0
CellsOfAddKMatter = (k : ℤ) → fit k ≡ Some k → EachMattersByNumber (AddK k)

-- by a number where the constant is not 0, and in any case by being empty or not
abbrev pub CellsOfMulKMatter : Type 0
CellsOfMulKMatter = (k : ℤ) → (k ≡ pos 0 → ⊥) → EachMattersByNumber (MulK k)

abbrev pub CellsOfMulKMatterByPresence : Type 0
CellsOfMulKMatterByPresence = (k : ℤ) → EachMattersByPresence (MulK k)

-- by a number where the bounds are two i64s, and in any case by being empty or not
abbrev pub CellsOfClipMatter : Type 0
CellsOfClipMatter = (lo hi : ℤ) → fit lo ≡ Some lo → fit hi ≡ Some hi → (lo ≡ hi → ⊥)
    → EachMattersByNumber (Clip lo hi)

abbrev pub CellsOfClipMatterByPresence : Type 0
CellsOfClipMatterByPresence = (lo hi : ℤ) → EachMattersByPresence (Clip lo hi)

abbrev pub TransposedCellsMatter : Type 0
TransposedCellsMatter = EachMattersByNumber Transpose

abbrev pub SlicedCellsMatter : Type 0
SlicedCellsMatter = (r0 c0 height width : ℕ) → EachMattersByNumber (Slice r0 c0 height width)

-- ---- folds

-- a count changes by one where a cell is emptied, or gets a number
abbrev pub CountedCellsMatter : Type 0
CountedCellsMatter = (height width : ℕ) → EachMattersByPresence (Block Count height width)

abbrev pub CountedCellsOfLayersMatter : Type 0
CountedCellsOfLayersMatter = EachMattersByPresence (FoldLayers Count)

abbrev pub SummedCellsMatter : Type 0
SummedCellsMatter = (height width : ℕ) → EachMattersWhereNumber (Block Sum height width)

abbrev pub SummedCellsOfLayersMatter : Type 0
SummedCellsOfLayersMatter = EachMattersWhereNumber (FoldLayers Sum)

-- ---- convolution

-- each cell under a weight that is not 0, where no other cell under one is empty and the sum is an
-- i64 for some number at this one
abbrev pub ConvolvedCellsMatter : Type 0
ConvolvedCellsMatter = (kernel : Weights) → EachMattersWhereNumber (Convolve kernel)

-- ---- operators of two inputs: the other operand is not empty

abbrev pub AddedCellsMatter : Type 0
AddedCellsMatter = EachMattersWhereNumber Add

abbrev pub SubtractedCellsMatter : Type 0
SubtractedCellsMatter = EachMattersWhereNumber Sub

-- and of a product not 0
abbrev pub MultipliedCellsMatter : Type 0
MultipliedCellsMatter = (s : Site) (inputs : List Grid) (i : ℕ) (o x : Cell) → s.op ≡ Mul
    → IsSupported s inputs i o x → CanBeNumber s inputs i o x
    → (value_at (input_at inputs (1 - i)) o ≡ Some (pos 0) → ⊥) → MattersByNumber s inputs i o x

-- by being empty or not, of the lesser and the greater of two
abbrev pub ComparedCellsMatter : Op → Type 0
ComparedCellsMatter op = (s : Site) (inputs : List Grid) (i : ℕ) (o x : Cell) → s.op ≡ op
    → IsSupported s inputs i o x → CanBeNumber s inputs i o x
    → ValueDiffers s inputs i o x None ⊎ ValueDiffers s inputs i o x (Some (pos 0))

abbrev pub LesserCellsMatter : Type 0
LesserCellsMatter = ComparedCellsMatter Min

abbrev pub GreaterCellsMatter : Type 0
GreaterCellsMatter = ComparedCellsMatter Max

-- ---- lookup

-- the table's cell that is matched, by a number
abbrev pub MatchedCellsMatter : Type 0
MatchedCellsMatter = (s : Site) (inputs : List Grid) (o x : Cell) → s.op ≡ Lookup
    → IsSupported s inputs 1 o x → MattersByNumber s inputs 1 o x

-- the cell that names the column, by being empty, where the value of o is a number
abbrev pub MatchingCellsMatter : Type 0
MatchingCellsMatter = (s : Site) (inputs : List Grid) (o x : Cell) (r : ℤ) → s.op ≡ Lookup
    → IsSupported s inputs 0 o x → value_of s.op inputs o ≡ Some r
    → ValueDiffers s inputs 0 o x None

-- ---- regions: the threshold is an i64, as it always is in the program

-- each cell to its own label: emptied where it is high, raised to the threshold where it is not
abbrev pub OwnCellsOfRegionsMatter : Type 0
OwnCellsOfRegionsMatter = (t : ℤ) (s : Site) (inputs : List Grid) (o : Cell) → s.op ≡ Regions t
    → IsAtWork s inputs → holds s.out o ≡ true
    → ValueDiffers s inputs 0 o o None ⊎ ValueDiffers s inputs 0 o o (Some t)

-- a neighbour of a region that comes before each of its cells, raised to the threshold: it is the
-- region's first cell then
abbrev pub RimCellsBeforeMatter : Type 0
RimCellsBeforeMatter = (t : ℤ) (s : Site) (inputs : List Grid) (o x : Cell) → s.op ≡ Regions t
    → IsSupported s inputs 0 o x → is_high t (input_at inputs 0) o ≡ true
    → ((c : Cell) → is_connected t (input_at inputs 0) o c ≡ true
    → index_of (extent_at s.ins 0) x < index_of (extent_at s.ins 0) c)
    → ValueDiffers s inputs 0 o x (Some t)
