-- Inputs of an operator with a new value in one cell.
use Rattle.std.specs.Prelude.{◌≡◌, ℕ, zero, suc, ◌<◌, ℤ, List, [], ◌∷◌, map, length, true, not}
use Rattle.std.specs.Prelude.{◌&&◌, ◌==◌, if◌then◌else◌, Option, Some}
use Rattle.std.specs.List.{range_with_len}
use Rattle.sz_cells.specs.declared.Cell.{Cell}
use Rattle.sz_cells.specs.Extent.{size_of, index_of, cell_of, holds}
use Rattle.sz_cells.specs.Cells.{is_same}
use Rattle.sz_spec.specs.Values.{Grid, fit, value_at, input_at, extent_at, with_number}
use Rattle.sz_spec.specs.Shapes.{Site}
use Rattle.sz_spec.specs.Evaluation.{value_of}
use Rattle.sz_spec.specs.Supports.{supports}
use Rattle.sz_spec.specs.LawsDependence.{AgreeWhere}
use Rattle.sz_spec.specs.Work.{IsAtWork}

-- an array with a new value at cell x
abbrev pub with_value : Grid → Cell → Option ℤ → Grid
with_value g x v = record {
  extent = g.extent;
  values = map (λ k. if k == index_of g.extent x then v else value_at g (cell_of g.extent k))
      (range_with_len 0 (size_of g.extent));
}

-- inputs with a new value at cell x of input i
abbrev pub changed_at : List Grid → ℕ → Cell → Option ℤ → List Grid
changed_at [] i x v = []
changed_at (g ∷ inputs) zero x v = with_value g x v ∷ inputs
changed_at (g ∷ inputs) (suc i) x v = g ∷ changed_at inputs i x v

-- the operator is at work over the changed inputs too, which hold the new value at x, and at all
-- other cells what they held
pub record DiffersAt (s : Site) (inputs : List Grid) (i : ℕ) (x : Cell) (v : Option ℤ) : Type 0
  where
    pub work : IsAtWork s (changed_at inputs i x v)
    pub there : value_at (input_at (changed_at inputs i x v) i) x ≡ v
    pub others : AgreeWhere s (λ j y. not ((j == i) && is_same y x)) inputs
        (changed_at inputs i x v)

-- o is a cell of the output of an operator at work, and cell x of its input i supports it
pub record IsSupported (s : Site) (inputs : List Grid) (i : ℕ) (o x : Cell) : Type 0 where
  pub work : IsAtWork s inputs
  pub held : holds s.out o ≡ true
  pub there : holds (extent_at s.ins i) x ≡ true
  pub supports : supports s.op inputs i o x ≡ true

-- the value of o differs, where cell x of input i holds v and all other cells what they did
abbrev pub ValueDiffers : Site → List Grid → ℕ → Cell → Cell → Option ℤ → Type 0
ValueDiffers s inputs i o x v =
    value_of s.op inputs o ≡ value_of s.op (changed_at inputs i x v) o → ⊥

-- by some new number at x, an i64, the value of o differs
abbrev pub MattersByNumber : Site → List Grid → ℕ → Cell → Cell → Type 0
MattersByNumber s inputs i o x =
    (z : ℤ) × (fit z ≡ Some z) × ValueDiffers s inputs i o x (Some z)

-- where some number stands at x, the value of o is a number
abbrev pub CanBeNumber : Site → List Grid → ℕ → Cell → Cell → Type 0
CanBeNumber s inputs i o x = (z : ℤ) × (fit z ≡ Some z)
    × (r : ℤ) × (value_of s.op (changed_at inputs i x (Some z)) o ≡ Some r)

-- a value is an i64 or nothing, as each value in the program is
abbrev pub IsValue : Option ℤ → Type 0
IsValue v = with_number fit v ≡ v

-- each cell of the inputs holds such a value
abbrev pub HoldValues : Site → List Grid → Type 0
HoldValues s inputs = (i : ℕ) (x : Cell) → i < length s.ins → holds (extent_at s.ins i) x ≡ true
    → IsValue (value_at (input_at inputs i) x)

-- by some new value at x, an i64 or nothing, the value of o differs
abbrev pub Matters : Site → List Grid → ℕ → Cell → Cell → Type 0
Matters s inputs i o x = (v : Option ℤ) × IsValue v × ValueDiffers s inputs i o x v
