-- What two arrays have in common of which one takes the place of the other.
use Rattle.std.specs.Prelude.{◌≡◌, ℕ, ◌<◌, ◌==◌, Bool, true, false, List, length}
use Rattle.sz_cells.specs.declared.Cell.{Cell}
use Rattle.sz_cells.specs.Extent.{holds}
use Rattle.sz_cells.specs.Cells.{Cells, has}
use Rattle.sz_spec.specs.Values.{Grid, value_at, input_at}

-- they have one shape, and one value at each cell but, where it is the array that is named, at most
-- those of a set
abbrev pub AgreeAt : Bool → Cells → Grid → Grid → Type 0
AgreeAt named changed one other = (one.extent ≡ other.extent) × ((x : Cell)
    → holds one.extent x ≡ true → (named ≡ true → has changed x ≡ false)
    → value_at one x ≡ value_at other x)

-- arrays of one list take the place of those of another, of which they differ at most in a set of
-- cells of one of them
abbrev pub AreAgreed : ℕ → Cells → List Grid → List Grid → Type 0
AreAgreed input changed before base = (length before ≡ length base) × ((b : ℕ) → b < length base
    → AgreeAt (b == input) changed (input_at before b) (input_at base b))
