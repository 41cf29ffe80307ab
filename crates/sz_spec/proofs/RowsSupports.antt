-- Rows of which cells fix a value: of a high cell of regions its component and what lies beside it, in its layer, of
-- any other cell itself, and of all other operators the cells to which it is related.
--
-- The key idea: on written-out arrays the definition is a computation. Expected values by hand. Sets are given by the
-- row-major indexes of their cells.
use Rattle.std.proofs.Common.{◌≡◌, ℕ, pos, List, [], ◌∷◌, refl}
use Rattle.sz_cells.specs.Cells.{cells_where}
use Rattle.sz_cells.specs.Extent.{cell_of}
use Rattle.sz_spec.specs.declared.op.Op.{Op}
use Rattle.sz_spec.specs.declared.op.Op.TheVariants as op
use Rattle.sz_spec.specs.Values.{Grid, input_at}
use Rattle.sz_spec.specs.Supports.{supports}
use Rattle.sz_spec.proofs.RowsArrays.{grid, stack, n, none, hills, nine, plus}

-- the cells of input i that support the output cell of an index, where the output has the first input's shape
abbrev supporting : Op → List Grid → ℕ → ℕ → List ℕ
supporting o inputs i k = (cells_where (input_at inputs i).extent
    (supports o inputs i (cell_of (input_at inputs 0).extent k))).indexes

-- of the region of three cells all three and the five beside them, and not the corner nor the other region's cell
pub region : supporting (op.Regions (pos 5)) (hills ∷ []) 0 1 ≡ 0 ∷ 1 ∷ 2 ∷ 3 ∷ 4 ∷ 5 ∷ 7 ∷ []
region = refl

pub region-corner : supporting (op.Regions (pos 5)) (hills ∷ []) 0 6 ≡ 3 ∷ 6 ∷ 7 ∷ []
region-corner = refl

-- of a low cell itself, though a region lies beside it
pub low : supporting (op.Regions (pos 5)) (hills ∷ []) 0 5 ≡ 5 ∷ []
low = refl

-- an empty cell beside a region supports it
pub empty-beside : supporting (op.Regions (pos 5)) (grid 1 4 (n 9 ∷ none ∷ n 9 ∷ n 0 ∷ []) ∷ []) 0 0 ≡ 0 ∷ 1 ∷ []
empty-beside = refl

-- a region at the end of a layer does not lean on the next layer
pub layers : supporting (op.Regions (pos 5)) (stack 2 1 2 (n 0 ∷ n 9 ∷ n 0 ∷ n 0 ∷ []) ∷ []) 0 1 ≡ 0 ∷ 1 ∷ []
layers = refl

-- nothing supports a cell of regions by a second input, and the other operators stand on what they are related to
pub no-other : supporting (op.Regions (pos 5)) (hills ∷ hills ∷ []) 1 1 ≡ []
no-other = refl

pub convolved : supporting (op.Convolve plus) (nine ∷ []) 0 0 ≡ 0 ∷ 1 ∷ 3 ∷ []
convolved = refl

pub cleaned : supporting (op.Clean (pos 5)) (hills ∷ []) 0 6 ≡ 3 ∷ 4 ∷ 6 ∷ 7 ∷ []
cleaned = refl
