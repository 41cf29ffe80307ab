-- Rows of pairs: what the machine is given of a lookup of two values in a table of two, and where its looks lead.
-- Expected values by hand: the first value, 1, comes from itself and from the table's second cell, and the second
-- value, 0, from itself and from the table's first.
use Rattle.std.proofs.Common.{◌≡◌, ℕ, [], ◌∷◌, true, false, refl}
use Rattle.sz_cells.specs.Extent.{flat}
use Rattle.sz_cells.specs.Cells.{Cells}
use Rattle.sz_spec.specs.declared.modes.Dir.TheVariants.{Back, Forward}
use Rattle.sz_core.specs.declared.pairs.Pair.{Pair}
use Rattle.sz_core.specs.Events.{after_look}
use Rattle.sz_shelf.specs.Machine.{cells_of_piece, pairs_of_cell, pairs_of_piece, shelf_of, first_step}
use Rattle.sz_shelf.proofs.RowsSteps.{looked}

abbrev pair : ℕ → ℕ → ℕ → Pair
pair out input cell = record { out = out; input = input; cell = cell }

pub piece-cells : cells_of_piece (flat 1 2) 0 ≡ 0 ∷ 1 ∷ []
piece-cells = refl

pub no-second_piece : cells_of_piece (flat 1 2) 1 ≡ []
no-second_piece = refl

pub table-cell : pairs_of_cell looked 0 1 ≡ pair 0 1 1 ∷ []
table-cell = refl

pub all-pairs : pairs_of_piece looked 0 ≡ pair 0 0 0 ∷ pair 0 1 1 ∷ pair 1 0 1 ∷ pair 1 1 0 ∷ []
all-pairs = refl

abbrev cell : ℕ → Cells
cell k = record { extent = flat 1 2; indexes = k ∷ [] }

-- a look from the first output cell into the table, and from the table's first cell to the output, where nothing is
-- placed and where all is sealed
pub looked-back : (after_look (shelf_of looked [] false ∷ []) (first_step Back 1 (cell 0))).cells ≡ cell 1
looked-back = refl

pub looked-forward : (after_look (shelf_of looked (0 ∷ []) true ∷ []) (first_step Forward 1 (cell 0))).cells ≡ cell 1
looked-forward = refl

pub looked-beside : (after_look (shelf_of looked (0 ∷ []) true ∷ []) (first_step Back 0 (cell 0))).cells ≡ cell 0
looked-beside = refl
