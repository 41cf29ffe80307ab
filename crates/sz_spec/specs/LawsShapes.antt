-- What a reader may take for granted of output shapes and of pieces. Each law is proved of the
-- definitions.
use Rattle.std.specs.Prelude.{◌≡◌, ℕ, ◌<◌, ◌≤◌, List, All, true}
use Rattle.sz_cells.specs.declared.Cell.{Cell}
use Rattle.sz_cells.specs.Extent.{Extent, is_extent, holds}
use Rattle.sz_spec.specs.Shapes.{Site, IsSite}
use Rattle.sz_spec.specs.Pieces.{pieces_of, is_in_piece}

-- each of the shapes is within the limits
abbrev pub AreExtents : List Extent → Type 0
AreExtents ins = All (λ e. is_extent e ≡ true) ins

-- of right shapes an operator makes a right shape
abbrev pub OutputsAreShapes : Type 0
OutputsAreShapes = (s : Site) → IsSite s → AreExtents s.ins → is_extent s.out ≡ true

-- each cell of a shape is in one piece, which is below the number of pieces
abbrev pub EachCellIsInOnePiece : Type 0
EachCellIsInOnePiece = (e : Extent) (c : Cell) → holds e c ≡ true
    → (k : ℕ) × (k < pieces_of e) × (is_in_piece e k c ≡ true)
    × ((j : ℕ) → is_in_piece e j c ≡ true → j ≡ k)

-- in a piece are cells of the shape alone
abbrev pub PiecesAreOfTheShape : Type 0
PiecesAreOfTheShape = (e : Extent) (k : ℕ) (c : Cell) → is_in_piece e k c ≡ true → holds e c ≡ true

-- a right shape has 1 to 16,384 pieces
abbrev pub PiecesAreFew : Type 0
PiecesAreFew = (e : Extent) → is_extent e ≡ true → (1 ≤ pieces_of e) × (pieces_of e ≤ 16384)
