-- What follows of pieces: the piece of a cell is its index divided by 64.
use Rattle.std.proofs.Common.{◌/◌, ◌≤◌, ◌==◌, refl, sym, arith, eqb-true, eq-eqb}
use Rattle.std.proofs.lemmas.Bool.{and_parts, and_from}
use Rattle.sz_cells.specs.Extent.{size_of, holds, index_of}
use Rattle.sz_cells.proofs.Sets.{index-below}
use Rattle.sz_cells.proofs.Shapes.{sides}
use Rattle.std.proofs.Math.Nat.{one-le-mul}
use Rattle.sz_spec.specs.LawsShapes.{EachCellIsInOnePiece, PiecesAreOfTheShape, PiecesAreFew}

-- each cell is in one piece
pub piece-of : EachCellIsInOnePiece
piece-of e c held =
    let below = index-below e c held in (
      index_of e c / 64,
      omega arith,
      and_from _ _ held (eq-eqb (index_of e c / 64) (index_of e c / 64) refl),
      λ j inside. sym (eqb-true (index_of e c / 64) j (and_parts (holds e c) (index_of e c / 64 == j) inside).1),
    )

-- and it is a cell of the shape
pub piece-held : PiecesAreOfTheShape
piece-held e k c inside = (and_parts (holds e c) (index_of e c / 64 == k) inside).0

-- how many pieces there are
pub pieces-few : PiecesAreFew
pieces-few e right =
    let s = sides e right in
    let some : 1 ≤ size_of e = one-le-mul s.2 s.3 in
    (omega arith, omega (arith, s.5))
