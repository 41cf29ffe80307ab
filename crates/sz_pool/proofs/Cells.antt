-- Counts of the cells of pieces.
use Rattle.std.proofs.Common.{◌≡◌, ℕ, ◌+◌, ◌*◌, ◌-◌, ◌/◌, ◌^◌, ◌<◌, ◌≤◌, List, [], ◌∷◌, ◌++◌, min, arith, sum_by}
use Rattle.std.proofs.lemmas.List.Sums.{sum_by_push}
use Rattle.sz_cells.specs.Extent.{Extent, size_of}
use Rattle.sz_spec.specs.Pieces.{pieces_of}
use Rattle.sz_frame.specs.Written.{cells_in_piece}
use Rattle.sz_pool.specs.Effort.{cells_of}

few-more-of : (size n cells : ℕ) → n < (size + 63) / 64 → cells ≤ min size (n * 64)
    → cells + (min size (n * 64 + 64) - n * 64) ≤ min size ((n + 1) * 64)
few-more-of size n cells inside few = omega arith

-- with one piece more there are at most the cells before the next
pub few-more : (out : Extent) (won : List ℕ) (n : ℕ) → n < pieces_of out → cells_of out won ≤ min (size_of out) (n * 64)
    → cells_of out (won ++ n ∷ []) ≤ min (size_of out) ((n + 1) * 64)
few-more out won n inside few =
    let more = few-more-of (size_of out) n (cells_of out won) inside few in
    let e = sum_by_push (cells_in_piece out) won n in
    omega (arith, e, more)

-- there is room for the cells of piece k, where those of the pieces before it were counted at most
pub cells-within : (size k t u cells : ℕ) → k < (size + 63) / 64 → cells ≤ min size (k * 64) → u ≤ t + cells
    → t + size < 2 ^ 63 → u + (min size (k * 64 + 64) - k * 64) < 2 ^ 63
cells-within size k t u cells inside few most room = omega arith
