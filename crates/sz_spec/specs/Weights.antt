-- Kernels: weights in rows and columns, and the places of those that are not 0.
use Rattle.std.specs.Prelude.{ℕ, ◌*◌, ◌/◌, ◌%◌, ◌^◌, ℤ, pos, negsuc, ◌==◌, List}
use Rattle.std.specs.Prelude.{length, Bool, false, not, ◌&&◌, nat_lt, nat_le, unwrap_or}
use Rattle.std.specs.Prelude.{map}
use Rattle.std.specs.List.{slice_get, list_all, filter, range_with_len}

-- a kernel: how many rows and columns it has, and its weights row by row
pub record Weights : Type 0 where
  pub rows : ℕ
  pub cols : ℕ
  pub weights : List ℤ

-- one weight of a kernel with its place: its row and its column, both from 0
pub record Tap : Type 0 where
  pub row : ℕ
  pub col : ℕ
  pub weight : ℤ

abbrev pub is_zero : ℤ → Bool
is_zero (pos n) = n == 0
is_zero (negsuc n) = false

-- a weight is an i32
abbrev pub is_weight : ℤ → Bool
is_weight (pos n) = nat_lt n (2 ^ 31)
is_weight (negsuc n) = nat_lt n (2 ^ 31)

-- an odd number of at most nine
abbrev pub is_odd_side : ℕ → Bool
is_odd_side n = (n % 2 == 1) && nat_le n 9

-- a right kernel: odd by odd, at most 9 by 9, as many weights as places, each an i32
abbrev pub is_kernel : Weights → Bool
is_kernel w = is_odd_side w.rows && is_odd_side w.cols && (length w.weights == w.rows * w.cols)
    && list_all is_weight w.weights

-- the tap of a number, counted row by row
abbrev pub tap_at : Weights → ℕ → Tap
tap_at w n = record {
  row = n / w.cols;
  col = n % w.cols;
  weight = unwrap_or (slice_get w.weights n) (pos 0);
}

-- the taps whose weight is not 0, row by row
abbrev pub taps_of : Weights → List Tap
taps_of w =
    filter (λ t. not (is_zero t.weight)) (map (tap_at w) (range_with_len 0 (w.rows * w.cols)))
