-- The sum under a kernel, tap by tap.
use Rattle.std.specs.Prelude.{ℕ, ◌+◌, ◌-◌, ◌*◌, ◌/◌, ◌^◌, ◌≤◌, ℤ, pos, ◌*ℤ◌, min, map, not, ◌&&◌}
use Rattle.std.specs.Prelude.{Option, Some, option_map, if◌then◌else◌}
use Rattle.std.specs.Int.RustNames.{unsigned_abs}
use Rattle.std.specs.List.{range_with_len}
use Rattle.sz_cells.specs.declared.Cell.{Cell}
use Rattle.sz_cells.specs.Extent.{Extent, height_of, row_in}
use Rattle.sz_spec.specs.Values.{Grid}
use Rattle.sz_spec.specs.Weights.{Weights, is_zero, tap_at}
use Rattle.sz_spec.specs.Operators.Convolve.{is_in_range, term_of, sum_of_all}
use Rattle.sz_ops_window.specs.declared.window.Window.{Window}

-- a weight times a value, and 0 where the weight is 0
abbrev pub times : ℤ → Option ℤ → Option ℤ
times weight value =
    if is_zero weight then Some (pos 0) else option_map (λ v. weight *ℤ v) value

-- what the tap of a number adds: 0 where its weight is 0 or it is not in range
abbrev pub part_of : Grid → Weights → Cell → ℕ → Option ℤ
part_of g w o n = if not (is_zero (tap_at w n).weight) && is_in_range g.extent w o (tap_at w n)
    then term_of g w o (tap_at w n) else Some (pos 0)

-- what n taps add, from a number on
abbrev pub sum_from : Grid → Weights → Cell → ℕ → ℕ → Option ℤ
sum_from g w o start n = sum_of_all (map (part_of g w o) (range_with_len start n))

-- a sum of so many products of an i32 and an i64: at most 2^94 each
abbrev pub IsWithin : ℕ → ℤ → Type 0
IsWithin n z = unsigned_abs z ≤ n * 2 ^ 94

-- the taps that lie on cells of the layer where the middle lies on cell o: from the first of these
-- rows and columns of the kernel to before the second
abbrev pub reach_of : Extent → Weights → Cell → Window
reach_of e w o = record {
  top = w.rows / 2 - row_in e o;
  bottom = min w.rows ((height_of e + w.rows / 2) - row_in e o);
  left = w.cols / 2 - o.col;
  right = min w.cols ((e.cols + w.cols / 2) - o.col);
}
