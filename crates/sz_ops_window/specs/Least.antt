-- The least number that is not hot, cell by cell.
use Rattle.std.specs.Prelude.{ℕ, ◌-◌, ℤ, int_le, nat_le, nat_lt, fold, Bool, ◌&&◌}
use Rattle.std.specs.Prelude.{Option, Some, None, if◌then◌else◌}
use Rattle.std.specs.Int.{int_min}
use Rattle.std.specs.List.{range_with_len}
use Rattle.sz_cells.specs.declared.Cell.{Cell}
use Rattle.sz_spec.specs.Values.{Grid, value_at}
use Rattle.sz_ops_window.specs.declared.window.Window.{Window}

-- the cell is in a window of rows and columns
abbrev pub is_in_window : Window → Cell → Bool
is_in_window w x = (nat_le w.top x.row && nat_lt x.row w.bottom)
    && (nat_le w.left x.col && nat_lt x.col w.right)

-- the lesser of the least number so far and a further one
abbrev pub lesser : Option ℤ → ℤ → Option ℤ
lesser None z = Some z
lesser (Some a) z = Some (int_min a z)

-- the least number so far, with a value that counts where it is a number below t
abbrev pub with_value : ℤ → Option ℤ → Option ℤ → Option ℤ
with_value t least None = least
with_value t least (Some z) = if int_le t z then least else lesser least z

-- with the cells of a row, from one column to before another
abbrev pub with_row : ℤ → Grid → ℕ → ℕ → ℕ → Option ℤ → Option ℤ
with_row t g left right row least =
    fold (λ b col. with_value t b (value_at g (record { row = row; col = col }))) least
    (range_with_len left (right - left))

-- with the cells of these columns of rows, from one to before another
abbrev pub with_rows : ℤ → Grid → ℕ → ℕ → ℕ → ℕ → Option ℤ → Option ℤ
with_rows t g top bottom left right least =
    fold (λ b row. with_row t g left right row b) least (range_with_len top (bottom - top))
