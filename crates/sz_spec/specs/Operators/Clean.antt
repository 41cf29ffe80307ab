-- Cleaning: a hot cell becomes the least number round it that is not hot.
use Rattle.std.specs.Prelude.{ℕ, ◌+◌, ℤ, ◌==◌, Bool, false, not, ◌&&◌, nat_le, int_le}
use Rattle.std.specs.Prelude.{if◌then◌else◌, List, Option, Some, None}
use Rattle.std.specs.List.{filter, reduce}
use Rattle.std.specs.Int.{int_min}
use Rattle.sz_cells.specs.declared.Cell.{Cell}
use Rattle.sz_cells.specs.Extent.{Extent, layer_of}
use Rattle.sz_cells.specs.Cells.{cells_where}
use Rattle.sz_spec.specs.Values.{Grid, value_at, numbers_at}

-- a value is there and at least t
abbrev pub is_at_least : ℤ → Option ℤ → Bool
is_at_least t None = false
is_at_least t (Some z) = int_le t z

-- a cell is hot where it is not empty and at least t
abbrev pub is_hot : ℤ → Grid → Cell → Bool
is_hot t g c = is_at_least t (value_at g c)

-- two numbers differ by at most 1
abbrev pub is_near : ℕ → ℕ → Bool
is_near a b = nat_le a (b + 1) && nat_le b (a + 1)

-- x is of c's layer and of the 3 by 3 square round c
abbrev pub is_in_square : Extent → Cell → Cell → Bool
is_in_square e c x = (layer_of e x == layer_of e c) && is_near x.row c.row && is_near x.col c.col

-- the numbers in the square round a cell
abbrev pub numbers_round : Grid → Cell → List ℤ
numbers_round g c = numbers_at g (cells_where g.extent (is_in_square g.extent c))

-- a hot cell becomes the least of the numbers in the square that are not hot, and empty if there
-- are none; other cells stay
abbrev pub cleaned_at : ℤ → Grid → Cell → Option ℤ
cleaned_at t g c = if is_hot t g c
    then reduce int_min (filter (λ z. not (int_le t z)) (numbers_round g c)) else value_at g c
