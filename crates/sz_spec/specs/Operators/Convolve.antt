-- Convolution: the weighted sum over the cells in range under the weights that are not 0.
use Rattle.std.specs.Prelude.{◌+◌, ◌-◌, ◌/◌, ℤ, pos, ◌*ℤ◌, ◌+ℤ◌, ◌==◌, List, []}
use Rattle.std.specs.Prelude.{◌∷◌, map, Bool, ◌&&◌, nat_le, nat_lt, Option, Some, option_map}
use Rattle.std.specs.Prelude.{option_and_then}
use Rattle.std.specs.List.{list_any, filter}
use Rattle.sz_cells.specs.declared.Cell.{Cell}
use Rattle.sz_cells.specs.Extent.{Extent, height_of, layer_of, row_in, cell_in}
use Rattle.sz_spec.specs.Values.{Grid, value_at, fit, with_numbers}
use Rattle.sz_spec.specs.Weights.{Weights, Tap, taps_of}

-- cell x lies under this tap, where the middle of the kernel lies on cell o: they are of one layer,
-- and as many rows and columns from one another as the tap from the kernel's middle
abbrev pub is_under : Extent → Weights → Cell → Cell → Tap → Bool
is_under e w o x t = (layer_of e x == layer_of e o)
    && (row_in e x + w.rows / 2 == row_in e o + t.row) && (x.col + w.cols / 2 == o.col + t.col)

-- o is related to the cells that lie under a weight other than 0
abbrev pub is_convolved : Extent → Weights → Cell → Cell → Bool
is_convolved e w o x = list_any (is_under e w o x) (taps_of w)

-- the tap lies on a cell of o's layer, and that cell
abbrev pub is_in_range : Extent → Weights → Cell → Tap → Bool
is_in_range e w o t = nat_le (w.rows / 2) (row_in e o + t.row)
    && nat_lt (row_in e o + t.row) (height_of e + w.rows / 2)
    && nat_le (w.cols / 2) (o.col + t.col) && nat_lt (o.col + t.col) (e.cols + w.cols / 2)

abbrev pub cell_under : Extent → Weights → Cell → Tap → Cell
cell_under e w o t =
    cell_in e (layer_of e o) ((row_in e o + t.row) - w.rows / 2) ((o.col + t.col) - w.cols / 2)

abbrev pub taps_in_range : Extent → Weights → Cell → List Tap
taps_in_range e w o = filter (is_in_range e w o) (taps_of w)

-- the weight times the value of the cell under the tap
abbrev pub term_of : Grid → Weights → Cell → Tap → Option ℤ
term_of g w o t = option_map (λ v. t.weight *ℤ v) (value_at g (cell_under g.extent w o t))

-- the sum of terms that are all there
abbrev pub sum_of_all : List (Option ℤ) → Option ℤ
sum_of_all [] = Some (pos 0)
sum_of_all (v ∷ vs) = with_numbers (λ a b. Some (a +ℤ b)) v (sum_of_all vs)

-- the fit of the sum over the taps in range: empty where one of these cells is empty, 0 where there
-- are none
abbrev pub convolved_at : Weights → Grid → Cell → Option ℤ
convolved_at w g o =
    option_and_then fit (sum_of_all (map (term_of g w o) (taps_in_range g.extent w o)))
