-- The cells of an array as a line gives them: layers of rows of values.
use Rattle.std.specs.Prelude.{ℕ, ◌*◌, ℤ, List, map, length, Bool, not, ◌&&◌, ◌==◌, nat_lt}
use Rattle.std.specs.Prelude.{if◌then◌else◌, Result, Ok, Err}
use Rattle.std.specs.Prelude.{nat_le, Option, Some, None, is_some, unwrap_or, option_map}
use Rattle.std.specs.List.{list_all, flat_map}
use Rattle.serde_json.specs.Data.{Data, null, boolean, number, string, array, object}
use Rattle.serde_json.specs.Find.{as_i64}
use Rattle.sz_cells.specs.Extent.{Extent, layered}
use Rattle.sz_spec.specs.Values.{Grid}
use Rattle.sz_script.specs.Fields.{passes, list_in, items_in, first_in, first_length}
use Rattle.sz_script.specs.declared.refusal.Refusal.{Refusal}
use Rattle.sz_script.specs.declared.refusal.Refusal.TheVariants.{BadCells, TooManyCells}

-- what a cell holds: a whole number that is an i64, or null for nothing
abbrev pub value_in : Data → Option (Option ℤ)
value_in null = Some None
value_in (boolean b) = None
value_in (number n) = option_map Some (as_i64 n)
value_in (string s) = None
value_in (array ds) = None
value_in (object ms) = None

abbrev pub is_value : Data → Bool
is_value d = is_some (value_in d)

-- a list of this many values
abbrev pub is_row : ℕ → Data → Bool
is_row width d = passes (λ ds. (length ds == width) && list_all is_value ds) (list_in d)

-- a list of this many rows of this width
abbrev pub is_layer : ℕ → ℕ → Data → Bool
is_layer height width d =
    passes (λ rows. (length rows == height) && list_all (is_row width) rows) (list_in d)

-- how many rows the first layer has, and how many cells its first row
abbrev pub height_of : List Data → ℕ
height_of layers = first_length layers

abbrev pub width_of : List Data → ℕ
width_of layers = first_length (items_in (first_in layers))

-- 1 to 16 layers, and neither the height nor the width of the first is 0
abbrev pub are_counted : List Data → Bool
are_counted layers = nat_lt 0 (length layers) && nat_le (length layers) 16
    && nat_lt 0 (height_of layers) && nat_lt 0 (width_of layers)

-- so many layers, each as high and as wide as the first
abbrev pub are_layers : List Data → Bool
are_layers layers =
    are_counted layers && list_all (is_layer (height_of layers) (width_of layers)) layers

-- The cells are ragged, or there are none, or a row is no list, or a cell is neither an i64 nor
-- null; or there are more than 16 layers, or a layer is no list, or two layers differ in shape.
abbrev pub are_bad_cells : List Data → Bool
are_bad_cells layers = not (are_layers layers)

-- there are more than 1,048,576 of them
abbrev pub are_too_many_cells : List Data → Bool
are_too_many_cells layers =
    nat_lt 1048576 ((length layers * height_of layers) * width_of layers)

-- the values in row-major order, one layer after another
abbrev pub value_of : Data → Option ℤ
value_of d = unwrap_or (value_in d) None

abbrev pub values_of_row : Data → List (Option ℤ)
values_of_row d = map value_of (items_in d)

abbrev pub values_of_layer : Data → List (Option ℤ)
values_of_layer d = flat_map values_of_row (items_in d)

-- the array that layers are, where their cells are neither bad nor too many
abbrev pub grid_of : List Data → Grid
grid_of layers = record {
  extent = layered (length layers) (height_of layers) (width_of layers);
  values = flat_map values_of_layer layers;
}

-- the array of a shape whose layers have this height and width
abbrev pub filled : Extent → ℕ → ℕ → List Data → Result Grid Refusal
filled e height width layers = if list_all (is_layer height width) layers
    then Ok (record { extent = e; values = flat_map values_of_layer layers })
    else Err BadCells

-- the array that layers are, or the rule that their cells break
abbrev pub array_in : List Data → Result Grid Refusal
array_in layers = if are_bad_cells layers then Err BadCells
    else if are_too_many_cells layers then Err TooManyCells
    else Ok (grid_of layers)
