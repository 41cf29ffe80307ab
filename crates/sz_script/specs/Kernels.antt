-- Kernels as a line gives them: rows of whole numbers. Whether one is right is a rule of flows.
use Rattle.std.specs.Prelude.{ℕ, ◌-◌, ◌^◌, ℤ, pos, List, map, length, Bool, ◌==◌, min}
use Rattle.std.specs.Prelude.{if◌then◌else◌, Option, Some, is_some, unwrap_or}
use Rattle.std.specs.List.{list_all, flat_map}
use Rattle.serde_json.specs.Data.{Data}
use Rattle.sz_spec.specs.Weights.{Weights}
use Rattle.sz_script.specs.Fields.{only_if, passes, whole_in, list_in, items_in, first_length}

-- a list of whole numbers
abbrev pub is_whole : Data → Bool
is_whole d = is_some (whole_in d)

abbrev pub is_row_of_wholes : Data → Bool
is_row_of_wholes d = passes (list_all is_whole) (list_in d)

-- all rows have as many weights as the first
abbrev pub are_even : List Data → Bool
are_even rows = list_all (λ row. length (items_in row) == first_length rows) rows

-- a side of a kernel, as a u32 holds it
abbrev pub side_of : ℕ → ℕ
side_of n = min n (2 ^ 32 - 1)

-- the weights of a row
abbrev pub weight_of : Data → ℤ
weight_of d = unwrap_or (whole_in d) (pos 0)

abbrev pub weights_of : Data → List ℤ
weights_of row = map weight_of (items_in row)

-- how many columns rows have: none where they are of unequal length
abbrev pub cols_of : List Data → ℕ
cols_of rows = if are_even rows then side_of (first_length rows) else 0

-- the kernel of rows of weights
abbrev pub kernel_of : List Data → Weights
kernel_of rows = record {
  rows = side_of (length rows);
  cols = cols_of rows;
  weights = flat_map weights_of rows;
}

abbrev pub kernel_in : List Data → Option Weights
kernel_in rows = only_if (list_all is_row_of_wholes rows) (Some (kernel_of rows))
