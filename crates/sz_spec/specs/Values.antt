-- Values, arrays, and the values that an array holds at cells.
use Rattle.std.specs.Prelude.{ℕ, ℤ, pos, negsuc, ◌+ℤ◌, ◌^◌, List, [], map, fold, nat_lt}
use Rattle.std.specs.Prelude.{if◌then◌else◌, Option, Some, None, unwrap_or, option_and_then}
use Rattle.std.specs.List.{slice_get, filter_map}
use Rattle.sz_cells.specs.declared.Cell.{Cell}
use Rattle.sz_cells.specs.Extent.{Extent, index_of, cell_of}
use Rattle.sz_cells.specs.Cells.{Cells}

-- an array: a shape, and for each cell in row-major order a number or nothing
pub record Grid : Type 0 where
  pub extent : Extent
  pub values : List (Option ℤ)

-- a whole number that is an i64 is a value, and any other number is empty
abbrev pub fit : ℤ → Option ℤ
fit (pos n) = if nat_lt n (2 ^ 63) then Some (pos n) else None
fit (negsuc n) = if nat_lt n (2 ^ 63) then Some (negsuc n) else None

-- the value of a cell
abbrev pub value_at : Grid → Cell → Option ℤ
value_at grid c = unwrap_or (slice_get grid.values (index_of grid.extent c)) None

-- the numbers that the cells of a set hold, in row-major order: an empty cell holds none
abbrev pub numbers_at : Grid → Cells → List ℤ
numbers_at grid set = filter_map (λ k. value_at grid (cell_of set.extent k)) set.indexes

-- a shape and an array that are not there: no input of an operator with right arity is either
abbrev pub no_extent : Extent
no_extent = record { layers = 0; rows = 0; cols = 0 }

abbrev pub no_grid : Grid
no_grid = record { extent = no_extent; values = [] }

-- the array, and the shape, that an operator takes as input i
abbrev pub input_at : List Grid → ℕ → Grid
input_at inputs i = unwrap_or (slice_get inputs i) no_grid

abbrev pub extent_at : List Extent → ℕ → Extent
extent_at ins i = unwrap_or (slice_get ins i) no_extent

abbrev pub extents_of : List Grid → List Extent
extents_of grids = map (λ g. g.extent) grids

-- what f makes of one number, and of two: nothing where one is not there
abbrev pub with_number : (ℤ → Option ℤ) → Option ℤ → Option ℤ
with_number f v = option_and_then f v

abbrev pub with_numbers : (ℤ → ℤ → Option ℤ) → Option ℤ → Option ℤ → Option ℤ
with_numbers f v w = option_and_then (λ a. option_and_then (f a) w) v

-- the sum of whole numbers, taken before anything is fitted
abbrev pub total : List ℤ → ℤ
total zs = fold (λ a z. a +ℤ z) (pos 0) zs
