-- What a walk over the cells of a shape, in row-major order, has made when it has come to a number.
use Rattle.std.specs.Prelude.{ℕ, ℤ, List, map, Bool, ◌&&◌, Option}
use Rattle.std.specs.List.{range_with_len, list_any}
use Rattle.sz_cells.specs.declared.Cell.{Cell}
use Rattle.sz_cells.specs.Extent.{Extent, cell_of}
use Rattle.sz_cells.specs.Cells.{Cells, is_same, any_cell, has}
use Rattle.sz_spec.specs.declared.modes.Dir.{Dir}
use Rattle.sz_spec.specs.declared.modes.Dir.TheVariants.{Back, Forward}
use Rattle.sz_spec.specs.Values.{Grid}
use Rattle.sz_spec.specs.Shapes.{Site}
use Rattle.sz_spec.specs.Evaluation.{value_of}

-- the values of the output cells whose numbers are below n
abbrev pub values_before : Site → List Grid → ℕ → List (Option ℤ)
values_before s inputs n = map (λ k. value_of s.op inputs (cell_of s.out k)) (range_with_len 0 n)

-- what tracing output cell o adds: backward the cells to which it is related, where it is in the
-- set; forward the cell itself, where it is related to one of the set
abbrev pub traced : Dir → (Cell → Cell → Bool) → Cells → Cell → Cell → Bool
traced Back relation from o x = has from o && relation o x
traced Forward relation from o x = any_cell (λ c. relation o c) from && is_same x o

-- what mapping cell c adds: backward the cells to which it is mapped, forward those mapped to it
abbrev pub steps : Dir → (Cell → Cell → Bool) → Cell → Cell → Bool
steps Back relation c x = relation c x
steps Forward relation c x = relation x c

-- what mapping cell c adds, where it is in the set
abbrev pub stepped : Dir → (Cell → Cell → Bool) → Cells → Cell → Cell → Bool
stepped dir relation from c x = has from c && steps dir relation c x

-- what the cells of a shape whose numbers are below n add
abbrev pub added : Extent → (Cell → Cell → Bool) → ℕ → Cell → Bool
added e adds n x = list_any (λ k. adds (cell_of e k) x) (range_with_len 0 n)
