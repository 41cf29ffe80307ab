-- What an array holds already of an operator's output.
use Rattle.std.specs.Prelude.{◌≡◌, ℕ, ◌<◌, ℤ, List, false, ◌==◌, slice_index_or, Option, None}
use Rattle.std.specs.Prelude.{if◌then◌else◌}
use Rattle.std.specs.List.{list_any}
use Rattle.sz_cells.specs.Extent.{size_of, cell_of}
use Rattle.sz_cells.specs.Cells.{Cells}
use Rattle.sz_spec.specs.Values.{Grid}
use Rattle.sz_spec.specs.Shapes.{Site}
use Rattle.sz_spec.specs.Evaluation.{value_of}

-- at each cell that is not in a set the array holds the operator's value
abbrev pub KeepsOthers : Site → List Grid → Grid → Cells → Type 0
KeepsOthers s inputs array set = (k : ℕ) → k < size_of s.out
    → list_any (λ i. i == k) set.indexes ≡ false
    → slice_index_or array.values k None ≡ value_of s.op inputs (cell_of s.out k)

-- the value of the cell of an index, given another: the operator's where the cell is in a set, and
-- else the given one
abbrev pub renewed : Site → List Grid → Cells → ℕ → Option ℤ → Option ℤ
renewed s inputs set k v = if list_any (λ i. i == k) set.indexes
    then value_of s.op inputs (cell_of s.out k) else v
