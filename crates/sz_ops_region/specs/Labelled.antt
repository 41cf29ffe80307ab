-- The components of cells by their labels.
use Rattle.std.specs.Prelude.{ℕ, Bool, ◌&&◌, ◌==◌, nat_lt, List, map, slice_index}
use Rattle.std.specs.List.{filter, range_with_len}
use Rattle.sz_cells.specs.Extent.{Extent, size_of}
use Rattle.sz_cells.specs.Cells.{Cells}

-- two labels are one, and are no 0
abbrev pub is_one_label : ℕ → ℕ → Bool
is_one_label one other = nat_lt 0 one && (one == other)

-- the cells of a shape that have the label of the cell of an index: none where that is 0
abbrev pub set_labelled : Extent → List ℕ → ℕ → Cells
set_labelled e words k = record {
  extent = e;
  indexes = filter (λ l. is_one_label (slice_index words k) (slice_index words l))
      (range_with_len 0 (size_of e));
}

-- those of each cell of a shape
abbrev pub sets_labelled : Extent → List ℕ → List Cells
sets_labelled e words = map (set_labelled e words) (range_with_len 0 (size_of e))
