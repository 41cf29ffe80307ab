-- Sets of cells of one shape, each set in one spelling, so that equal sets are equal values.
use Rattle.std.specs.Prelude.{ℕ, Bool, ◌&&◌, ◌||◌, ◌==◌, nat_le, List, [], Option}
use Rattle.std.specs.List.{filter, find, list_any, range_with_len}
use Rattle.sz_cells.specs.declared.Cell.{Cell}
use Rattle.sz_cells.specs.Extent.{Extent, size_of, holds, index_of, cell_of}

-- a set of cells of a shape: the row-major indexes of its cells, rising
pub record Cells : Type 0 where
  pub extent : Extent
  pub indexes : List ℕ

-- two cells are one
abbrev pub is_same : Cell → Cell → Bool
is_same a b = (a.row == b.row) && (a.col == b.col)

-- the cells of a shape that pass a test
abbrev pub cells_where : Extent → (Cell → Bool) → Cells
cells_where e test = record {
  extent = e;
  indexes = filter (λ k. test (cell_of e k)) (range_with_len 0 (size_of e));
}

-- some cell of the set passes a test
abbrev pub any_cell : (Cell → Bool) → Cells → Bool
any_cell test set = list_any (λ k. test (cell_of set.extent k)) set.indexes

-- the cell is in the set
abbrev pub has : Cells → Cell → Bool
has set c = holds set.extent c && list_any (λ k. k == index_of set.extent c) set.indexes

-- the set of no cell
abbrev pub no_cells : Extent → Cells
no_cells e = record { extent = e; indexes = [] }

-- the cells of a shape that a list names, a cell named twice once
abbrev pub named_in : Extent → List Cell → Cells
named_in e cells = cells_where e (λ c. list_any (is_same c) cells)

-- a set with those cells of its shape too that pass a test
abbrev pub with_those : Cells → (Cell → Bool) → Cells
with_those set test = cells_where set.extent (λ c. has set c || test c)

-- the cells of the first set's shape that are in one of two sets
abbrev pub union_of : Cells → Cells → Cells
union_of a b = cells_where a.extent (λ c. has a c || has b c)

-- a set with one more cell
abbrev pub with_cell : Cells → Cell → Cells
with_cell set cell = cells_where set.extent (λ c. has set c || is_same c cell)

-- the least index of the set at or above a number
abbrev pub next_index : Cells → ℕ → Option ℕ
next_index set from = find (λ k. nat_le from k) set.indexes
