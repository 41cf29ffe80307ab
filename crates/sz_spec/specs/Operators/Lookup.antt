-- Lookup: a cell of the first input names a column of the second, which is a table of one row.
use Rattle.std.specs.Prelude.{ℕ, ℤ, pos, negsuc, ◌==◌, Bool, false, ◌&&◌, nat_lt, if◌then◌else◌}
use Rattle.std.specs.Prelude.{Option, Some, None, option_and_then}
use Rattle.sz_cells.specs.declared.Cell.{Cell}
use Rattle.sz_spec.specs.Values.{Grid, value_at}

-- a number names a column where it is 0 or more and below the number of columns
abbrev pub column_of : ℕ → ℤ → Option ℕ
column_of cols (pos k) = if nat_lt k cols then Some k else None
column_of cols (negsuc k) = None

-- the column that cell o is matched with, none where it is empty or names no column
abbrev pub match_of : Grid → Grid → Cell → Option ℕ
match_of a table o = option_and_then (column_of table.extent.cols) (value_at a o)

-- the cell of a column of the table
abbrev pub entry_at : ℕ → Cell
entry_at k = record { row = 0; col = k }

-- x is the matched cell of the table
abbrev pub is_entry : Option ℕ → Cell → Bool
is_entry None x = false
is_entry (Some k) x = (x.row == 0) && (x.col == k)

-- the table's value at the matched cell
abbrev pub looked_up : Grid → Grid → Cell → Option ℤ
looked_up a table o = option_and_then (λ k. value_at table (entry_at k)) (match_of a table o)
