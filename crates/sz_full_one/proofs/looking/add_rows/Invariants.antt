-- The rows of the set from the next one on were added.
use Rattle.std.proofs.Common.{ℕ}
use Rattle.sz_cells.specs.declared.Cell.{Cell}
use Rattle.sz_cells.specs.Cells.{has}
use Rattle.sz_tables.specs.Rows.{row_at, set_at}
use Rattle.sz_full_one.proofs.Entries.{Walked, reached}
use Rattle.sz_full_one.proofs.looking.add_rows.Given as goal

abbrev pub invariant-loop-next : goal.invariant-loop-next
invariant-loop-next l = Walked l.files.rows.entries l.number (λ (n : ℕ) (x : Cell). has (set_at l.table.outs
    (row_at l.table.rows n).out) x) l.fn.to l.to l.next

abbrev pub decreases-loop-next : goal.decreases-loop-next
decreases-loop-next l = reached l.next
