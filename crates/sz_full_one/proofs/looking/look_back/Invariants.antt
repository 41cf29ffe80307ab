-- The rows of the cell from the next one on were added, and the set of the last of them is there.
use Rattle.std.proofs.Common.{ℕ}
use Rattle.sz_cells.specs.declared.Cell.{Cell}
use Rattle.sz_spec.specs.declared.modes.Dir.TheVariants.{Back}
use Rattle.sz_tables.specs.Rows.{row_at, number_in}
use Rattle.sz_full_one.specs.ByCells.{adds, IsDone}
use Rattle.sz_full_one.proofs.Entries.{Walked, reached}
use Rattle.sz_full_one.proofs.looking.look_back.Given as goal

abbrev pub invariant-loop-next : goal.invariant-loop-next
invariant-loop-next l = record {
  walked : Walked l.rows.entries l.cell (λ (n : ℕ) (x : Cell). adds l.table Back l.input
      (number_in (row_at l.table.rows n) l.input) x) l.fn.to l.to l.next;
  done : IsDone (adds l.table Back l.input) l.done l.to;
}

abbrev pub decreases-loop-next : goal.decreases-loop-next
decreases-loop-next l = reached l.next
