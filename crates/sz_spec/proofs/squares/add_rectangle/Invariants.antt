-- No row was added yet, or the rows so far are there.
use Rattle.std.proofs.Common.{◌≡◌, ◌⊎◌}
use Rattle.sz_cells.specs.Cells.{with_those}
use Rattle.sz_spec.proofs.CodeSquare.{is_in_rows}
use Rattle.sz_spec.proofs.squares.add_rectangle.Given as goal

abbrev pub invariant-loop-row : goal.invariant-loop-row
invariant-loop-row l =
    ((l.row ≡ l.bounds.top) × (l.to ≡ l.initial.to))
    ⊎ (l.to ≡ with_those l.initial.to (is_in_rows l.bounds.top l.row l.bounds.left l.bounds.right))
