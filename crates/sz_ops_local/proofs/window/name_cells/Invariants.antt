-- The cells of the rows before this one were appended.
use Rattle.std.proofs.Common.{◌≡◌, ◌||◌}
use Rattle.std.specs.List.{list_any}
use Rattle.sz_cells.specs.declared.Cell.{Cell}
use Rattle.sz_cells.specs.Cells.{is_same}
use Rattle.sz_ops_local.specs.Windows.{is_between}
use Rattle.sz_ops_local.proofs.window.name_cells.Given as goal

abbrev pub invariant-loop-row : goal.invariant-loop-row
invariant-loop-row l =
    (x : Cell) → list_any (is_same x) l.cells.items
    ≡ (list_any (is_same x) l.initial.cells.items || is_between l.window.top l.row l.window.left l.window.right x)
