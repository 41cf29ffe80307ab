-- The cells of the columns before this one were appended.
use Rattle.std.proofs.Common.{◌≡◌, ◌+◌, ◌||◌}
use Rattle.std.specs.List.{list_any}
use Rattle.sz_cells.specs.declared.Cell.{Cell}
use Rattle.sz_cells.specs.Cells.{is_same}
use Rattle.sz_ops_local.specs.Windows.{is_between}
use Rattle.sz_ops_local.proofs.window.name_row.Given as goal

abbrev pub invariant-loop-col : goal.invariant-loop-col
invariant-loop-col l =
    (x : Cell) → list_any (is_same x) l.cells.items
    ≡ (list_any (is_same x) l.initial.cells.items || is_between l.row (l.row + 1) l.left l.col x)
