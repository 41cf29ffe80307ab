-- The numbers of the rows before this one were folded.
use Rattle.std.proofs.Common.{◌≡◌}
use Rattle.sz_cells.specs.Cells.{cells_where}
use Rattle.sz_spec.specs.Values.{numbers_at}
use Rattle.sz_frame.specs.Folding.{summary_of}
use Rattle.sz_ops_local.specs.Windows.{is_between}
use Rattle.sz_ops_local.proofs.window.fold.Given as goal

abbrev pub invariant-loop-row : goal.invariant-loop-row
invariant-loop-row l =
    l.folding
    ≡ summary_of (numbers_at l.input
    (cells_where l.input.extent (is_between l.window.top l.row l.window.left l.window.right)))
