-- The rows so far are the values of their cells.
use Rattle.std.proofs.Common.{◌≡◌, ◌*◌, map}
use Rattle.std.specs.Arc.{arc_value}
use Rattle.sz_frame.specs.Walks.{values_before}
use Rattle.sz_ops_move.proofs.slice.Slicing.rows.Given as goal

abbrev pub invariant-loop-row : goal.invariant-loop-row
invariant-loop-row l =
    let s = l.self.at.now in
    l.rows.items ≡ values_before s (map (λ a. arc_value a) l.inputs) (l.row * s.out.cols)
