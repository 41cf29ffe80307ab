-- The values so far are those of the rows so far.
use Rattle.std.proofs.Common.{◌≡◌, ◌*◌, map}
use Rattle.std.specs.Arc.{arc_value}
use Rattle.sz_frame.specs.Walks.{values_before}
use Rattle.sz_ops_window.proofs.sweep.values.Given as goal

abbrev pub invariant-loop-row : goal.invariant-loop-row
invariant-loop-row l = l.values.items
    ≡ values_before l.at (map (λ a. arc_value a) l.inputs) (l.row * l.at.out.cols)
