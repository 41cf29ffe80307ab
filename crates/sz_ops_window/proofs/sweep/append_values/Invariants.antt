-- The values so far are those of the cells so far.
use Rattle.std.proofs.Common.{◌≡◌, ◌+◌, ◌*◌, map}
use Rattle.std.specs.Arc.{arc_value}
use Rattle.sz_frame.specs.Walks.{values_before}
use Rattle.sz_ops_window.proofs.sweep.append_values.Given as goal

abbrev pub invariant-loop-col : goal.invariant-loop-col
invariant-loop-col l = l.values.items
    ≡ values_before l.at (map (λ a. arc_value a) l.inputs) (l.row * l.at.out.cols + l.col)
