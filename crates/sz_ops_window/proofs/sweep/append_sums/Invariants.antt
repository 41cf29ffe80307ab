-- The values so far are those of the cells so far.
use Rattle.std.proofs.Common.{◌≡◌, ◌+◌, ◌*◌, map}
use Rattle.std.specs.Arc.{arc_value}
use Rattle.sz_frame.specs.Walks.{values_before}
use Rattle.sz_ops_window.proofs.sweep.append_sums.Given as goal

abbrev pub invariant-loop-k : goal.invariant-loop-k
invariant-loop-k l = l.values.items
    ≡ values_before l.at (map (λ a. arc_value a) l._inputs) (l._row * l.at.out.cols + l.k)
