-- The rows so far are the values of their cells.
use Rattle.std.proofs.Common.{◌≡◌, ◌+◌, ◌*◌, map}
use Rattle.std.specs.Arc.{arc_value}
use Rattle.sz_cells.specs.Extent.{height_of}
use Rattle.sz_spec.specs.Values.{extent_at}
use Rattle.sz_frame.specs.Walks.{values_before}
use Rattle.sz_ops_move.proofs.turning.append_rows.Given as goal

abbrev pub invariant-loop-j : goal.invariant-loop-j
invariant-loop-j l =
    l.turned.items
    ≡ values_before l.at (map (λ a. arc_value a) l.inputs) ((l.row + l.j) * height_of (extent_at l.at.ins 0))
