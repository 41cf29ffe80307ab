-- The strips so far are the values of the rows before this one.
use Rattle.std.proofs.Common.{◌≡◌, ◌*◌, ◌-◌, ◌≤◌, map, length}
use Rattle.std.specs.Arc.{arc_value}
use Rattle.sz_frame.specs.Walks.{values_before}
use Rattle.sz_ops_move.proofs.turning.turned.Given as goal

abbrev pub invariant-loop-row : goal.invariant-loop-row
invariant-loop-row l = record {
  strip : length l.strip ≡ 16 * l.pitch;
  made : l.turned.items ≡ values_before l.at (map (λ a. arc_value a) l.inputs) (l.row * l.height);
  low : l.row ≤ l.rows;
}

abbrev pub decreases-loop-row : goal.decreases-loop-row
decreases-loop-row l = l.rows - l.row
