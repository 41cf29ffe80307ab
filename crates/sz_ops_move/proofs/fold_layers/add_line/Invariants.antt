-- The cells of the layers before this one were added.
use Rattle.std.proofs.Common.{◌≡◌}
use Rattle.sz_cells.specs.Cells.{with_those}
use Rattle.sz_ops_move.proofs.Layers.{is_before}
use Rattle.sz_ops_move.proofs.fold_layers.add_line.Given as goal

abbrev pub invariant-loop-layer : goal.invariant-loop-layer
invariant-loop-layer l = l.to ≡ with_those l.initial.to (is_before l.shape l.place l.layer)
