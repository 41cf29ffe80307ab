-- The layers before this one have no cell of the set.
use Rattle.std.proofs.Common.{◌≡◌, false}
use Rattle.sz_cells.specs.Cells.{any_cell}
use Rattle.sz_ops_move.proofs.Layers.{is_before}
use Rattle.sz_ops_move.proofs.fold_layers.meets_line.Given as goal

abbrev pub invariant-loop-layer : goal.invariant-loop-layer
invariant-loop-layer l = any_cell (is_before l.shape l.place l.layer) l.from ≡ false
