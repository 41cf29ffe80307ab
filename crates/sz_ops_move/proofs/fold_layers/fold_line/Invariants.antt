-- The numbers of the layers before this one were folded.
use Rattle.std.proofs.Common.{◌≡◌}
use Rattle.sz_cells.specs.Cells.{cells_where}
use Rattle.sz_spec.specs.Values.{numbers_at}
use Rattle.sz_frame.specs.Folding.{summary_of}
use Rattle.sz_ops_move.proofs.Layers.{is_before}
use Rattle.sz_ops_move.proofs.fold_layers.fold_line.Given as goal

abbrev pub invariant-loop-layer : goal.invariant-loop-layer
invariant-loop-layer l =
    l.folding ≡ summary_of (numbers_at l.input (cells_where l.input.extent (is_before l.input.extent l.place l.layer)))
