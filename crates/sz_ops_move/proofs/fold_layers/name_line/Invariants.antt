-- The cells of the layers before this one were appended.
use Rattle.std.proofs.Common.{◌≡◌, ◌||◌, ◌&&◌}
use Rattle.std.specs.List.{list_any}
use Rattle.sz_cells.specs.declared.Cell.{Cell}
use Rattle.sz_cells.specs.Extent.{holds}
use Rattle.sz_cells.specs.Cells.{is_same}
use Rattle.sz_ops_move.proofs.Layers.{is_before}
use Rattle.sz_ops_move.proofs.fold_layers.name_line.Given as goal

abbrev pub invariant-loop-layer : goal.invariant-loop-layer
invariant-loop-layer l =
    (x : Cell) → list_any (is_same x) l.cells.items
    ≡ (list_any (is_same x) l.initial.cells.items || (holds l.shape x && is_before l.shape l.place l.layer x))
