-- The sets so far are those of the inputs before this one.
use Rattle.std.proofs.Common.{◌≡◌, map, length}
use Rattle.std.specs.Arc.{arc_value}
use Rattle.std.specs.List.{range_with_len}
use Rattle.sz_frame.specs.Images.{related_cells}
use Rattle.sz_frame.proofs.pieces.region_of.Given as goal

abbrev pub invariant-loop-input : goal.invariant-loop-input
invariant-loop-input g l =
    let s = g.A.AtWork.site l.at in
    (l.input-end ≡ length s.ins)
    × (map (λ a. arc_value a) l.ins.items ≡ map (λ i. related_cells s (g.A.AtWork.inputs l.at) i l.cell)
    (range_with_len 0 l.input))
