-- The cell at the lower of the tops and the righter of the lefts lies in both, if any does.
use Rattle.std.proofs.Common.{arith}
use Rattle.std.specs.Prelude.{max}
use Rattle.sz_rtree.specs.Laws.{OverlapsShareACell}
use Rattle.sz_rtree.proofs.laws.overlaps_share_a_cell.Goals as goal

overlaps_share_a_cell_law : OverlapsShareACell
overlaps_share_a_cell_law a b upright_a upright_b = (
  λ o. (
    record { row = max a.top b.top; col = max a.left b.left },
    (omega arith, omega arith, omega arith, omega arith),
    (omega arith, omega arith, omega arith, omega arith),
  ),
  λ shared. (omega arith, omega arith, omega arith, omega arith),
)

pub returns : goal.returns
returns c = overlaps_share_a_cell_law
