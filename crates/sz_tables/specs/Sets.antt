-- Rectangles round sets of cells.
use Rattle.std.specs.Prelude.{◌≡◌, ◌≤◌, true}
use Rattle.sz_cells.specs.declared.Bounds.{Bounds}
use Rattle.sz_cells.specs.declared.Cell.{Cell}
use Rattle.sz_cells.specs.declared.Run.{Run}
use Rattle.sz_cells.specs.Extent.{Extent, holds, index_of}
use Rattle.sz_cells.specs.Cells.{Cells, has}
use Rattle.sz_cells.specs.Laws.{IsInBounds}

-- the rectangle has every cell of the set
abbrev pub IsRound : Bounds → Cells → Type 0
IsRound b set = (c : Cell) → has set c ≡ true → IsInBounds b c

-- the rectangle has every cell of the run, by the cells' indexes in the shape
abbrev pub IsRoundRun : Extent → Bounds → Run → Type 0
IsRoundRun e b r = (c : Cell) → holds e c ≡ true → r.first ≤ index_of e c → index_of e c ≤ r.last → IsInBounds b c
