-- A filter of a range rises.
use Rattle.std.proofs.Common.{arith}
use Rattle.sz_cells.specs.Extent.{size_of}
use Rattle.sz_cells.specs.Words.{has_bit}
use Rattle.sz_cells.proofs.Rising.{filter-rising}
use Rattle.sz_cells.proofs.cell_bits.CellBits.shape.Goals as goal

pub returns-clause-rising : goal.returns-clause-rising
returns-clause-rising c =
    rw (← c.self.view_is) (filter-rising (has_bit c.self.inside.words.items) (size_of c.self.inside.shape) 0
    (size_of c.self.inside.shape) (omega arith))
