-- What was added so far: the cells of the runs before this one.
use Rattle.std.proofs.Common.{◌≡◌, take}
use Rattle.sz_cells.specs.Cells.{union_of}
use Rattle.sz_cells.specs.Runs.{covers}
use Rattle.sz_cells.specs.Words.{cells_at}
use Rattle.sz_cells.proofs.cell_bits.CellBits.add_set.Given as goal

-- the cells of the runs so far were added
abbrev pub invariant-loop-run : goal.invariant-loop-run
invariant-loop-run l =
    l.self ≡ union_of l.fn.self (cells_at l.fn.self.extent (covers (take l.run-index l.run-items)))
