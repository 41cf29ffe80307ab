-- What was added so far: the run's cells in the words before this one.
use Rattle.std.proofs.Common.{◌≡◌, ◌*◌, ◌&&◌, nat_lt}
use Rattle.sz_cells.specs.Cells.{union_of}
use Rattle.sz_cells.specs.Runs.{is_in}
use Rattle.sz_cells.specs.Words.{cells_at}
use Rattle.sz_cells.proofs.cell_bits.CellBits.add_run.Given as goal

-- the cells of the run in the words so far were added
abbrev pub invariant-loop-word : goal.invariant-loop-word
invariant-loop-word l =
    l.self ≡ union_of l.fn.self (cells_at l.fn.self.extent (λ k. is_in l.run k && nat_lt k (l.word * 64)))
