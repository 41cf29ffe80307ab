-- What was added so far: the other's cells in the words before this one.
use Rattle.std.proofs.Common.{◌≡◌, ◌*◌, ◌&&◌, nat_lt}
use Rattle.sz_cells.specs.Cells.{union_of}
use Rattle.sz_cells.specs.Words.{has_bit, cells_at}
use Rattle.sz_cells.proofs.cell_bits.CellBits.add_bits.Given as goal

-- the cells of the words so far were added
abbrev pub invariant-loop-word : goal.invariant-loop-word
invariant-loop-word l =
    l.self ≡ union_of l.fn.self (cells_at l.fn.self.extent (λ k. has_bit l.other-inside.words.items k && nat_lt k
    (l.word * 64)))
