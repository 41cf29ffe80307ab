-- The numbers so far are those of the values so far.
use Rattle.std.proofs.Common.{◌≡◌, ℕ, ◌<◌, None, length, get_or}
use Rattle.std.specs.Prelude.{pos}
use Rattle.sz_ops_window.specs.Sweeps.{number_of}
use Rattle.sz_ops_window.proofs.sweep.numbers_of.Given as goal

abbrev pub invariant-loop-cell : goal.invariant-loop-cell
invariant-loop-cell l = (length l.numbers.items ≡ l.cell)
    × ((k : ℕ) → k < l.cell → get_or l.numbers.items k (pos 0) ≡ number_of l.most (get_or l.cells k None))
