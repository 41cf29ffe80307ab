-- The marks so far are those of the values so far.
use Rattle.std.proofs.Common.{◌≡◌, ℕ, ◌<◌, None, length, get_or, false}
use Rattle.std.specs.Prelude.{is_none}
use Rattle.sz_ops_window.proofs.sweep.voids_of.Given as goal

abbrev pub invariant-loop-cell : goal.invariant-loop-cell
invariant-loop-cell l = (length l.voids.items ≡ l.cell)
    × ((k : ℕ) → k < l.cell → get_or l.voids.items k false ≡ is_none (get_or l.cells k None))
