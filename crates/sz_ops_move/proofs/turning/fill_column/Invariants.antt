-- The cells so far are in the column, and no other column has changed.
use Rattle.std.proofs.Common.{◌≡◌, ◌≢◌, ℕ, ◌+◌, ◌*◌, ◌%◌, ◌<◌, None, get_or}
use Rattle.sz_ops_move.proofs.turning.fill_column.Given as goal

abbrev pub invariant-loop-j : goal.invariant-loop-j
invariant-loop-j l = record {
  place : l.to ≡ l.j * l.pitch + l.row;
  written : (i : ℕ) → i < l.j → get_or l.strip (i * l.pitch + l.row) None ≡ get_or l.cells (l.from + i) None;
  others : (k : ℕ) → k % l.pitch ≢ l.row → get_or l.strip k None ≡ get_or l.initial.strip k None;
}
