-- No bit before the word is 1, and none behind the range.
use Rattle.std.proofs.Common.{◌≡◌, ℕ, ◌*◌, ◌<◌, ◌≤◌, false}
use Rattle.sz_cells.specs.Words.{has_bit}
use Rattle.sz_cells.proofs.words.clear_words.Given as goal

-- no bit of a word so far is 1, and none behind the range
abbrev pub invariant-loop-word : goal.invariant-loop-word
invariant-loop-word l =
    ((k : ℕ) → k < l.word * 64 → has_bit l.words k ≡ false) × ((k : ℕ) → l.end * 64 ≤ k
    → has_bit l.words k ≡ false)
