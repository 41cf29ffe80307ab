-- Bits in words of 64: how a bitmap keeps a set of cells.
use Rattle.std.specs.Prelude.{◌≡◌, ℕ, ◌+◌, ◌*◌, ◌/◌, ◌%◌, ◌<◌, ◌≤◌, Bool, false}
use Rattle.std.specs.Prelude.{◌&&◌, ◌==◌, List, length, slice_index}
use Rattle.std.specs.Int.{bit_at}
use Rattle.std.specs.List.{filter, range_with_len}
use Rattle.sz_cells.specs.Extent.{Extent, size_of}
use Rattle.sz_cells.specs.Cells.{Cells}

-- the bit of a place is 1 in a word
unfoldable pub is_one : ℕ → ℕ → Bool
is_one word place = bit_at word place == 1

-- the bit of an index is 1 in words of 64 bits
unfoldable pub has_bit : List ℕ → ℕ → Bool
has_bit words k = is_one (slice_index words (k / 64)) (k % 64)

-- the index is one of those of a word, and its bit is 1 there
unfoldable pub is_in_word : ℕ → ℕ → ℕ → Bool
is_in_word word bits k = (k / 64 == word) && is_one bits (k % 64)

-- how many words have a bit for each cell of a shape
abbrev pub words_for : Extent → ℕ
words_for e = (size_of e + 63) / 64

-- the cells of a shape of which the indexes pass a test
abbrev pub cells_at : Extent → (ℕ → Bool) → Cells
cells_at e test = record { extent = e; indexes = filter test (range_with_len 0 (size_of e)) }

-- the words have a bit for each cell, no other bit is 1, and each bit that is 1 is in a range of
-- the words
pub record AreWordsOf (e : Extent) (words : List ℕ) (first end : ℕ) : Type 0 where
  pub few : size_of e ≤ 1048576
  pub enough : length words ≡ words_for e
  pub start : first ≤ length words
  pub within : end ≤ length words
  pub before : (k : ℕ) → k < first * 64 → has_bit words k ≡ false
  pub after : (k : ℕ) → end * 64 ≤ k → has_bit words k ≡ false
  pub no_more : (k : ℕ) → size_of e ≤ k → has_bit words k ≡ false
