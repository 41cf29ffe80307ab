-- Payloads that are the bytes of a set: the number of its runs, and the runs.
use Rattle.std.specs.Prelude.{◌≡◌, ℕ, ◌*◌, ◌≤◌, List, ◌++◌, length, false}
use Rattle.std.specs.Int.{w32, from_be_bytes}
use Rattle.sz_cells.specs.Extent.{Extent, size_of}
use Rattle.sz_cells.specs.SetWords.{is_set_word}

-- the bytes are four of a number, and eight for each of so many runs
pub record IsBodyOf (bytes body : List ℕ) : Type 0 where
  pub head : List ℕ
  pub four : length head ≡ 4
  pub spelled : bytes ≡ head ++ body
  pub long : length body ≡ 8 * from_be_bytes w32 head

-- the bytes are those of no set, of whichever shape
abbrev pub IsNoWord : List ℕ → Type 0
IsNoWord bytes = (e : Extent) → size_of e ≤ 1048576 → is_set_word e bytes ≡ false
