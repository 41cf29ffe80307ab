-- Reading a cell set that begins at a place of some bytes.
use Rattle.std.specs.Prelude.{◌≡◌, ℕ, ◌+◌, ◌*◌, ◌<◌, ◌^◌, List, [], ◌∷◌, ◌++◌, length, drop}
use Rattle.std.specs.List.{flat_map}
use Rattle.std.specs.Int.{w32, from_be_bytes}
use Rattle.sz_numbers.specs.Numbers.{four_at}
use Rattle.sz_cells.specs.declared.Run.{Run}
use Rattle.sz_cells.specs.Extent.{Extent, size_of}
use Rattle.sz_cells.specs.Cells.{Cells}
use Rattle.sz_cells.specs.Runs.{AreRunsFrom}
use Rattle.sz_cells.specs.SetBytes.{BeginsSet, run_bytes, four_bytes}
use Rattle.sz_cells.specs.SetWords.{runs_spelled}
use Rattle.sz_region.specs.declared.set_bytes.Take.{Take}
use Rattle.sz_region.specs.declared.set_bytes.Take.TheVariants.{Bad, NoMemory}

-- no set of the shape begins at the place, whichever set and wherever it ends
abbrev pub NoneBegins : Extent → List ℕ → ℕ → Type 0
NoneBegins e bytes at = (next : ℕ) (set : Cells) → BeginsSet e bytes at next set → ⊥

-- what is said where no set is read: at which place none begins, or that there was no memory
abbrev pub SaysNoneBegins : Extent → List ℕ → ℕ → Take → Type 0
SaysNoneBegins e bytes at (Bad place) = (place ≡ at) × NoneBegins e bytes at
SaysNoneBegins e bytes at NoMemory = Unit {0}

-- the bytes of a number of runs, and of these runs
abbrev pub runs_bytes : List Run → List ℕ
runs_bytes runs = four_bytes (length runs) ++ flat_map run_bytes runs

-- the number of four bytes at a place
abbrev pub number_at : List ℕ → ℕ → ℕ
number_at bytes at = four_at bytes at

-- the run of eight bytes at a place
abbrev pub run_at : List ℕ → ℕ → Run
run_at bytes at = record { first = number_at bytes at; last = number_at bytes (at + 4) }

-- at a place are four bytes of a number and eight for each so many runs
pub record HasBody (bytes : List ℕ) (at : ℕ) (body : List ℕ) : Type 0 where
  pub head : List ℕ
  pub rest : List ℕ
  pub four : length head ≡ 4
  pub spelled : drop at bytes ≡ head ++ (body ++ rest)
  pub long : length body ≡ 8 * from_be_bytes w32 head

-- there are not as many bytes as the runs would be, whichever the runs
abbrev pub HasNoRuns : List ℕ → ℕ → Type 0
HasNoRuns bytes at = (runs : List Run) (rest : List ℕ) → length runs < 2 ^ 32
    → drop at bytes ≡ runs_bytes runs ++ rest → ⊥

-- why runs were not read: they are not the longest ones of a set, or there was no memory
abbrev pub SaysNoRuns : Extent → List ℕ → Take → Type 0
SaysNoRuns e body (Bad place) = AreRunsFrom 0 (size_of e) (runs_spelled body) → ⊥
SaysNoRuns e body NoMemory = Unit {0}
