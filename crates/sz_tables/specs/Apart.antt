-- Sets that are one or apart, and region pairs that have such sets of each input.
use Rattle.std.specs.Prelude.{◌≡◌, ◌⊎◌, ℕ, List, true, Some}
use Rattle.std.specs.List.{slice_get}
use Rattle.sz_cells.specs.declared.Cell.{Cell}
use Rattle.sz_cells.specs.Cells.{Cells, has}
use Rattle.sz_frame.specs.Parts.{Pairing}
use Rattle.sz_frame.specs.Stands.{set_of}
use Rattle.sz_tables.specs.Rows.{sets_of}

-- two sets are one, or no cell is in both
abbrev pub IsOneOrApart : Cells → Cells → Type 0
IsOneOrApart a b = (a ≡ b) ⊎ ((c : Cell) → has a c ≡ true → has b c ≡ true → ⊥)

-- two region pairs have sets that are one or apart, input by input
abbrev pub AreOneOrApart : Pairing → Pairing → Type 0
AreOneOrApart q r = (i : ℕ) → IsOneOrApart (set_of q i) (set_of r i)

-- and so have any two of a list
abbrev pub HaveInputsApart : List Pairing → Type 0
HaveInputsApart rs = (m n : ℕ) (q r : Pairing) → slice_get rs m ≡ Some q → slice_get rs n ≡ Some r
    → AreOneOrApart q r

-- each set of each input is that of a region pair
abbrev pub AreOfPairs : List (List Cells) → List Pairing → Type 0
AreOfPairs sets rs = (i n : ℕ) (s : Cells) → slice_get (sets_of sets i) n ≡ Some s
    → (m : ℕ) × (r : Pairing) × (slice_get rs m ≡ Some r) × (set_of r i ≡ s)
