-- What is known of region pairs that are kinds so far, one after another.
use Rattle.std.specs.Prelude.{◌≡◌, ◌≢◌, ℕ, List, [], ◌∷◌, ◌++◌, map, true, false, All, Some}
use Rattle.std.specs.List.{list_any, slice_get}
use Rattle.sz_cells.specs.declared.Cell.{Cell}
use Rattle.sz_cells.specs.Cells.{Cells, has}
use Rattle.sz_frame.specs.Parts.{Pairing}
use Rattle.sz_frame.specs.Stands.{set_of}
use Rattle.sz_merge.specs.Distinct.{HasBothSides}

-- no output cell is in two of the region pairs
abbrev pub ArePairsApart : List Pairing → Type 0
ArePairsApart rs = (m n : ℕ) (a b : Pairing) (o : Cell) → slice_get rs m ≡ Some a
    → slice_get rs n ≡ Some b → has a.out o ≡ true → has b.out o ≡ true → m ≡ n

-- Neither the output set nor the input set is empty, no cell of the output set was seen, and all
-- are seen now. The input set is none of the known ones, and is known now.
pub record IsFurther (out set before after : Cells) (known more : List Cells) : Type 0 where
  pub some_out : out.indexes ≢ []
  pub some_set : set.indexes ≢ []
  pub apart : (o : Cell) → has out o ≡ true → has before o ≡ false
  pub shape : after.extent ≡ before.extent
  pub seen : (o : Cell) → has before o ≡ true → has after o ≡ true
  pub added : (o : Cell) → has out o ≡ true → has after o ≡ true
  pub named : more ≡ known ++ set ∷ []

-- No output cell is in two of the region pairs and none is empty on either side; all their output
-- cells are seen, and their sets of input i are known, in their order.
pub record AreSeen (i : ℕ) (rs : List Pairing) (seen : Cells) (known : List Cells) : Type 0 where
  pub sides : All HasBothSides rs
  pub apart : ArePairsApart rs
  pub all_seen : (o : Cell) → list_any (λ r. has r.out o) rs ≡ true → has seen o ≡ true
  pub named : known ≡ map (λ r. set_of r i) rs
