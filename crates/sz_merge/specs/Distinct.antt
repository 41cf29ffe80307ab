-- Region pairs that are the kinds of lineage.
use Rattle.std.specs.Prelude.{◌≡◌, ◌≢◌, ℕ, List, [], map, true, false, All, Some}
use Rattle.std.specs.List.{slice_get}
use Rattle.sz_cells.specs.declared.Cell.{Cell}
use Rattle.sz_cells.specs.Cells.{has}
use Rattle.sz_frame.specs.Parts.{Pairing}
use Rattle.sz_tables.specs.Tables.{AreDifferent}
use Rattle.sz_merge.specs.Lineages.{is_nothing}

-- a region pair has an output cell, and an input cell
pub record HasBothSides (r : Pairing) : Type 0 where
  pub out : r.out.indexes ≢ []
  pub ins : is_nothing r.ins ≡ false

-- Region pairs that are the kinds of lineage, each of them once: no two have the same input sets,
-- no output cell is in two, and none is empty on either side.
pub record AreKinds (rs : List Pairing) : Type 0 where
  pub different : AreDifferent (map (λ r. r.ins) rs)
  pub apart : (m n : ℕ) (a b : Pairing) (o : Cell) → slice_get rs m ≡ Some a
      → slice_get rs n ≡ Some b → has a.out o ≡ true → has b.out o ≡ true → m ≡ n
  pub sides : All HasBothSides rs
