-- What stays true of lineages by number: each has its word at the same number.
use Rattle.std.specs.Prelude.{◌≡◌, ℕ, List, map, true, All}
use Rattle.sz_cells.specs.Extent.{Extent, is_extent}
use Rattle.sz_cells.specs.Cells.{Cells}
use Rattle.sz_cells.specs.SetBytes.{IsSetOf}
use Rattle.sz_tables.specs.Tables.{AreDifferent}
use Rattle.sz_merge.specs.Lineages.{spelling}

-- one set for each input, of its shape
pub record AreSetsOver (ins : List Extent) (sets : List Cells) : Type 0 where
  pub extents : map (λ s. s.extent) sets ≡ ins
  pub right : All (λ s. IsSetOf s.extent s) sets

pub record AreSpelled (ins : List Extent) (lists : List (List Cells)) (words : List (List ℕ))
    : Type 0 where
  pub shapes : All (λ e. is_extent e ≡ true) ins
  pub each : All (AreSetsOver ins) lists
  pub spelled : words ≡ map spelling lists
  pub different : AreDifferent words
