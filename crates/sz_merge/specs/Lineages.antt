-- What stands behind an output cell: of each input a set of its cells.
use Rattle.std.specs.Prelude.{◌≡◌, ℕ, ◌==◌, List, [], ◌∷◌, map, length, Bool, false, unwrap_or, Some}
use Rattle.std.specs.List.{range_with_len, list_all, flat_map, slice_get}
use Rattle.sz_cells.specs.declared.Cell.{Cell}
use Rattle.sz_cells.specs.Extent.{Extent}
use Rattle.sz_cells.specs.Cells.{Cells, cells_where, union_of}
use Rattle.sz_cells.specs.SetBytes.{set_bytes}
use Rattle.sz_spec.specs.Values.{extent_at}
use Rattle.sz_frame.specs.Parts.{Pairing}
use Rattle.sz_frame.specs.Stands.{full_stands}
use Rattle.sz_tables.specs.Rows.{set_at}

-- of each input the cells that pass the test of that input
abbrev pub sets_where : List Extent → (ℕ → Cell → Bool) → List Cells
sets_where ins test =
    map (λ i. cells_where (extent_at ins i) (test i)) (range_with_len 0 (length ins))

-- of each input no cell
abbrev pub nothing : List Extent → List Cells
nothing ins = sets_where ins (λ i x. false)

-- what stands behind output cell o by some region pairs
abbrev pub behind : List Extent → List Pairing → Cell → List Cells
behind ins rs o = sets_where ins (λ i x. full_stands rs i o x)

-- of each input the cells of either lineage
abbrev pub joined : List Cells → List Cells → List Cells
joined a b = map (λ i. union_of (set_at a i) (set_at b i)) (range_with_len 0 (length a))

-- it has no cell of any input
abbrev pub is_nothing : List Cells → Bool
is_nothing sets = list_all (λ (s : Cells). length s.indexes == 0) sets

-- the bytes of its sets, one after another
abbrev pub spelling : List Cells → List ℕ
spelling sets = flat_map set_bytes sets

-- lineages over inputs of these shapes, in the order of their numbers
pub record Lineages : Type 0 where
  pub ins : List Extent
  pub lists : List (List Cells)

-- the lineage of a number
abbrev pub list_at : List (List Cells) → ℕ → List Cells
list_at lists n = unwrap_or (slice_get lists n) []

-- what has a number keeps it
abbrev pub KeepsNumbers : {X : Type 0} → List X → List X → Type 0
KeepsNumbers {X} old new = (n : ℕ) (x : X) → slice_get old n ≡ Some x → slice_get new n ≡ Some x

-- the lineages of one input: that of no cell, and behind it one of each of these sets alone
abbrev pub lists_of : List Extent → List Cells → List (List Cells)
lists_of ins sets = nothing ins ∷ map (λ s. s ∷ []) sets
