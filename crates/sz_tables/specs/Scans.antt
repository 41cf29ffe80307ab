-- What region pairs add to the image of a set of cells, by the two sides of a look: backward it
-- goes from their output sets to those of an input, forward from these to their output sets.
use Rattle.std.specs.Prelude.{◌≡◌, ℕ, List, Bool, true, ◌&&◌, IfSome}
use Rattle.std.specs.List.{list_any}
use Rattle.sz_cells.specs.declared.Cell.{Cell}
use Rattle.sz_cells.specs.Extent.{holds}
use Rattle.sz_cells.specs.Cells.{Cells, any_cell, has}
use Rattle.sz_spec.specs.declared.modes.Dir.{Dir}
use Rattle.sz_spec.specs.declared.modes.Dir.TheVariants.{Back, Forward}
use Rattle.sz_frame.specs.Parts.{Pairing}
use Rattle.sz_frame.specs.Stands.{set_of}
use Rattle.sz_tables.specs.Rows.{Row, RowTable, number_in, set_at, sets_of}
use Rattle.sz_tables.specs.Rows.{row_at, pairing_of}
use Rattle.sz_tables.specs.declared.scans.Seen.{Seen}

-- the set of a region pair from which a look starts, and the set to which it leads
abbrev pub near_set : Dir → ℕ → Pairing → Cells
near_set Back i r = r.out
near_set Forward i r = set_of r i

abbrev pub far_set : Dir → ℕ → Pairing → Cells
far_set Back i r = set_of r i
far_set Forward i r = r.out

-- a region pair adds x: its near set has some asked cell, and x is in its far set
abbrev pub pair_adds : Dir → ℕ → Cells → Pairing → Cell → Bool
pair_adds dir i from r x = any_cell (has (near_set dir i r)) from && has (far_set dir i r) x

-- some region pair adds x
abbrev pub pairs_add : Dir → ℕ → Cells → List Pairing → Cell → Bool
pairs_add dir i from rs x = list_any (λ r. pair_adds dir i from r x) rs

-- the sets of a table from which a look starts, and those to which it leads
abbrev pub near_sets : Dir → ℕ → RowTable → List Cells
near_sets Back i t = t.outs
near_sets Forward i t = sets_of t.sets i

abbrev pub far_sets : Dir → ℕ → RowTable → List Cells
far_sets Back i t = sets_of t.sets i
far_sets Forward i t = t.outs

-- the number of a row's near set, and that of its far set
abbrev pub near_number : Dir → ℕ → Row → ℕ
near_number Back i row = row.out
near_number Forward i row = number_in row i

abbrev pub far_number : Dir → ℕ → Row → ℕ
far_number Back i row = number_in row i
far_number Forward i row = row.out

-- the region pair of the row of a number
abbrev pub pairing_at : RowTable → ℕ → Pairing
pairing_at t n = pairing_of t.outs t.sets (row_at t.rows n)

-- What a look has seen is so: the set that it tested last has an asked cell or has none, as was
-- found, and every cell of the set that it added last is there.
pub record HasSeen (dir : Dir) (i : ℕ) (t : RowTable) (from to : Cells) (seen : Seen) : Type 0 where
  pub tested : IfSome seen.tested
      (λ s. s.meets ≡ any_cell (has (set_at (near_sets dir i t) s.number)) from)
  pub added : IfSome seen.added (λ n. (x : Cell) → holds to.extent x ≡ true
      → has (set_at (far_sets dir i t) n) x ≡ true → has to x ≡ true)
