-- The bitmaps that the steps of a path are written into, as they are at first, and those that are
-- kept for them.
use Rattle.std.specs.Prelude.{◌≡◌, ℕ, List, [], ◌∷◌}
use Rattle.sz_cells.specs.Cells.{Cells, no_cells}
use Rattle.sz_spec.specs.declared.modes.Dir.{Dir}
use Rattle.sz_spec.specs.Sides.{far_side}
use Rattle.sz_query.specs.Views.{View, view_site}

-- for each step an empty set, of the shape to which it leads
abbrev pub empty_sides : Dir → List View → List ℕ → List Cells
empty_sides dir [] inputs = []
empty_sides dir (v ∷ views) [] = []
empty_sides dir (v ∷ views) (i ∷ inputs) =
    no_cells (far_side dir (view_site v) i) ∷ empty_sides dir views inputs

-- a bitmap as it is kept: without a cell
abbrev pub IsClear : Cells → Type 0
IsClear set = set ≡ no_cells set.extent
