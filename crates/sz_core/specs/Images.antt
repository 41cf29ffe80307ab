-- The relation that pairs say, and the images of sets of cells under it.
use Rattle.std.specs.Prelude.{ℕ, List, [], ◌∷◌, Bool, ◌&&◌, ◌==◌}
use Rattle.std.specs.List.{list_any}
use Rattle.sz_cells.specs.declared.Cell.{Cell}
use Rattle.sz_cells.specs.Extent.{Extent, index_of}
use Rattle.sz_cells.specs.Cells.{Cells}
use Rattle.sz_spec.specs.declared.modes.Dir.{Dir}
use Rattle.sz_spec.specs.Paths.{Step}
use Rattle.sz_spec.specs.Sides.{image_between}
use Rattle.sz_spec.specs.Values.{extent_at}
use Rattle.sz_core.specs.declared.pairs.Pair.{Pair}
use Rattle.sz_core.specs.States.{Shelf, shelf_at, whole_pairs}

-- some pair says that output cell o is related to cell x of an input; `out` and `taken` are the
-- shapes of the two
abbrev pub say : Extent → Extent → List Pair → ℕ → Cell → Cell → Bool
say out taken pairs input o x =
    list_any (λ p. (p.out == index_of out o) &&
    ((p.input == input) && (p.cell == index_of taken x))) pairs

-- the image of a set under what pairs say of input i
abbrev pub image_by : List Pair → Dir → Extent → List Extent → ℕ → Cells → Cells
image_by pairs dir out ins i set =
    image_between dir out ins i (say out (extent_at ins i) pairs i) set

-- the image of a set under all pairs of a shelf
abbrev pub image_on : Dir → Shelf → ℕ → Cells → Cells
image_on dir x i set = image_by (whole_pairs x) dir x.out x.ins i set

-- a set taken along a path, through the image under all pairs of each step's shelf, one after the
-- other
abbrev pub compose_pairs : Dir → List Shelf → List Step → Cells → Cells
compose_pairs dir shelves [] set = set
compose_pairs dir shelves (s ∷ path) set =
    compose_pairs dir shelves path (image_on dir (shelf_at shelves s.node) s.input set)
