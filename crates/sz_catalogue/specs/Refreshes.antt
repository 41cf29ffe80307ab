-- What a refresh makes: an array with some cells set, and a version on it.
use Rattle.std.specs.Prelude.{ℕ, ◌+◌, List, [], map, length, fold, slice_set, Bool, false, nat_lt}
use Rattle.std.specs.Prelude.{unwrap_or}
use Rattle.std.specs.List.{slice_get, list_all}
use Rattle.sz_cells.specs.Extent.{Extent, index_of, cell_in, is_place}
use Rattle.sz_cells.specs.Cells.{Cells, named_in}
use Rattle.sz_spec.specs.Values.{Grid, no_grid}
use Rattle.sz_spec.specs.Affected.{affected, cells_in}
use Rattle.sz_script.specs.declared.command.NewCell.{NewCell}
use Rattle.sz_catalogue.specs.Holdings.{Base, Version, Holdings, things_named, arrays_of}

-- the base array of an input, and one of no cell where there is no such input
abbrev pub no_base : Base
no_base = record { name = []; version = 0; array = no_grid }

abbrev pub base_at : Version → ℕ → Base
base_at v i = unwrap_or (slice_get v.base i) no_base

-- the version has this input
abbrev pub has_input : Version → ℕ → Bool
has_input v i = nat_lt i (length v.base)

-- ---- the array

-- the array has the cell that is set
abbrev pub has_new_cell : Extent → NewCell → Bool
has_new_cell e x = is_place e x.layer x.row x.col

-- an array with one cell set, and with some, one after another: of a cell that is named twice the
-- last stands
abbrev pub with_cell : Grid → NewCell → Grid
with_cell g x = record g {
  values = slice_set g.values (index_of g.extent (cell_in g.extent x.layer x.row x.col)) x.value;
}

abbrev pub with_cells : Grid → List NewCell → Grid
with_cells g set = fold with_cell g set

-- the cells that are set
abbrev pub cells_set : Extent → List NewCell → Cells
cells_set e set = named_in e (map (λ (x : NewCell). cell_in e x.layer x.row x.col) set)

-- ---- the version

-- an array as the next version of the name that the base array of an input has
abbrev pub base_on : Holdings → Version → ℕ → Grid → Base
base_on c v i array = let b = base_at v i in record {
  name = b.name;
  version = length (things_named b.name c.arrays) + 1;
  array = array;
}

-- a version with it in that input's place
abbrev pub version_on : Holdings → Version → ℕ → Grid → Version
version_on c v i array = record v {
  base = slice_set v.base i (base_on c v i array);
  awaited = false;
}

-- the base array of an input with some cells set
abbrev pub array_refreshed : Version → ℕ → List NewCell → Grid
array_refreshed v i set = with_cells (base_at v i).array set

-- the version that a refresh makes
abbrev pub version_refreshed : Holdings → Version → ℕ → List NewCell → Version
version_refreshed c v i set = version_on c v i (array_refreshed v i set)

-- how many node cells are computed again: those that a set cell reaches, by the old arrays or by
-- the new ones
abbrev pub cells_affected : Holdings → Version → ℕ → List NewCell → ℕ
cells_affected c v i set =
    cells_in (affected v.flow (arrays_of v.base) (arrays_of (version_refreshed c v i set).base) i
    (cells_set (base_at v i).array.extent set))
