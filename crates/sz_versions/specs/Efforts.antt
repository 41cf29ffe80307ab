-- How many cells are traced at most where a version is asked along a path.
use Rattle.std.specs.Prelude.{ℕ, List, sum_by, if◌then◌else◌}
use Rattle.sz_cells.specs.Extent.{size_of}
use Rattle.sz_spec.specs.declared.modes.Dir.{Dir}
use Rattle.sz_spec.specs.Values.{extent_at}
use Rattle.sz_spec.specs.Paths.{Step}
use Rattle.sz_catalogue.specs.Holdings.{Version}
use Rattle.sz_catalogue.specs.Starts.{outputs_of}
use Rattle.sz_catalogue.specs.Changes.{traced}

-- how many cells the outputs of the nodes of a path have together
abbrev pub sizes_along : Version → List Step → ℕ
sizes_along v path = sum_by (λ (s : Step). size_of (extent_at (outputs_of v) s.node)) path

-- How many cells may be told as traced along a path at most. Once the version is awaited it is the
-- outputs of the nodes whose way is black box; before, each node may be traced.
abbrev pub most_traced : Version → Dir → List Step → ℕ
most_traced v dir path = if v.awaited then traced v dir path else sizes_along v path
