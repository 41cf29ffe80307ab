-- What a trail gives for a path: the view of each step's node, one after the other.
use Rattle.std.specs.Prelude.{◌≡◌, ℕ, List, [], ◌∷◌, map, length, unwrap_or, All}
use Rattle.std.specs.List.{slice_get}
use Rattle.sz_cells.specs.Cells.{named_in}
use Rattle.sz_spec.specs.declared.op.Op.TheVariants as op
use Rattle.sz_spec.specs.declared.modes.Dir.{Dir}
use Rattle.sz_spec.specs.Paths.{Step}
use Rattle.sz_flow.specs.Executions.{Execution, execution}
use Rattle.sz_script.specs.declared.command.NamedCell.{NamedCell}
use Rattle.sz_query.specs.Views.{View}
use Rattle.sz_catalogue.specs.Holdings.{Version}
use Rattle.sz_catalogue.specs.Starts.{path_start, cell_named}
use Rattle.sz_catalogue.specs.Changes.{way_of}
use Rattle.sz_versions.specs.Runs.{executions_of}
use Rattle.sz_versions.specs.Stores.{Keeping, nothing, Trail, IsOwn}
use Rattle.sz_versions.specs.Views.{view_by}
use Rattle.sz_versions.specs.Lending.{once_asked}
use Rattle.sz_versions.specs.Searches.{Search}

-- the execution of a node, and some execution where there is no such node; and what is kept of it
abbrev pub execution_in : Trail → ℕ → Execution
execution_in t n = unwrap_or (slice_get t.executions n) (execution op.Neg [])

abbrev pub kept_in : Trail → ℕ → Keeping
kept_in t n = unwrap_or (slice_get t.kept n) nothing

-- the view of a step: that of the execution of its node, with what is kept of it, for the way of
-- the step
abbrev pub view_in : Version → Dir → Trail → Step → View
view_in v dir t s = view_by (way_of v dir s) (execution_in t s.node) (kept_in t s.node)

-- those of a path: each is made of what the one before it left
abbrev pub views_along : Version → Dir → List Step → Trail → List View
views_along v dir [] t = []
views_along v dir (s ∷ path) t = view_in v dir t s ∷ views_along v dir path (once_asked v dir s t)

-- what is asked along a path by them, from some named cells
abbrev pub search_along : Version → Dir → List Step → List NamedCell → Trail → Search
search_along v dir path named t =
    let start = path_start dir v path in
    record {
      dir = dir;
      views = views_along v dir path t;
      inputs = map (λ (s : Step). s.input) path;
      start = named_in start (map (cell_named start) named);
    }

-- The executions are the version's, something is kept of each, and each pass is of its shelf:
-- whether the version was started here, or a log gave it.
pub record IsTrailFor (v : Version) (t : Trail) : Type 0 where
  pub executions : t.executions ≡ executions_of v
  pub long : length t.kept ≡ length (executions_of v)
  pub own : All IsOwn t.kept
