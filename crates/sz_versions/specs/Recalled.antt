-- What is answered on a version that a log gave, by the stores that the log had of it: one element
-- a node, and its stores are there where its list has a strategy that keeps one.
--
-- They are read from bytes, so a store need not stand for the relation. Along a path the answer is
-- the composition, step by step, of what the store of the step's way stands for where the way keeps
-- a store, and of the operator's relation where it is the mapping or black box.
use Rattle.std.specs.Prelude.{◌≡◌, ℕ, List, [], map, true, Option, Some, None, unwrap_or, ⊤}
use Rattle.std.specs.List.{All, slice_get}
use Rattle.sz_cells.specs.Cells.{Cells, named_in}
use Rattle.sz_spec.specs.declared.op.Op.TheVariants as op
use Rattle.sz_spec.specs.declared.modes.Dir.{Dir}
use Rattle.sz_spec.specs.Paths.{Step, is_joined}
use Rattle.sz_store.specs.Kept.{NodeLineage, stored_in}
use Rattle.sz_flow.specs.Executions.{Execution, execution}
use Rattle.sz_script.specs.declared.command.NamedCell.{NamedCell}
use Rattle.sz_query.specs.Views.{View}
use Rattle.sz_query.specs.Answers.{answered}
use Rattle.sz_catalogue.specs.Holdings.{Version}
use Rattle.sz_catalogue.specs.Starts.{path_start, cell_named}
use Rattle.sz_catalogue.specs.Changes.{way_of, cells_answered}
use Rattle.sz_bodies.specs.Fitting.{Fit}
use Rattle.sz_recover.specs.Soundness.{AreSoundNodes}
use Rattle.sz_versions.specs.Runs.{executions_of, IsSoundVersion}
use Rattle.sz_versions.specs.Stores.{keeping_from}
use Rattle.sz_versions.specs.Views.{view_by}
use Rattle.sz_versions.specs.Searches.{Search}

-- ---- the views of a path's steps

-- the execution of a node, and some execution where there is no such node
abbrev pub execution_at : Version → ℕ → Execution
execution_at v n = unwrap_or (slice_get (executions_of v) n) (execution op.Neg [])

-- the stores of a node, and none where there is no such node
abbrev pub stores_at : List (Option NodeLineage) → ℕ → Option NodeLineage
stores_at stores n = unwrap_or (slice_get stores n) None

-- the view of a step: that of the execution of its node, with the node's stores, for the way of the
-- step
abbrev pub recalled_view : Version → List (Option NodeLineage) → Dir → Step → View
recalled_view v stores dir s =
    view_by (way_of v dir s) (execution_at v s.node) (keeping_from (stores_at stores s.node))

-- ---- what is asked, and the answer

-- The cells of an ask: those that it names, taken through the view of each step of the path.
abbrev pub cells_recalled : Version → List (Option NodeLineage) → Dir → List Step
    → List NamedCell → Cells
cells_recalled v stores dir path named =
    let start = path_start dir v path in
    answered dir (map (recalled_view v stores dir) path) (map (λ (s : Step). s.input) path)
    (named_in start (map (cell_named start) named))

-- A search is that of a path of a version with stores that fit it, from some named cells: each view
-- is that of its step.
pub record IsRecallOf (v : Version) (stores : List (Option NodeLineage)) (dir : Dir)
    (path : List Step) (named : List NamedCell) (s : Search) : Type 0 where
  pub sound : IsSoundVersion v
  pub fit : Fit v stores
  pub joined : is_joined dir v.flow path ≡ true
  pub turned : s.dir ≡ dir
  pub views : s.views ≡ map (recalled_view v stores dir) path
  pub inputs : s.inputs ≡ map (λ (t : Step). t.input) path
  pub start : s.start
      ≡ named_in (path_start dir v path) (map (cell_named (path_start dir v path)) named)

-- ---- stores that stand for the relation

-- there is a store for each stored strategy of the list, in its order
abbrev pub HasEachStore : Option NodeLineage → Type 0
HasEachStore None = ⊤
HasEachStore (Some kept) = map (λ f. f.strategy) kept.stores ≡ stored_in kept.list

-- Where there are stores of each list, and each of them stands for the relation, what is answered
-- by them along a joined path is the composed relation.
abbrev pub SoundStoresAnswerTheRelation : Type 0
SoundStoresAnswerTheRelation = (v : Version) (stores : List (Option NodeLineage)) (dir : Dir)
    (path : List Step) (named : List NamedCell) → IsSoundVersion v → Fit v stores
    → All HasEachStore stores → AreSoundNodes (executions_of v) stores
    → is_joined dir v.flow path ≡ true
    → cells_recalled v stores dir path named ≡ cells_answered v dir path named
