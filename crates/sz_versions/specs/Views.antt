-- How the steps of a path are answered: the view of each step's node.
use Rattle.std.specs.Prelude.{◌≡◌, List, [], Bool, Some, unwrap_or}
use Rattle.std.specs.List.{list_all, slice_get}
use Rattle.sz_spec.specs.declared.modes.Dir.{Dir}
use Rattle.sz_spec.specs.declared.modes.Strategy.{Strategy}
use Rattle.sz_spec.specs.declared.modes.Strategy.TheVariants as strategy
use Rattle.sz_spec.specs.Flows.{Graph}
use Rattle.sz_spec.specs.Paths.{Step, source_of, is_there}
use Rattle.sz_flow.specs.Executions.{Execution}
use Rattle.sz_shelf.specs.Passes.{split_off}
use Rattle.sz_query.specs.declared.used.Used.{Used}
use Rattle.sz_query.specs.declared.used.Used.TheVariants as used
use Rattle.sz_query.specs.Views.{View, by_map, by_trace, by_store, by_growth}
use Rattle.sz_catalogue.specs.Holdings.{Version}
use Rattle.sz_catalogue.specs.Changes.{way_of}
use Rattle.sz_versions.specs.Runs.{executions_of}
use Rattle.sz_versions.specs.Stores.{Keeping, nothing, growing, whole, read, IsKeptOf}

-- the view of an execution by what a strategy keeps: by its store, by its shelf while that grows,
-- and where there is none by a trace
abbrev pub view_kept : Strategy → Execution → Keeping → View
view_kept s e nothing = by_trace e.site e.inputs
view_kept s e (growing z p) = by_growth e.site e.inputs z (split_off p) s
view_kept s e (whole kept) = by_store e.site kept s
view_kept s e (read kept) = by_store e.site kept s

-- The view of an execution, with what is kept of it, for each way that a step can go.
abbrev pub view_by : Strategy → Execution → Keeping → View
view_by strategy.Map e kept = by_map e.site
view_by strategy.FullOneB e kept = view_kept strategy.FullOneB e kept
view_by strategy.FullOneF e kept = view_kept strategy.FullOneF e kept
view_by strategy.FullManyB e kept = view_kept strategy.FullManyB e kept
view_by strategy.FullManyF e kept = view_kept strategy.FullManyF e kept
view_by strategy.PayOne e kept = view_kept strategy.PayOne e kept
view_by strategy.PayMany e kept = view_kept strategy.PayMany e kept
view_by strategy.CompOne e kept = view_kept strategy.CompOne e kept
view_by strategy.CompMany e kept = view_kept strategy.CompMany e kept
view_by strategy.BlackBox e kept = by_trace e.site e.inputs

-- the list of a step's node, as it was when the version was started
abbrev pub list_of : Version → Step → List Strategy
list_of v s = unwrap_or (slice_get v.lists s.node) []

-- The view by which a step of a version that was started here is answered: that of the execution of
-- its node, with what is kept of it for the node's list, for the way of the step.
abbrev pub IsViewOf : Version → Dir → Step → View → Type 0
IsViewOf v dir s view =
    (e : Execution) × (slice_get (executions_of v) s.node ≡ Some e)
    × (kept : Keeping) × IsKeptOf v.awaited e (list_of v s) kept
    × (view ≡ view_by (way_of v dir s) e kept)

-- the strategy that is told for how a step went
abbrev pub strategy_told : Used → Strategy
strategy_told (used.By s) = s
strategy_told used.Traced = strategy.BlackBox

-- the flow has the node and the input of each step
abbrev pub are_there : Graph → List Step → Bool
are_there flow path = list_all (λ s. is_there (source_of flow s)) path
