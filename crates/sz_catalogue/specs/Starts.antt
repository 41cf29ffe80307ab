-- What a start begins with, and where a path starts.
use Rattle.std.specs.Prelude.{ℕ, List, [], ◌∷◌, map, false, option_map}
use Rattle.std.specs.Prelude.{if◌then◌else◌, Option, unwrap_or}
use Rattle.std.specs.List.{slice_get, filter_map}
use Rattle.sz_cells.specs.declared.Cell.{Cell}
use Rattle.sz_cells.specs.Extent.{Extent, cell_in}
use Rattle.sz_spec.specs.declared.flow.Node.{Node}
use Rattle.sz_spec.specs.declared.modes.Dir.{Dir}
use Rattle.sz_spec.specs.declared.modes.Dir.TheVariants.{Back, Forward}
use Rattle.sz_spec.specs.declared.modes.Strategy.{Strategy}
use Rattle.sz_spec.specs.declared.modes.Strategy.TheVariants as strategy
use Rattle.sz_spec.specs.Values.{extent_at, no_extent}
use Rattle.sz_spec.specs.Modes.{has_mapping}
use Rattle.sz_spec.specs.Flows.{Graph}
use Rattle.sz_spec.specs.FlowShapes.{node_inputs}
use Rattle.sz_spec.specs.Paths.{Step}
use Rattle.sz_script.specs.declared.command.BaseName.{BaseName}
use Rattle.sz_script.specs.declared.command.NamedCell.{NamedCell}
use Rattle.sz_catalogue.specs.Holdings.{Workflow, Base, Version, Holdings, array_version}
use Rattle.sz_catalogue.specs.Holdings.{flow_named, no_workflow, shapes_of, outputs_over}

-- ---- flows, and the versions that are started of them

-- the strategies of a node until some are set: Map where its operator has a mapping of cells, or
-- else black box
abbrev pub first_list : Node → List Strategy
first_list x = (if has_mapping x.op then strategy.Map else strategy.BlackBox) ∷ []

abbrev pub first_lists : Graph → List (List Strategy)
first_lists flow = map first_list flow.nodes

-- the flow of a name as it is held, and one of no node where it is not
abbrev pub workflow_of : Holdings → List ℕ → Workflow
workflow_of c name = unwrap_or (flow_named c name) no_workflow

-- the base arrays of these names and versions that are held
abbrev pub base_of : Holdings → BaseName → Option Base
base_of c b =
    option_map (λ g. record { name = b.name; version = b.version; array = g })
    (array_version c b.name b.version)

abbrev pub bases_of : Holdings → List BaseName → List Base
bases_of c names = filter_map (base_of c) names

-- the version that a start makes
abbrev pub version_started : Holdings → List ℕ → List BaseName → Version
version_started c name names = record {
  flow_name = name;
  flow = (workflow_of c name).graph;
  base = bases_of c names;
  lists = (workflow_of c name).lists;
  awaited = false;
}

-- ---- paths

-- the shapes of the outputs of a version's nodes, and of the arrays that one of its nodes takes
abbrev pub outputs_of : Version → List Extent
outputs_of v = outputs_over v.flow v.base

abbrev pub inputs_of : Version → ℕ → List Extent
inputs_of v n =
    let inputs = node_inputs (shapes_of v.base) (outputs_of v) in
    unwrap_or (option_map inputs (slice_get v.flow.nodes n)) []

-- the shape in which a step starts: backward, of its node's output; forward, of its input
abbrev pub step_start : Dir → Version → Step → Extent
step_start Back v s = extent_at (outputs_of v) s.node
step_start Forward v s = extent_at (inputs_of v s.node) s.input

-- the shape in which a path starts: that of its first step
abbrev pub path_start : Dir → Version → List Step → Extent
path_start dir v [] = no_extent
path_start dir v (s ∷ path) = step_start dir v s

-- the cell that is named, in a shape
abbrev pub cell_named : Extent → NamedCell → Cell
cell_named e x = cell_in e x.layer x.row x.col
