-- What a session holds: arrays and flows by name, and versions by number.
use Rattle.std.specs.Prelude.{ℕ, ◌+◌, ◌-◌, List, [], ◌∷◌, map, sum_by, filter, Bool, false}
use Rattle.std.specs.Prelude.{nat_lt, max}
use Rattle.std.specs.Prelude.{if◌then◌else◌, Option, None, unwrap_or}
use Rattle.std.specs.List.{slice_get}
use Rattle.std.specs.Result.{result_unwrap_or}
use Rattle.std.specs.Str.{bytes_eq}
use Rattle.std.specs.Ordering.{nat_cmp}
use Rattle.std.specs.Cmp.Lexicographic.{slice_cmp}
use Rattle.std.specs.Map.{lookup, keys_of, values_of}
use Rattle.std.specs.BTreeMap.{is_at}
use Rattle.sz_cells.specs.Extent.{Extent, size_of}
use Rattle.sz_spec.specs.declared.modes.Strategy.{Strategy}
use Rattle.sz_spec.specs.Values.{Grid}
use Rattle.sz_spec.specs.Flows.{Graph}
use Rattle.sz_spec.specs.FlowShapes.{output_shapes}

-- a thing under a name
pub record Named (X : Type 0) : Type 0 where
  pub name : List ℕ
  pub thing : X

-- a flow that is held: its graph, and for each node the strategies that a version started from now
-- on has
pub record Workflow : Type 0 where
  pub graph : Graph
  pub lists : List (List Strategy)

-- a base array of a version: under which name and version it is held, and the array
pub record Base : Type 0 where
  pub name : List ℕ
  pub version : ℕ
  pub array : Grid

-- a run of a flow over base arrays: the flow's name, the flow, its base arrays, the strategies of
-- each node as they were at the start, and whether the version was awaited
pub record Version : Type 0 where
  pub flow_name : List ℕ
  pub flow : Graph
  pub base : List Base
  pub lists : List (List Strategy)
  pub awaited : Bool

-- arrays in the order in which they came, flows in the order of their names, each with its name
-- before it, versions in the order of their numbers, each with its number before it, and the
-- numbers of the versions whose merge was asked
pub record Holdings : Type 0 where
  pub arrays : List (Named Grid)
  pub flows : List (List ℕ × Workflow)
  pub versions : List (ℕ × Version)
  pub merges : List ℕ

-- the catalogue that holds nothing
abbrev pub no_holdings : Holdings
no_holdings = record { arrays = []; flows = []; versions = []; merges = [] }

-- ---- what is held under a name or a number

-- the things of a name, in the order in which they came
abbrev pub things_named : {X : Type 0} → List ℕ → List (Named X) → List X
things_named name xs = map (λ x. x.thing) (filter (λ x. bytes_eq name x.name) xs)

-- the element of a number, from 1
abbrev pub thing_numbered : {X : Type 0} → ℕ → List X → Option X
thing_numbered n xs = if nat_lt 0 n then slice_get xs (n - 1) else None

-- version n of the array of a name: the n-th that came under it
abbrev pub array_version : Holdings → List ℕ → ℕ → Option Grid
array_version c name n = thing_numbered n (things_named name c.arrays)

-- the flow of a name
abbrev pub flow_named : Holdings → List ℕ → Option Workflow
flow_named c name = lookup (is_at (slice_cmp nat_cmp name)) c.flows

-- the version of a number
abbrev pub version_numbered : Holdings → ℕ → Option Version
version_numbered c n = lookup (is_at (nat_cmp n)) c.versions

-- what stands where no flow, and no version, is held
abbrev pub no_workflow : Workflow
no_workflow = record { graph = record { inputs = 0; nodes = [] }; lists = [] }

abbrev pub no_version : Version
no_version = record {
  flow_name = [];
  flow = record { inputs = 0; nodes = [] };
  base = [];
  lists = [];
  awaited = false;
}

-- the flow of a name among flows, and one of no node where there is none
abbrev pub workflow_in : List (List ℕ × Workflow) → List ℕ → Workflow
workflow_in flows name = unwrap_or (lookup (is_at (slice_cmp nat_cmp name)) flows) no_workflow

-- the greatest of some numbers, 0 where there is none
abbrev pub greatest : List ℕ → ℕ
greatest [] = 0
greatest (n ∷ ns) = max n (greatest ns)

-- the number of the version that is started next: 1 plus the greatest held
abbrev pub next_number : Holdings → ℕ
next_number c = greatest (keys_of c.versions) + 1

-- ---- cells

-- the arrays, and the shapes, of base arrays
abbrev pub arrays_of : List Base → List Grid
arrays_of base = map (λ b. b.array) base

abbrev pub shapes_of : List Base → List Extent
shapes_of base = map (λ b. b.array.extent) base

-- the shapes of the outputs of a flow's nodes over base arrays
abbrev pub outputs_over : Graph → List Base → List Extent
outputs_over flow base = result_unwrap_or (output_shapes flow (shapes_of base)) []

-- how many cells some shapes have together
abbrev pub cells_of : List Extent → ℕ
cells_of shapes = sum_by size_of shapes

-- how many cells the outputs of a version have
abbrev pub output_cells : Version → ℕ
output_cells v = cells_of (outputs_over v.flow v.base)

-- the cells held: those of all arrays, and of the outputs of all nodes of all versions
abbrev pub held_cells : Holdings → ℕ
held_cells c =
    sum_by (λ (x : Named Grid). size_of x.thing.extent) c.arrays
    + sum_by output_cells (values_of c.versions)
