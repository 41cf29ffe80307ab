-- The executions of a version, and what stays true of the flows and versions that a session holds.
use Rattle.std.specs.Prelude.{List, All}
use Rattle.std.specs.Map.{values_of}
use Rattle.sz_cells.specs.Extent.{Extent}
use Rattle.sz_flow.specs.Executions.{Execution, executions}
use Rattle.sz_catalogue.specs.Holdings.{Version, Holdings, arrays_of}
use Rattle.sz_catalogue.specs.Kept.{IsWorkflow, IsRun}

-- the executions of a version's nodes
abbrev pub executions_of : Version → List Execution
executions_of v = executions v.flow (arrays_of v.base)

-- a version that is held: its flow is well formed, on as many base arrays as it takes, no node's
-- shape rule is broken, and each node has a list of strategies for it
pub record IsSoundVersion (v : Version) : Type 0 where
  pub run : (outputs : List Extent) × IsRun v outputs

-- What is kept true of a session: the flows and the versions that are held are sound.
pub record AreSound (c : Holdings) : Type 0 where
  pub flows : All IsWorkflow (values_of c.flows)
  pub versions : All IsSoundVersion (values_of c.versions)
