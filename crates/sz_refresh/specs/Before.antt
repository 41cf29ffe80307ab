-- What a refresh starts from.
use Rattle.std.specs.Prelude.{◌≡◌, ℕ, List}
use Rattle.sz_cells.specs.Cells.{Cells}
use Rattle.sz_spec.specs.Values.{Grid, extents_of}
use Rattle.sz_spec.specs.Flows.{Graph}
use Rattle.sz_flow.specs.Executions.{Execution, executions}
use Rattle.sz_refresh.specs.Laws.{DifferAtMostIn}

-- the base arrays before: a flow was run over them, they have the shapes of the new ones, and they
-- differ from these at most in some cells of one of them
pub record IsBefore (flow : Graph) (old : List Execution) (base : List Grid) (input : ℕ)
    (changed : Cells) (before : List Grid) : Type 0 where
  pub run : old ≡ executions flow before
  pub shapes : extents_of before ≡ extents_of base
  pub same : DifferAtMostIn input changed before base
