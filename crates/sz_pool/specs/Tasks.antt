-- A task over calls of a worker.
use Rattle.std.specs.Prelude.{◌≡◌, ℕ, List}
use Rattle.std.specs.Arc.{arc_value}
use Rattle.sz_spec.specs.declared.modes.Strategy.{Strategy}
use Rattle.sz_flow.specs.declared.node_run.NodeRun.{NodeRun}
use Rattle.sz_claims.specs.Claims.{Pieces, Claimant}
use Rattle.sz_shelf.specs.Places.{ShelfPlace}
use Rattle.sz_shelf.specs.Passes.{Onlooker}
use Rattle.sz_pool.specs.declared.task.Task.{Task}

-- all of a task but its two passes is as it was
pub record IsSameTask (a b : Task) : Type 0 where
  pub version : b.version ≡ a.version
  pub node : b.node ≡ a.node
  pub at : arc_value b.at ≡ arc_value a.at
  pub inputs : b.inputs ≡ a.inputs
  pub aid : arc_value b.aid ≡ arc_value a.aid
  pub list : b.list ≡ a.list
  pub shelf : arc_value b.shelf ≡ arc_value a.shelf
  pub claims : arc_value b.claims ≡ arc_value a.claims

-- A task for a node of a version: it has the run's operator, arrays and what was prepared for them,
-- this list, this shelf and these claims, and these passes.
pub record IsTaskFor (version node : ℕ) (run : NodeRun) (list : List Strategy) (shelf : ShelfPlace)
    (pass : Onlooker) (claims : Pieces) (claimant : Claimant) (t : Task) : Type 0 where
  pub same_version : t.version ≡ version
  pub same_node : t.node ≡ node
  pub at : arc_value t.at ≡ arc_value run.at
  pub inputs : t.inputs ≡ run.inputs
  pub same_list : t.list ≡ list
  pub same_shelf : arc_value t.shelf ≡ shelf
  pub same_pass : t.pass ≡ pass
  pub same_claims : arc_value t.claims ≡ claims
  pub claim_pass : t.claim_pass ≡ claimant
