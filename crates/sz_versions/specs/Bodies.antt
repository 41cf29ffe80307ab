-- The body that a log gets of a version, with the stores that the version's run has.
use Rattle.std.specs.Prelude.{ℕ, List, Option, Some, None}
use Rattle.sz_store.specs.Kept.{NodeLineage}
use Rattle.sz_catalogue.specs.Holdings.{Version}
use Rattle.sz_bodies.specs.Bodies.{IsBodyOf}
use Rattle.sz_bodies.specs.Fitting.{Fit, sites_of, body_of}
use Rattle.sz_recover.specs.Soundness.{AreSoundNodes}
use Rattle.sz_versions.specs.Runs.{executions_of}
use Rattle.sz_versions.specs.Stores.{Keeping, nothing, growing, whole, read}

-- the stores that were made of a node, where they are whole
abbrev pub store_in : Keeping → Option NodeLineage
store_in nothing = None
store_in (growing z p) = None
store_in (whole kept) = Some kept
store_in (read kept) = None

-- The bytes are the body of a version in a format, under its number, with stores of its nodes that
-- fit it, each of which stands for exactly the relation.
pub record IsSoundBody (format n : ℕ) (v : Version) (body : List ℕ) : Type 0 where
  pub stores : List (Option NodeLineage)
  pub fit : Fit v stores
  pub sound : AreSoundNodes (executions_of v) stores
  pub is : IsBodyOf format (sites_of v) (body_of n v stores) body
