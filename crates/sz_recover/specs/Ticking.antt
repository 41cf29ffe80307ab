-- What is ticked of a store, piece by piece.
use Rattle.std.specs.Prelude.{◌≡◌, ℕ, [], ◌∷◌}
use Rattle.sz_spec.specs.declared.modes.Strategy.{Strategy}
use Rattle.sz_frame.specs.Parts.{Parts}
use Rattle.sz_frame.specs.Fits.{Fits}
use Rattle.sz_frame.specs.Images.{measure_of}
use Rattle.sz_flow.specs.Executions.{Execution}
use Rattle.sz_store.specs.Kept.{Holding, with_part}
use Rattle.sz_store.specs.Checklists.{table_in, kept_in, ticked_in, emptied}
use Rattle.sz_store.specs.declared.checklist.StoreChecklist.{StoreChecklist}
use Rattle.sz_recover.specs.declared.ticking.PieceTicks.{PieceTicks}
use Rattle.sz_recover.specs.declared.ticking.Told.TheVariants.{Ticked}

-- a lineage of piece k was ticked, beside what was ticked before
pub record IsTicked (e : Execution) (t : Strategy) (k : ℕ) (old new : Holding) : Type 0 where
  pub lineage : Parts
  pub piece : lineage.piece ≡ k
  pub fits : Fits (measure_of e.site e.inputs) (t ∷ []) k lineage
  pub more : new ≡ with_part lineage old

-- a checklist of the same store, of which nothing is ticked
pub record IsFork (list : StoreChecklist) (p : PieceTicks) : Type 0 where
  pub table : table_in p.list ≡ table_in list
  pub none : ticked_in p.list ≡ emptied (kept_in list)

-- a checklist of the same store, of which piece k is ticked where it says so, and nothing else
pub record AreTicksOf (e : Execution) (t : Strategy) (list : StoreChecklist) (k : ℕ) (p : PieceTicks) : Type 0 where
  pub table : table_in p.list ≡ table_in list
  pub ticked : p.told ≡ Ticked → IsTicked e t k (emptied (kept_in list)) (ticked_in p.list)
