-- What is true of all that is held.
use Rattle.std.specs.Prelude.{◌≡◌, ℕ, ◌<◌, ◌≤◌, ◌^◌, List, length, true, Some, All, option_map}
use Rattle.std.specs.Ordering.{nat_cmp}
use Rattle.std.specs.List.Sorted.{IsStrictlySortedBy}
use Rattle.std.specs.Map.{keys_of, values_of}
use Rattle.sz_cells.specs.Extent.{Extent}
use Rattle.sz_spec.specs.Values.{Grid}
use Rattle.sz_script.specs.Names.{is_name}
use Rattle.sz_catalogue.specs.Holdings.{Named, Workflow, Base, Version, Holdings, flow_named}
use Rattle.sz_catalogue.specs.Holdings.{array_version, held_cells}
use Rattle.sz_catalogue.specs.Rules.{most_cells, most_versions}
use Rattle.sz_catalogue.specs.Kept.{IsWorkflow, IsRun, KeepsLimits}

-- a version is a run of the flow and on the base arrays that are held under its names
pub record IsVersionIn (c : Holdings) (v : Version) : Type 0 where
  pub run : (outputs : List Extent) × IsRun v outputs
  pub flow : option_map (λ (w : Workflow). w.graph) (flow_named c v.flow_name) ≡ Some v.flow
  pub base : All (λ (b : Base). array_version c b.name b.version ≡ Some b.array) v.base

-- No limit is passed, each name is one, each flow is well formed with its lists of strategies, and
-- each version is one of what is held. The versions' numbers are 1 or more, of 32 bits, and rise.
pub record IsInOrder (c : Holdings) : Type 0 where
  pub few_cells : held_cells c ≤ most_cells
  pub few_versions : length c.versions ≤ most_versions
  pub array_names : All (λ (x : Named Grid). is_name x.name ≡ true) c.arrays
  pub flow_names : All (λ (name : List ℕ). is_name name ≡ true) (keys_of c.flows)
  pub workflows : All IsWorkflow (values_of c.flows)
  pub versions : All (IsVersionIn c) (values_of c.versions)
  pub numbers : All (λ (n : ℕ). 1 ≤ n) (keys_of c.versions)
  pub small : All (λ (n : ℕ). n < 2 ^ 32) (keys_of c.versions)
  pub rising : IsStrictlySortedBy nat_cmp (keys_of c.versions)

-- what a catalogue keeps true: its count of cells and its limits, and that all is in order
pub record IsKept (cells : ℕ) (c : Holdings) : Type 0 where
  pub limits : KeepsLimits cells c
  pub order : IsInOrder c
