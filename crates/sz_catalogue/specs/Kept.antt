-- What is kept true of what a session holds.
use Rattle.std.specs.Prelude.{◌≡◌, ℕ, ◌≤◌, List, [], map, length, String, Vec, Bool, true, false}
use Rattle.std.specs.Prelude.{not, ◌&&◌, Option, Some, None, Result, Ok, Err, if◌then◌else◌}
use Rattle.std.specs.Prelude.{string_bytes}
use Rattle.std.specs.List.{list_all}
use Rattle.std.specs.Option.{option_map_or}
use Rattle.std.specs.Arc.{arc_value}
use Rattle.std.specs.declared.sync.Arc.{Arc}
use Rattle.std.specs.BTreeMap.{BTreeMap, get_by_text}
use Rattle.sz_cells.specs.Extent.{Extent}
use Rattle.sz_spec.specs.Flows.{is_well_formed}
use Rattle.sz_script.specs.declared.command.NewCell.{NewCell}
use Rattle.sz_script.specs.declared.refusal.Refusal.{Refusal}
use Rattle.sz_script.specs.declared.refusal.Refusal.TheVariants as refusal
use Rattle.sz_spec.specs.FlowShapes.{output_shapes}
use Rattle.sz_catalogue.specs.Holdings.{Named, Workflow, Version, Holdings, things_named, shapes_of}
use Rattle.sz_catalogue.specs.Holdings.{held_cells, cells_of}
use Rattle.sz_catalogue.specs.Rules.{most_arrays, most_cells, are_lists_for}
use Rattle.sz_catalogue.specs.Rules.{has_no_room_for_outputs}
use Rattle.sz_catalogue.specs.Refreshes.{has_input, base_at, has_new_cell}

-- what an index has under a name
abbrev pub versions_in : {X Y Z W : Type 0} → BTreeMap (String Y) (Vec (Arc X Z) W) → List ℕ
    → List X
versions_in index q = map (λ a. arc_value a) (option_map_or (λ v. v.items) (get_by_text index q) [])

-- the index has under each name the things of that name, in their order
pub record IsVersionIndex {X Y Z W : Type 0} (index : BTreeMap (String Y) (Vec (Arc X Z) W))
    (xs : List (Named X)) : Type 0 where
  pub each : (q : List ℕ) → versions_in index q ≡ things_named q xs

-- entries by the bytes of their texts
abbrev pub by_bytes : {X Y : Type 0} → List (String Y × X) → List (List ℕ × X)
by_bytes {X} {Y} entries = map (λ (e : String Y × X). (string_bytes e.0, e.1)) entries

-- a flow is well formed, and each of its nodes has a list of strategies for it
pub record IsWorkflow (w : Workflow) : Type 0 where
  pub right : is_well_formed w.graph ≡ true
  pub lists : are_lists_for w.graph.nodes w.lists ≡ true

-- a version is of a flow that is well formed, on as many base arrays as it takes, between which and
-- its outputs, of these shapes, all shapes fit, and each node has a list of strategies for it
pub record IsRun (v : Version) (outputs : List Extent) : Type 0 where
  pub right : is_well_formed v.flow ≡ true
  pub count : length v.base ≡ v.flow.inputs
  pub fits : output_shapes v.flow (shapes_of v.base) ≡ Ok outputs
  pub lists : are_lists_for v.flow.nodes v.lists ≡ true

-- the count of the cells is that of the cells held, and no limit is passed
pub record KeepsLimits (cells : ℕ) (c : Holdings) : Type 0 where
  pub counted : cells ≡ held_cells c
  pub few_cells : cells ≤ most_cells
  pub few_arrays : length c.arrays ≤ most_arrays

-- what refuses a start of which these shapes of outputs, or a first broken node, are found
abbrev pub refusal_by : Holdings → Result (List Extent) ℕ → Option Refusal
refusal_by c (Err n) = Some (refusal.ShapesDoNotFit n)
refusal_by c (Ok outputs) =
    if has_no_room_for_outputs c (cells_of outputs) then Some refusal.NoRoomForVersion else None

-- what refuses to set cells of an input of a version that is held, once there is room for it
abbrev pub refusal_on_version : Version → ℕ → List NewCell → Option Refusal
refusal_on_version v i set =
    if has_input v i && not (list_all (has_new_cell (base_at v i).array.extent) set)
    then Some refusal.OutOfRange
    else if not v.awaited then Some refusal.StillBuilt
    else if not (has_input v i) then Some refusal.NoSuchInput else None

-- the rule of room for a version, which is one of a start and none of a plan
abbrev pub is_of_room : Refusal → Bool
is_of_room refusal.NoRoomForVersion = true
is_of_room _ = false

-- nothing refuses a start, but want of room
abbrev pub is_open : Option Refusal → Bool
is_open None = true
is_open (Some rule) = is_of_room rule
