-- What a command leaves true of a session.
--
-- The key idea: a command puts at most one flow or one version in, or changes one. What is put in is sound since no
-- rule refused the command.
use Rattle.std.proofs.Common.{◌≡◌, ℕ, ◌<◌, List, [], ◌∷◌, ◌++◌, if◌then◌else◌, length, Bool, true, false, not, refl}
use Rattle.std.proofs.Common.{sym, ap, ◌∙◌, subst, arith, Option, Some, None, unwrap_or, Ok, Err, eqb-true}
use Rattle.std.specs.Prelude.{All, Result, ◌^◌, ◌||◌, nat_lt, nat_le, is_none, is_some}
use Rattle.std.specs.Option.{IfSome, option_map}
use Rattle.std.specs.Result.{result_err}
use Rattle.std.specs.List.{list_all}
use Rattle.std.specs.Ordering.{nat_cmp}
use Rattle.std.specs.Cmp.Lexicographic.{slice_cmp}
use Rattle.std.specs.Map.{values_of}
use Rattle.std.specs.BTreeMap.{is_at}
use Rattle.std.proofs.lemmas.Bool.{and_parts}
use Rattle.std.proofs.lemmas.Bool.Decides.{nat_tests}
use Rattle.std.proofs.lemmas.Map.Views.{IfSome-lookup_from_All, All-values-set_value, All-values-insert_entry}
use Rattle.sz_cells.specs.Extent.{Extent}
use Rattle.sz_spec.specs.declared.modes.Strategy.{Strategy}
use Rattle.sz_spec.specs.Flows.{Graph, is_well_formed}
use Rattle.sz_spec.specs.FlowShapes.{output_shapes}
use Rattle.sz_script.specs.declared.command.BaseName.{BaseName}
use Rattle.sz_script.specs.declared.command.Command.{Command}
use Rattle.sz_script.specs.declared.command.Command.TheVariants as order
use Rattle.sz_script.specs.declared.refusal.Refusal.{Refusal}
use Rattle.sz_script.specs.declared.refusal.Refusal.TheVariants as refusal
use Rattle.sz_script.specs.Names.{is_name}
use Rattle.sz_script.specs.Right.{is_right, names_in, fault_in}
use Rattle.sz_catalogue.specs.Holdings.{Workflow, Version, Holdings, flow_named, version_numbered, no_workflow}
use Rattle.sz_catalogue.specs.Holdings.{no_version, next_number, shapes_of}
use Rattle.sz_catalogue.specs.Starts.{first_lists, workflow_of, bases_of, version_started}
use Rattle.sz_catalogue.specs.Rules as rules
use Rattle.sz_catalogue.specs.Rules.{judged, first_of, version_of}
use Rattle.sz_catalogue.specs.Kept.{IsWorkflow, IsRun}
use Rattle.sz_catalogue.specs.Changes.{accepted, with_flow, with_list, with_strategies, with_version}
use Rattle.sz_catalogue.specs.Changes.{with_await, changes_no_version}
use Rattle.sz_catalogue.specs.Merges.{with_merge, is_merge_asked}
use Rattle.sz_catalogue.proofs.NodeLists.{firsts-right, set-right}
use Rattle.sz_catalogue.proofs.Bases.{bases-length}
use Rattle.sz_versions.specs.Runs.{IsSoundVersion, AreSound}

-- ---- rules

-- where no rule refuses, the first does not hold, and none of the others refuses
pub rule-fails : (b : Bool) (r : Refusal) (rest : List (Bool × Refusal)) → first_of ((b, r) ∷ rest) ≡ None
    → (b ≡ false) × (first_of rest ≡ None)
rule-fails true r rest h = cc
rule-fails false r rest h = (refl, h)

pub not_false : (b : Bool) → not b ≡ false → b ≡ true
not_false true h = refl
not_false false h = cc

there-is : {X : Type 0} (o : Option X) → is_none o ≡ false → (x : X) × (o ≡ Some x)
there-is None h = cc
there-is (Some x) h = (x, refl)

-- ---- flows

-- a flow that is held is sound
pub flow-sound : (c : Holdings) (name : List ℕ) → All IsWorkflow (values_of c.flows)
    → rules.has_no_flow c name ≡ false → IsWorkflow (workflow_of c name)
flow-sound c name all held =
    let found = there-is (flow_named c name) held in
    let P : Option Workflow → Type 0 = λ o. IfSome o IsWorkflow in
    let sound = IfSome-lookup_from_All IsWorkflow (is_at (slice_cmp nat_cmp name)) c.flows all in
    subst IsWorkflow (sym (ap (λ (o : Option Workflow). unwrap_or o no_workflow) found.1))
    (subst P found.1 sound)

-- the flow of a command that is right is well formed
right-flow : (name : List ℕ) (flow : Graph) → is_right (order.Flow name flow) ≡ true → is_well_formed flow ≡ true
right-flow name flow right = (and_parts (list_all is_name (names_in (order.Flow name flow)))
    (is_none (fault_in (order.Flow name flow))) right).1

keeps-flow : (c : Holdings) (name : List ℕ) (flow : Graph) → AreSound c
    → is_well_formed flow ≡ true → AreSound (with_flow c name flow)
keeps-flow c name flow k right =
    let new : Workflow = record { graph = flow; lists = first_lists flow } in
    let sound : IsWorkflow new = record { right = right; lists = firsts-right flow.nodes } in
    record {
      flows = All-values-insert_entry (slice_cmp nat_cmp) name new IsWorkflow c.flows k.flows sound;
      versions = k.versions;
    }

-- a flow with another list for one of its nodes
list-sound : (w : Workflow) (node : ℕ) (list : List Strategy) → IsWorkflow w
    → rules.is_list_of w.graph.nodes node list ≡ true → IsWorkflow (with_list w node list)
list-sound w node list sound fits = record {
  right = sound.right;
  lists = (set-right w.graph.nodes w.lists node list sound.lists fits).1;
}

keeps-strategies : (c : Holdings) (name : List ℕ) (node : ℕ) (list : List Strategy)
    → AreSound c → judged c (order.Strategy name node list) ≡ None
    → AreSound (with_strategies c name node list)
keeps-strategies c name node list k none =
    let listed = (rules.has_bad_strategies c name node list, refusal.BadStrategies) ∷ [] in
    let held = rule-fails (rules.has_no_flow c name) refusal.NoSuchFlow listed none in
    let fits = rule-fails (rules.has_bad_strategies c name node list) refusal.BadStrategies [] held.1 in
    let old = flow-sound c name k.flows held.0 in
    let new = list-sound (workflow_of c name) node list old (not_false _ fits.0) in
    record {
      flows = All-values-set_value (is_at (slice_cmp nat_cmp name)) IsWorkflow c.flows
          (with_list (workflow_of c name) node list) k.flows new;
      versions = k.versions;
    }

-- ---- versions

-- a version that is held is sound
pub version-found : (c : Holdings) (n : ℕ) → rules.has_no_version c n ≡ false
    → version_numbered c n ≡ Some (version_of c n)
version-found c n held =
    let found = there-is (version_numbered c n) held in
    found.1 ∙ ap (λ (v : Version). Some v) (sym (ap (λ (o : Option Version). unwrap_or o no_version) found.1))

pub version-sound : (c : Holdings) (n : ℕ) → All IsSoundVersion (values_of c.versions)
    → rules.has_no_version c n ≡ false → IsSoundVersion (version_of c n)
version-sound c n all held =
    let P : Option Version → Type 0 = λ o. IfSome o IsSoundVersion in
    subst P (version-found c n held) (IfSome-lookup_from_All IsSoundVersion (is_at (nat_cmp n)) c.versions all)

pub keeps-awaited : (c : Holdings) (n : ℕ) → AreSound c → rules.has_no_version c n ≡ false
    → AreSound (with_await c n)
keeps-awaited c n k held =
    let v = version_of c n in
    let w : Version = record v { awaited = true } in
    let old = (version-sound c n k.versions held).run in
    let r = old.1 in
    let run : IsRun w old.0 = record { right = r.right; count = r.count; fits = r.fits; lists = r.lists } in
    let new : IsSoundVersion w = record { run = (old.0, run) } in
    record {
      flows = k.flows;
      versions = All-values-set_value (is_at (nat_cmp n)) IsSoundVersion c.versions w k.versions new;
    }

-- a merge that is asked
keeps-merge : (c : Holdings) (n : ℕ) → AreSound c → AreSound (with_merge c n)
keeps-merge c n k = at (is_merge_asked c n) where
  at : (b : Bool) → AreSound (if b then c else record c { merges = c.merges ++ n ∷ [] })
  at true = k
  at false = record { flows = k.flows; versions = k.versions }

-- what is held stays sound where no version is started or awaited
pub keeps-accepted : (c : Holdings) (command : Command) → AreSound c
    → is_right command ≡ true → judged c command ≡ None → changes_no_version command ≡ true
    → AreSound (accepted c command).0
keeps-accepted c (order.Array name array) k right none kind = record {
  flows = k.flows;
  versions = k.versions;
}
keeps-accepted c (order.Csv name array) k right none kind = record {
  flows = k.flows;
  versions = k.versions;
}
keeps-accepted c (order.Layers name array) k right none kind = record {
  flows = k.flows;
  versions = k.versions;
}
keeps-accepted c (order.Flow name flow) k right none kind =
    keeps-flow c name flow k (right-flow name flow right)
keeps-accepted c (order.Strategy name node list) k right none kind =
    keeps-strategies c name node list k none
keeps-accepted c (order.Plan name base units back forward) k right none kind = k
keeps-accepted c (order.Merge n) k right none kind = keeps-merge c n k
keeps-accepted c _ k right none kind = cc

-- ---- a start

-- what a start that no rule refuses begins with
pub record CanStart (c : Holdings) (name : List ℕ) (base : List BaseName) : Type 0 where
  pub flow : rules.has_no_flow c name ≡ false
  pub arrays : rules.has_no_array c base ≡ false
  pub count : length base ≡ (workflow_of c name).graph.inputs
  pub fits : (outputs : List Extent)
      × (output_shapes (workflow_of c name).graph (shapes_of (bases_of c base)) ≡ Ok outputs)
  pub number : next_number c < 2 ^ 32

pub can-start : (c : Holdings) (name : List ℕ) (base : List BaseName) → judged c (order.Start name base) ≡ None
    → CanStart c name base
can-start c name base none =
    let broken = refusal.ShapesDoNotFit (rules.first_broken c name base) in
    let last = (rules.has_no_room_for_version c name base, refusal.NoRoomForVersion) ∷ [] in
    let fourth = (rules.has_broken_shapes c name base, broken) ∷ last in
    let third = (rules.has_wrong_base c name base, refusal.WrongBase) ∷ fourth in
    let second = (rules.has_no_array c base, refusal.NoSuchArray) ∷ third in
    let flow = rule-fails (rules.has_no_flow c name) refusal.NoSuchFlow second none in
    let arrays = rule-fails (rules.has_no_array c base) refusal.NoSuchArray third flow.1 in
    let count = rule-fails (rules.has_wrong_base c name base) refusal.WrongBase fourth arrays.1 in
    let shapes = rule-fails (rules.has_broken_shapes c name base) broken last count.1 in
    let room = rule-fails (rules.has_no_room_for_version c name base) refusal.NoRoomForVersion [] shapes.1 in
    record {
      flow = flow.0;
      arrays = arrays.0;
      count = eqb-true _ _ (not_false _ count.0);
      fits = made (output_shapes (workflow_of c name).graph (shapes_of (bases_of c base))) shapes.0;
      number = below (next_number c) (or_right _ _ room.0);
    } where
      made : (r : Result (List Extent) ℕ) → is_some (result_err r) ≡ false → (es : List Extent) × (r ≡ Ok es)
      made (Ok es) h = (es, refl)
      made (Err n) h = cc

      or_right : (a b : Bool) → (a || b) ≡ false → b ≡ false
      or_right true b h = cc
      or_right false b h = h

      below : (n : ℕ) → nat_lt rules.greatest_number n ≡ false → n < 2 ^ 32
      below n h = grind (arith, nat_tests)

-- the version that it makes is sound
pub started-sound : (c : Holdings) (name : List ℕ) (base : List BaseName) → All IsWorkflow (values_of c.flows)
    → CanStart c name base → IsSoundVersion (version_started c name base)
started-sound c name base all can =
    let w = flow-sound c name all can.flow in
    record {
      run = (
        can.fits.0,
        record {
          right = w.right;
          count = bases-length c base can.arrays ∙ can.count;
          fits = can.fits.1;
          lists = w.lists;
        },
      );
    }

-- and is held beside the others
pub keeps-start : (c : Holdings) (name : List ℕ) (base : List BaseName) → AreSound c → CanStart c name base
    → AreSound (with_version c (next_number c) (version_started c name base))
keeps-start c name base k can = record {
  flows = k.flows;
  versions = All-values-insert_entry nat_cmp (next_number c) (version_started c name base) IsSoundVersion c.versions
      k.versions (started-sound c name base k.flows can);
}

-- the flow that is found under a name
pub flow-graph : (c : Holdings) (name : List ℕ) (g : Graph)
    → Some g ≡ option_map (λ (w : Workflow). w.graph) (flow_named c name) → g ≡ (workflow_of c name).graph
flow-graph c name g found = at (flow_named c name) found where
  at : (o : Option Workflow) → Some g ≡ option_map (λ (w : Workflow). w.graph) o → g ≡ (unwrap_or o no_workflow).graph
  at None h = cc
  at (Some w) h = cc

-- and its lists
pub flow-lists : (c : Holdings) (name : List ℕ) (ls : List (List Strategy))
    → Some ls ≡ option_map (λ (w : Workflow). w.lists) (flow_named c name) → ls ≡ (workflow_of c name).lists
flow-lists c name ls found = at (flow_named c name) found where
  at : (o : Option Workflow) → Some ls ≡ option_map (λ (w : Workflow). w.lists) o → ls ≡ (unwrap_or o no_workflow).lists
  at None h = cc
  at (Some w) h = cc

-- a show that no rule refuses is of a node of a held version
pub can-show : (c : Holdings) (n node : ℕ) → judged c (order.Show n node) ≡ None
    → (rules.has_no_version c n ≡ false) × (node < length (version_of c n).flow.nodes)
can-show c n node none =
    let last = (rules.has_no_node c n node, refusal.NoSuchNode) ∷ [] in
    let held = rule-fails (rules.has_no_version c n) refusal.NoSuchVersion last none in
    let there = rule-fails (rules.has_no_node c n node) refusal.NoSuchNode [] held.1 in
    (held.0, below (length (version_of c n).flow.nodes) there.0) where
      below : (m : ℕ) → nat_le m node ≡ false → node < m
      below m h = grind (arith, nat_tests)

pub some-same : {X : Type 0} (a b : X) → Some a ≡ Some b → a ≡ b
some-same a b h = cc
