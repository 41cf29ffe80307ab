-- What is held stays in order.
--
-- The key idea: what a version is held of stays. A further array is behind the others of its name, a flow comes under
-- a name that no flow has, and other lists of strategies leave the graph.
use Rattle.std.proofs.Common.{◌≡◌, ℕ, ◌+◌, ◌-◌, ◌<◌, ◌≤◌, Bool, true, false, ◌&&◌, List, [], ◌∷◌, ◌++◌, map, length}
use Rattle.std.proofs.Common.{Option, Some, None, is_some, is_none, unwrap_or, refl, sym, ap, ap₂, subst, ◌∙◌, arith}
use Rattle.std.proofs.Common.{if◌then◌else◌}
use Rattle.std.specs.Prelude.{All, Contains, filter, ◌^◌, option_map, nat_lt, nat_le}
use Rattle.std.specs.Option.{IfSome}
use Rattle.std.specs.Str.{bytes_eq}
use Rattle.std.specs.List.{list_all, slice_get, cons_option}
use Rattle.std.specs.List.Sorted.{IsStrictlySortedBy}
use Rattle.std.specs.Ordering.{nat_cmp, eq_by_cmp}
use Rattle.std.specs.Cmp.Lexicographic.{slice_cmp}
use Rattle.std.specs.Map.{keys_of, values_of, set_value}
use Rattle.std.specs.BTreeMap.{is_at}
use Rattle.std.proofs.lemmas.Bool.{and_parts, not-false}
use Rattle.std.proofs.lemmas.Bool.Decides.{nat_tests}
use Rattle.std.proofs.lemmas.List.Elements.{All-nil, All-cons, All-head, All-tail, All-push, All-weaker, All-contains}
use Rattle.std.proofs.lemmas.Map.{keys-set_value, length-set_value}
use Rattle.std.proofs.lemmas.Map.Lookups.{exact_bytes, exact_unsigned}
use Rattle.std.proofs.lemmas.Map.Views.{All-keys-insert_entry, All-values-insert_entry, All-values-set_value}
use Rattle.std.proofs.lemmas.Map.Views.{Contains-keys_from_lookup, IfSome-lookup_from_All, tells_apart}
use Rattle.std.proofs.lemmas.Option.{slice_get_within}
use Rattle.std.proofs.lemmas.Slice.Eq.{bytes_eq-Decides}
use Rattle.sz_spec.specs.declared.modes.Strategy.{Strategy}
use Rattle.sz_spec.specs.Flows.{Graph, is_well_formed}
use Rattle.sz_spec.specs.Values.{Grid}
use Rattle.sz_spec.proofs.FlowOutputs.{slice_get-left}
use Rattle.sz_script.specs.declared.command.BaseName.{BaseName}
use Rattle.sz_script.specs.declared.command.Command.TheVariants as command
use Rattle.sz_script.specs.declared.refusal.Refusal.{Refusal}
use Rattle.sz_script.specs.declared.refusal.Refusal.TheVariants as rule
use Rattle.sz_script.specs.Names.{is_name}
use Rattle.sz_script.specs.Right.{is_right, fault_in}
use Rattle.sz_catalogue.specs.Holdings.{Named, Workflow, Base, Version, Holdings, things_named}
use Rattle.sz_catalogue.specs.Holdings.{thing_numbered, array_version, flow_named, version_numbered, held_cells}
use Rattle.sz_catalogue.specs.Holdings.{no_workflow, no_version, output_cells}
use Rattle.sz_catalogue.specs.Starts.{first_lists, workflow_of, bases_of}
use Rattle.sz_catalogue.specs.Rules as rules
use Rattle.sz_catalogue.specs.Rules.{judged, has_room, most_cells, most_versions, version_of}
use Rattle.sz_catalogue.specs.Changes.{with_array, with_flow, with_list, with_strategies, with_version, with_await}
use Rattle.sz_catalogue.specs.Kept.{IsWorkflow}
use Rattle.sz_catalogue.specs.Order.{IsVersionIn, IsInOrder}
use Rattle.sz_catalogue.proofs.Bases.{named_base}
use Rattle.sz_catalogue.proofs.Counts.{first-passed, neither, both, await-cells}
use Rattle.sz_catalogue.proofs.Entries.{length-put, lookup-put, reads-set}
use Rattle.sz_catalogue.proofs.Names.{things_named-push}
use Rattle.sz_catalogue.proofs.NodeLists.{firsts-right, set-right}

abbrev graph_named : Holdings → List ℕ → Option Graph
graph_named c name = option_map (λ (w : Workflow). w.graph) (flow_named c name)

pub there-is : {X : Type 0} (o : Option X) → is_none o ≡ false → (x : X) × (o ≡ Some x)
there-is None h = cc
there-is (Some x) h = (x, refl)

pub none-is : {X : Type 0} (o : Option X) → is_some o ≡ false → o ≡ None
none-is None h = refl
none-is (Some x) h = cc

-- ---- what versions are held of

-- the flows and the arrays of one are those of the other, under the names that it has
record Keeps (c d : Holdings) : Type 0 where
  flows : (name : List ℕ) (g : Graph) → graph_named c name ≡ Some g → graph_named d name ≡ Some g
  arrays : (name : List ℕ) (n : ℕ) (a : Grid) → array_version c name n ≡ Some a → array_version d name n ≡ Some a

version-kept : (c d : Holdings) → Keeps c d → (v : Version) → IsVersionIn c v → IsVersionIn d v
version-kept c d k v h = record {
  run = h.run;
  flow = k.flows v.flow_name v.flow h.flow;
  base = All-weaker (λ (b : Base). array_version c b.name b.version ≡ Some b.array)
      (λ (b : Base). array_version d b.name b.version ≡ Some b.array)
      (λ b at. k.arrays b.name b.version b.array at) v.base h.base;
}

versions-kept : (c d : Holdings) → Keeps c d → (vs : List Version) → All (IsVersionIn c) vs → All (IsVersionIn d) vs
versions-kept c d k vs all = All-weaker (IsVersionIn c) (IsVersionIn d) (version-kept c d k) vs all

-- an element stays where others come behind it
numbered-stays : {X : Type 0} (n : ℕ) (xs ys : List X) (x : X) → thing_numbered n xs ≡ Some x
    → thing_numbered n (xs ++ ys) ≡ Some x
numbered-stays {X} n xs ys x h = at (nat_lt 0 n) h where
  at : (b : Bool) → (if b then slice_get xs (n - 1) else None) ≡ Some x
      → (if b then slice_get (xs ++ ys) (n - 1) else None) ≡ Some x
  at true found = slice_get-left xs ys (n - 1) (slice_get_within xs (n - 1) x found) ∙ found
  at false found = cc

-- ---- an array, a flow, other lists

array-behind : (c : Holdings) (name : List ℕ) (array : Grid) → Keeps c (with_array c name array)
array-behind c name array =
    let new : Named Grid = record { name = name; thing = array } in
    record {
      flows = λ q g h. h;
      arrays = λ q n a h. ap (thing_numbered n) (things_named-push q c.arrays new)
          ∙ numbered-stays n (things_named q c.arrays) (if bytes_eq q name then array ∷ [] else []) a h;
    }

-- base arrays that are held stay so where an array comes behind
pub bases-behind : (c : Holdings) (name : List ℕ) (array : Grid) (base : List Base)
    → All (λ (b : Base). array_version c b.name b.version ≡ Some b.array) base
    → All (λ (b : Base). array_version (with_array c name array) b.name b.version ≡ Some b.array) base
bases-behind c name array base held =
    All-weaker (λ (b : Base). array_version c b.name b.version ≡ Some b.array)
    (λ (b : Base). array_version (with_array c name array) b.name b.version ≡ Some b.array)
    (λ b at. (array-behind c name array).arrays b.name b.version b.array at) base held

pub array-in_order : (c : Holdings) (name : List ℕ) (array : Grid) → IsInOrder c → is_name name ≡ true
    → held_cells (with_array c name array) ≤ most_cells → IsInOrder (with_array c name array)
array-in_order c name array k is few =
    let new : Named Grid = record { name = name; thing = array } in
    let kept : Keeps c (with_array c name array) = array-behind c name array in
    record {
      few_cells = few;
      few_versions = k.few_versions;
      array_names = All-push (λ (x : Named Grid). is_name x.name ≡ true) c.arrays new k.array_names is;
      flow_names = k.flow_names;
      workflows = k.workflows;
      versions = versions-kept c (with_array c name array) kept (values_of c.versions) k.versions;
      numbers = k.numbers;
      small = k.small;
      rising = k.rising;
    }

-- which merges were asked is nothing that the order speaks of
pub merges-in_order : (c : Holdings) (merges : List ℕ) → IsInOrder c → IsInOrder (record c { merges = merges })
merges-in_order c merges k =
    let d : Holdings = record c { merges = merges } in
    record {
      few_cells = k.few_cells;
      few_versions = k.few_versions;
      array_names = k.array_names;
      flow_names = k.flow_names;
      workflows = k.workflows;
      versions = versions-kept c d (record { flows = λ q g h. h; arrays = λ q n a h. h }) (values_of c.versions)
          k.versions;
      numbers = k.numbers;
      small = k.small;
      rising = k.rising;
    }

pub flow-in_order : (c : Holdings) (name : List ℕ) (flow : Graph) → IsInOrder c → is_name name ≡ true
    → is_well_formed flow ≡ true → flow_named c name ≡ None → IsInOrder (with_flow c name flow)
flow-in_order c name flow k is right none =
    let new : Workflow = record { graph = flow; lists = first_lists flow } in
    let sound : IsWorkflow new = record { right = right; lists = firsts-right flow.nodes } in
    let kept : Keeps c (with_flow c name flow) = record {
      flows = λ q g h. found q g (flow_named c q) refl h;
      arrays = λ q n a h. h;
    } in
    record {
      few_cells = k.few_cells;
      few_versions = k.few_versions;
      array_names = k.array_names;
      flow_names = All-keys-insert_entry (slice_cmp nat_cmp) name new (λ (q : List ℕ). is_name q ≡ true) c.flows
          k.flow_names is;
      workflows = All-values-insert_entry (slice_cmp nat_cmp) name new IsWorkflow c.flows k.workflows sound;
      versions = versions-kept c (with_flow c name flow) kept (values_of c.versions) k.versions;
      numbers = k.numbers;
      small = k.small;
      rising = k.rising;
    } where
      found : (q : List ℕ) (g : Graph) (o : Option Workflow) → flow_named c q ≡ o
          → option_map (λ (w : Workflow). w.graph) o ≡ Some g → graph_named (with_flow c name flow) q ≡ Some g
      found q g None at h = cc
      found q g (Some w) at h =
          let stays = lookup-put (slice_cmp nat_cmp) exact_bytes c.flows q name w
          (record { graph = flow; lists = first_lists flow }) at none in
          ap (option_map (λ (w : Workflow). w.graph)) stays ∙ h

-- a flow that is held is well formed, with a list for each node
pub workflow-found : (c : Holdings) (name : List ℕ) (w : Workflow) → IsInOrder c → flow_named c name ≡ Some w
    → IsWorkflow w
workflow-found c name w k found =
    let P : Option Workflow → Type 0 = λ o. IfSome o IsWorkflow in
    subst P found (IfSome-lookup_from_All IsWorkflow (is_at (slice_cmp nat_cmp name)) c.flows k.workflows)

pub flow-right : (c : Holdings) (name : List ℕ) → IsInOrder c
    → IfSome (flow_named c name) (λ (w : Workflow). is_well_formed w.graph ≡ true)
flow-right c name k =
    at (flow_named c name)
    (IfSome-lookup_from_All IsWorkflow (is_at (slice_cmp nat_cmp name)) c.flows k.workflows) where
      at : (o : Option Workflow) → IfSome o IsWorkflow → IfSome o (λ (w : Workflow). is_well_formed w.graph ≡ true)
      at None h = h
      at (Some w) h = h.right

list-in_order : (c : Holdings) (name : List ℕ) (node : ℕ) (list : List Strategy) (w : Workflow) → IsInOrder c
    → flow_named c name ≡ Some w → rules.is_list_of w.graph.nodes node list ≡ true
    → IsInOrder (record c {
      flows = set_value (is_at (slice_cmp nat_cmp name)) c.flows (with_list w node list);
    })
list-in_order c name node list w k found fits =
    let old = workflow-found c name w k found in
    let new = with_list w node list in
    let d : Holdings = record c { flows = set_value (is_at (slice_cmp nat_cmp name)) c.flows new } in
    let sound : IsWorkflow new = record {
      right = old.right;
      lists = (set-right w.graph.nodes w.lists node list old.lists fits).1;
    } in
    let same = λ (q : List ℕ). reads-set (λ (x : Workflow). x.graph) (is_at (slice_cmp nat_cmp name))
    (is_at (slice_cmp nat_cmp q)) c.flows w new found refl in
    let kept : Keeps c d = record { flows = λ q g h. same q ∙ h; arrays = λ q n a h. h } in
    let keys = keys-set_value (is_at (slice_cmp nat_cmp name)) c.flows new in
    record {
      few_cells = k.few_cells;
      few_versions = k.few_versions;
      array_names = k.array_names;
      flow_names = subst (All (λ (q : List ℕ). is_name q ≡ true)) (sym keys) k.flow_names;
      workflows = All-values-set_value (is_at (slice_cmp nat_cmp name)) IsWorkflow c.flows new k.workflows sound;
      versions = versions-kept c d kept (values_of c.versions) k.versions;
      numbers = k.numbers;
      small = k.small;
      rising = k.rising;
    }

pub strategies-in_order : (c : Holdings) (name : List ℕ) (node : ℕ) (list : List Strategy) → IsInOrder c
    → judged c (command.Strategy name node list) ≡ None → IsInOrder (with_strategies c name node list)
strategies-in_order c name node list k none =
    let last : List (Bool × Refusal) = (rules.has_bad_strategies c name node list, rule.BadStrategies) ∷ [] in
    let held = first-passed (rules.has_no_flow c name) rule.NoSuchFlow last none in
    let fits = first-passed (rules.has_bad_strategies c name node list) rule.BadStrategies [] held.1 in
    let found = there-is (flow_named c name) held.0 in
    let here : workflow_of c name ≡ found.0 = ap (λ (o : Option Workflow). unwrap_or o no_workflow) found.1 in
    let P : Workflow → Type 0 = λ w. IsInOrder (record c {
      flows = set_value (is_at (slice_cmp nat_cmp name)) c.flows (with_list w node list);
    }) in
    subst P (sym here) (list-in_order c name node list found.0 k found.1
    (ap (λ (w : Workflow). rules.is_list_of w.graph.nodes node list) (sym here) ∙ not-false _ fits.0))

-- ---- a version more, and one that is awaited

pub version-in_order : (c : Holdings) (n : ℕ) (v : Version) → IsInOrder c → IsVersionIn c v → 1 ≤ n → n < 2 ^ 32
    → has_room c (output_cells v) ≡ true → held_cells (with_version c n v) ≤ most_cells
    → IsStrictlySortedBy nat_cmp (keys_of (with_version c n v).versions) → IsInOrder (with_version c n v)
version-in_order c n v k is some low room few rising =
    let d = with_version c n v in
    let kept : Keeps c d = record { flows = λ q g h. h; arrays = λ q m a h. h } in
    let left = (both (nat_lt (length c.versions) most_versions)
    (nat_le (held_cells c + output_cells v) most_cells) room).0 in
    record {
      few_cells = few;
      few_versions = within (length c.versions) (length d.versions) left (length-put nat_cmp c.versions n v);
      array_names = k.array_names;
      flow_names = k.flow_names;
      workflows = k.workflows;
      versions = All-values-insert_entry nat_cmp n v (IsVersionIn d) c.versions
          (versions-kept c d kept (values_of c.versions) k.versions) (version-kept c d kept v is);
      numbers = All-keys-insert_entry nat_cmp n v (λ (m : ℕ). 1 ≤ m) c.versions k.numbers some;
      small = All-keys-insert_entry nat_cmp n v (λ (m : ℕ). m < 2 ^ 32) c.versions k.small low;
      rising = rising;
    } where
      within : (m l : ℕ) → nat_lt m most_versions ≡ true → l ≤ m + 1 → l ≤ most_versions
      within m l h le = grind (arith, nat_tests)

-- a version that is found under a number is one of what is held, and its number is 1 or more, of 32 bits
pub version-found : (c : Holdings) (n : ℕ) (v : Version) → IsInOrder c → version_numbered c n ≡ Some v
    → IsVersionIn c v
version-found c n v k found =
    let P : Option Version → Type 0 = λ o. IfSome o (IsVersionIn c) in
    subst P found (IfSome-lookup_from_All (IsVersionIn c) (is_at (nat_cmp n)) c.versions k.versions)

number-among : (c : Holdings) (n : ℕ) (v : Version) → version_numbered c n ≡ Some v → Contains (keys_of c.versions) n
number-among c n v found =
    Contains-keys_from_lookup {eq = eq_by_cmp nat_cmp} (tells_apart exact_unsigned) n c.versions
    (ap (λ (o : Option Version). is_some o) found)

pub number-from_one : (c : Holdings) (n : ℕ) (v : Version) → IsInOrder c → version_numbered c n ≡ Some v → 1 ≤ n
number-from_one c n v k found = All-contains (λ (m : ℕ). 1 ≤ m) (keys_of c.versions) n k.numbers
    (number-among c n v found)

pub number-small : (c : Holdings) (n : ℕ) (v : Version) → IsInOrder c → version_numbered c n ≡ Some v → n < 2 ^ 32
number-small c n v k found = All-contains (λ (m : ℕ). m < 2 ^ 32) (keys_of c.versions) n k.small
    (number-among c n v found)

await-held : (c : Holdings) (n : ℕ) (v : Version) → IsInOrder c → version_numbered c n ≡ Some v
    → held_cells (record c { versions = set_value (is_at (nat_cmp n)) c.versions (record v { awaited = true }) })
    ≤ most_cells
    → IsInOrder (record c { versions = set_value (is_at (nat_cmp n)) c.versions (record v { awaited = true }) })
await-held c n v k found few =
    let now : Version = record v { awaited = true } in
    let d : Holdings = record c { versions = set_value (is_at (nat_cmp n)) c.versions now } in
    let kept : Keeps c d = record { flows = λ q g h. h; arrays = λ q m a h. h } in
    let old = version-found c n v k found in
    let new : IsVersionIn d now = record {
      run = (
        old.run.0,
        record {
          right = old.run.1.right;
          count = old.run.1.count;
          fits = old.run.1.fits;
          lists = old.run.1.lists;
        },
      );
      flow = old.flow;
      base = old.base;
    } in
    let keys = keys-set_value (is_at (nat_cmp n)) c.versions now in
    record {
      few_cells = few;
      few_versions = omega (arith, length-set_value (is_at (nat_cmp n)) c.versions now, k.few_versions);
      array_names = k.array_names;
      flow_names = k.flow_names;
      workflows = k.workflows;
      versions = All-values-set_value (is_at (nat_cmp n)) (IsVersionIn d) c.versions now
          (versions-kept c d kept (values_of c.versions) k.versions) new;
      numbers = subst (All (λ (m : ℕ). 1 ≤ m)) (sym keys) k.numbers;
      small = subst (All (λ (m : ℕ). m < 2 ^ 32)) (sym keys) k.small;
      rising = subst (IsStrictlySortedBy nat_cmp) (sym keys) k.rising;
    }

pub await-in_order : (c : Holdings) (n : ℕ) → IsInOrder c → judged c (command.Await n) ≡ None
    → IsInOrder (with_await c n)
await-in_order c n k none =
    let held = first-passed (rules.has_no_version c n) rule.NoSuchVersion [] none in
    let found = there-is (version_numbered c n) held.0 in
    let here : version_of c n ≡ found.0 = ap (λ (o : Option Version). unwrap_or o no_version) found.1 in
    let put : Version → Holdings = λ v. record c {
      versions = set_value (is_at (nat_cmp n)) c.versions (record v { awaited = true });
    } in
    let few : held_cells (with_await c n) ≤ most_cells = omega (arith, await-cells c n none, k.few_cells) in
    subst (λ (v : Version). IsInOrder (put v)) (sym here) (await-held c n found.0 k found.1
    (subst (λ (v : Version). held_cells (put v) ≤ most_cells) here few))

-- ---- what is found under a name

pub flow-name : (c : Holdings) (name : List ℕ) (w : Workflow) → IsInOrder c → flow_named c name ≡ Some w
    → is_name name ≡ true
flow-name c name w k found = All-contains (λ (q : List ℕ). is_name q ≡ true) (keys_of c.flows) name k.flow_names
    (Contains-keys_from_lookup {eq = eq_by_cmp (slice_cmp nat_cmp)} (tells_apart exact_bytes) name c.flows
    (ap (λ (o : Option Workflow). is_some o) found))

-- the name of a thing is that of one of the things
named-there : {X : Type 0} (q : List ℕ) (xs : List (Named X)) → All (λ (x : Named X). is_name x.name ≡ true) xs
    → 0 < length (things_named q xs) → is_name q ≡ true
named-there q [] all some = absurd (omega (arith, some))
named-there {X} q (x ∷ xs) all some =
    at (bytes_eq q x.name) refl some
    (named-there q xs (All-tail (λ (y : Named X). is_name y.name ≡ true) x xs all)) where
      at : (b : Bool) → bytes_eq q x.name ≡ b
          → 0 < length (map (λ (y : Named X). y.thing) (if b then x ∷ filter (λ y. bytes_eq q y.name) xs
          else filter (λ y. bytes_eq q y.name) xs))
          → (0 < length (things_named q xs) → is_name q ≡ true) → is_name q ≡ true
      at true same more rest = ap is_name ((bytes_eq-Decides q x.name).0 same)
          ∙ All-head (λ (y : Named X). is_name y.name ≡ true) x xs all
      at false same more rest = rest more

pub array-name : (c : Holdings) (name : List ℕ) (n : ℕ) (a : Grid) → IsInOrder c → array_version c name n ≡ Some a
    → is_name name ≡ true
array-name c name n a k found =
    named-there name c.arrays k.array_names (at (nat_lt 0 n) (things_named name c.arrays) found) where
      at : (b : Bool) (xs : List Grid) → (if b then slice_get xs (n - 1) else None) ≡ Some a → 0 < length xs
      at true xs h = omega (arith, slice_get_within xs (n - 1) a h)
      at false xs h = cc

base-names : (c : Holdings) (base : List Base) → IsInOrder c
    → All (λ (b : Base). array_version c b.name b.version ≡ Some b.array) base
    → list_all is_name (map (λ (b : Base). b.name) base) ≡ true
base-names c [] k all = refl
base-names c (b ∷ base) k all =
    let held : Base → Type 0 = λ x. array_version c x.name x.version ≡ Some x.array in
    ap₂ (λ (s t : Bool). s && t) (array-name c b.name b.version b.array k (All-head held b base all))
    (base-names c base k (All-tail held b base all))

-- the names of a version are names
pub version-names : (c : Holdings) (v : Version) → IsInOrder c → IsVersionIn c v
    → list_all is_name (v.flow_name ∷ map (λ (b : Base). b.name) v.base) ≡ true
version-names c v k is =
    ap₂ (λ (s t : Bool). s && t) (at (flow_named c v.flow_name) refl is.flow) (base-names c v.base k is.base) where
      at : (o : Option Workflow) → flow_named c v.flow_name ≡ o
          → option_map (λ (w : Workflow). w.graph) o ≡ Some v.flow → is_name v.flow_name ≡ true
      at None found h = cc
      at (Some w) found h = flow-name c v.flow_name w k found

-- ---- what commands that nothing refuses begin with

-- the name of a command that is right
pub right-array : (name : List ℕ) (array : Grid) → is_right (command.Array name array) ≡ true → is_name name ≡ true
right-array name array right = (and_parts (is_name name) true (and_parts (list_all is_name (name ∷ [])) true right).0).0

pub right-flow : (name : List ℕ) (flow : Graph) → is_right (command.Flow name flow) ≡ true
    → (is_name name ≡ true) × (is_well_formed flow ≡ true)
right-flow name flow right =
    let parts = and_parts (list_all is_name (name ∷ [])) (is_none (fault_in (command.Flow name flow))) right in
    ((and_parts (is_name name) true parts.0).0, parts.1)

-- a flow that nothing refuses has a new name
pub flow-new : (c : Holdings) (name : List ℕ) (flow : Graph) → judged c (command.Flow name flow) ≡ None
    → flow_named c name ≡ None
flow-new c name flow none =
    let free = first-passed (rules.has_no_room_for_flow c name) rule.NoRoomForFlow [] none in
    none-is (flow_named c name)
    (neither (nat_le rules.most_flows (length c.flows)) (is_some (flow_named c name)) free.0).1

-- the flow that a start names is held under its name
pub started-flow : (c : Holdings) (name : List ℕ) → rules.has_no_flow c name ≡ false
    → graph_named c name ≡ Some (workflow_of c name).graph
started-flow c name held = at (flow_named c name) held where
  at : (o : Option Workflow) → is_none o ≡ false
      → option_map (λ (w : Workflow). w.graph) o ≡ Some (unwrap_or o no_workflow).graph
  at None h = cc
  at (Some w) h = refl

-- and so are its base arrays
pub started-bases : (c : Holdings) (names : List BaseName)
    → All (λ (b : Base). array_version c b.name b.version ≡ Some b.array) (bases_of c names)
started-bases c [] = All-nil (λ (b : Base). array_version c b.name b.version ≡ Some b.array)
started-bases c (x ∷ names) = at (array_version c x.name x.version) refl (started-bases c names) where
  at : (o : Option Grid) → array_version c x.name x.version ≡ o
      → All (λ (b : Base). array_version c b.name b.version ≡ Some b.array) (bases_of c names)
      → All (λ (b : Base). array_version c b.name b.version ≡ Some b.array)
      (cons_option (option_map (named_base x) o) (bases_of c names))
  at None found rest = rest
  at (Some g) found rest = All-cons (λ (b : Base). array_version c b.name b.version ≡ Some b.array) (named_base x g)
      (bases_of c names) found rest
