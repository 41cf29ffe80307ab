-- What is held is in order, whatever commands were taken. The key idea: arrays and flows stay under their names, and a
-- version is made of what is held at its start.
use Rattle.std.proofs.Common.{◌≡◌, ⊎_elim, ℕ, zero, suc, ◌+◌, ◌-◌, ◌<◌, List, [], ◌∷◌, ◌++◌, length}
use Rattle.std.proofs.Common.{map, refl, sym, ap, subst, ◌∙◌, arith, true, false, true≢false, Bool, not}
use Rattle.std.proofs.Common.{nat_lt, nat_le, Option, Some, None, is_none, is_some, option_map, unwrap_or}
use Rattle.std.proofs.Common.{All, filter}
use Rattle.std.specs.Prelude.{if◌then◌else◌}
use Rattle.std.specs.Result.{result_err}
use Rattle.std.specs.Cmp.{unsigned_tied}
use Rattle.std.specs.Cmp.Lexicographic.{slice_cmp, same_text}
use Rattle.std.specs.List.{list_all, slice_get, cons_option}
use Rattle.std.specs.List.Sorted.{IsStrictlySortedBy}
use Rattle.std.specs.Map.{keys_of}
use Rattle.std.specs.BTreeMap.{is_at}
use Rattle.std.specs.Ordering.{nat_cmp, eq_by_cmp}
use Rattle.std.specs.Str.{bytes_eq}
use Rattle.std.proofs.lemmas.Bool.{and_parts, eqb-true}
use Rattle.std.proofs.lemmas.Bool.Decides.{nat_tests}
use Rattle.std.proofs.lemmas.Cmp.{nat_cmp_total, nat_list_cmp_total}
use Rattle.std.proofs.lemmas.List.{map-append}
use Rattle.std.proofs.lemmas.List.Elements.{All-cons, All-nil, All-weaker, filter-append}
use Rattle.std.proofs.lemmas.List.Sums.{sum_by_push}
use Rattle.std.proofs.lemmas.Map.{keys-set_value, length-set_value}
use Rattle.std.proofs.lemmas.Map.Text.{is_eq-slice_cmp}
use Rattle.sz_cells.specs.Extent.{Extent, size_of}
use Rattle.sz_spec.specs.declared.modes.Strategy.{Strategy}
use Rattle.sz_spec.specs.Flows.{Graph}
use Rattle.sz_spec.specs.Values.{Grid}
use Rattle.sz_spec.specs.FlowShapes.{output_shapes}
use Rattle.sz_script.specs.Names.{is_name}
use Rattle.sz_script.specs.Right.{IsRight}
use Rattle.sz_script.specs.declared.command.BaseName.{BaseName}
use Rattle.sz_script.specs.declared.command.Command.TheVariants as command
use Rattle.sz_script.specs.declared.refusal.Refusal.TheVariants as refusal
use Rattle.sz_catalogue.specs.Holdings.{Named, Workflow, Base, Version, Holdings, no_workflow}
use Rattle.sz_catalogue.specs.Holdings.{things_named, thing_numbered, array_version, flow_named, version_numbered}
use Rattle.sz_catalogue.specs.Holdings.{held_cells, output_cells, next_number, greatest}
use Rattle.sz_catalogue.specs.Starts.{workflow_of, bases_of, version_started, first_lists}
use Rattle.sz_catalogue.specs.Rules as rules
use Rattle.sz_catalogue.specs.Rules.{judged, first_of, version_of, most_cells, most_versions}
use Rattle.sz_catalogue.specs.Changes.{with_array, with_flow, with_strategies, with_list, with_version}
use Rattle.sz_catalogue.specs.Changes.{with_await, with_refreshed}
use Rattle.sz_catalogue.specs.Refreshes.{base_at, version_on, array_refreshed}
use Rattle.sz_catalogue.specs.Merges.{with_merge, is_merge_asked}
use Rattle.sz_catalogue.proofs.Refreshed.{IsRefresh, refresh-known, set-extent, set-room, refresh-room}
use Rattle.sz_catalogue.proofs.Refreshed.{shapes-stay, count-stays, names-stay, bases-held}
use Rattle.sz_catalogue.proofs.Bases.{bases-length}
use Rattle.sz_catalogue.proofs.Counts.{first-passed, neither, both, await-cells, added-cells, room-cells, array-room}
use Rattle.sz_catalogue.proofs.Counts.{room-there}
use Rattle.sz_catalogue.proofs.Counts.{start-known, start-count, start-room}
use Rattle.sz_catalogue.proofs.NodeLists.{firsts-right, set-right}
use Rattle.sz_catalogue.proofs.Numbers.{next-is_new}
use Rattle.sz_recover.specs.Growing.{IsVersionIn, IsInOrder, NothingIsInOrder, CommandsKeepOrder}
use Rattle.sz_recover.proofs.Durable.{version-found}
use Rattle.sz_recover.proofs.Keyed.{put-found, put-keeps, put-rising, put-length, set-found, set-reads}

-- ---- keys are told apart by their tests

pub number-same : (a b : ℕ) → eq_by_cmp nat_cmp a b ≡ true → a ≡ b
number-same a b is = eqb-true a b (sym (unsigned_tied a b) ∙ is)

text-same : (a b : List ℕ) → eq_by_cmp (slice_cmp nat_cmp) a b ≡ true → a ≡ b
text-same a b is = same_text a b (sym (sym (is_eq-slice_cmp a b) ∙ is))

none-of : {X : Type 0} (o : Option X) → is_some o ≡ false → o ≡ None
none-of None is = refl
none-of (Some x) is = absurd (true≢false is)

there-is : {X : Type 0} (o : Option X) → is_none o ≡ false → is_some o ≡ true
there-is None is = absurd (true≢false is)
there-is (Some x) is = refl

-- ---- what is held stays

-- under its name each flow is the same graph, and each array the same
record KeepsHeld (c d : Holdings) : Type 0 where
  flows : (name : List ℕ) (g : Graph) → option_map (λ (w : Workflow). w.graph) (flow_named c name) ≡ Some g
      → option_map (λ (w : Workflow). w.graph) (flow_named d name) ≡ Some g
  arrays : (name : List ℕ) (n : ℕ) (g : Grid) → array_version c name n ≡ Some g → array_version d name n ≡ Some g

version-kept : (c d : Holdings) (n : ℕ) (v : Version) → KeepsHeld c d → IsVersionIn c n v → IsVersionIn d n v
version-kept c d n v keeps own = record {
  some = own.some;
  names = own.names;
  flow = keeps.flows v.flow_name v.flow own.flow;
  base = All-weaker (λ (b : Base). array_version c b.name b.version ≡ Some b.array)
      (λ (b : Base). array_version d b.name b.version ≡ Some b.array)
      (λ b held. keeps.arrays b.name b.version b.array held) v.base own.base;
  count = own.count;
  fits = own.fits;
  lists = own.lists;
}

-- ---- nothing

pub nothing-in-order : NothingIsInOrder
unfolding IsStrictlySortedBy
nothing-in-order = record {
  flows = λ name w found. cc;
  rising = tt;
  each = λ n v found. cc;
  few = omega arith;
  few_cells = omega arith;
}

-- ---- an array more

get-more : {X : Type 0} (xs ys : List X) (i : ℕ) (x : X) → slice_get xs i ≡ Some x → slice_get (xs ++ ys) i ≡ Some x
get-more [] ys i x is = cc
get-more (y ∷ xs) ys zero x is = is
get-more (y ∷ xs) ys (suc i) x is = get-more xs ys i x is

numbered-more : {X : Type 0} (n : ℕ) (xs ys : List X) (x : X) → thing_numbered n xs ≡ Some x
    → thing_numbered n (xs ++ ys) ≡ Some x
numbered-more {X} n xs ys x is = by (nat_lt 0 n) is where
  by : (b : Bool) → (if b then slice_get xs (n - 1) else None) ≡ Some x
      → (if b then slice_get (xs ++ ys) (n - 1) else None) ≡ Some x
  by true here = get-more xs ys (n - 1) x here
  by false here = cc

things-more : {X : Type 0} (name : List ℕ) (xs ys : List (Named X))
    → things_named name (xs ++ ys) ≡ things_named name xs ++ things_named name ys
things-more {X} name xs ys =
    ap (λ (zs : List (Named X)). map (λ (x : Named X). x.thing) zs)
    (filter-append (λ (x : Named X). bytes_eq name x.name) xs ys)
    ∙ map-append (λ (x : Named X). x.thing) (filter (λ (x : Named X). bytes_eq name x.name) xs)
    (filter (λ (x : Named X). bytes_eq name x.name) ys)

array-in-order : (c : Holdings) (name : List ℕ) (array : Grid) → IsInOrder c
    → judged c (command.Array name array) ≡ None → IsInOrder (with_array c name array)
array-in-order c name array order free =
    let one : Named Grid = record { name = name; thing = array } in
    let keeps : KeepsHeld c (with_array c name array) = record {
      flows = λ other g found. found;
      arrays = λ other n g found.
          subst (λ (xs : List Grid). thing_numbered n xs ≡ Some g) (sym (things-more other c.arrays (one ∷ [])))
          (numbered-more n (things_named other c.arrays) (things_named other (one ∷ [])) g found);
    } in
    record {
      flows = order.flows;
      rising = order.rising;
      each = λ n v found. version-kept c (with_array c name array) n v keeps (order.each n v found);
      few = order.few;
      few_cells = omega (
        arith,
        (room-there c array (array-room c name array free)).1,
        sum_by_push (λ (x : Named Grid). size_of x.thing.extent) c.arrays one,
      );
    }

-- ---- a flow more

flow-in-order : (c : Holdings) (name : List ℕ) (flow : Graph) → IsInOrder c
    → judged c (command.Flow name flow) ≡ None → IsInOrder (with_flow c name flow)
flow-in-order c name flow order free =
    let new : flow_named c name ≡ None =
    none-of (flow_named c name) (neither (nat_le rules.most_flows (length c.flows)) (is_some (flow_named c name))
    (first-passed (rules.has_no_room_for_flow c name) refusal.NoRoomForFlow [] free).0).1 in
    let one : Workflow = record { graph = flow; lists = first_lists flow } in
    let keeps : KeepsHeld c (with_flow c name flow) = record {
      flows = λ other g found. kept other g new (flow_named c other) refl found;
      arrays = λ other n g found. found;
    } in
    record {
      flows = λ other w found.
          ⊎_elim
          (λ own. subst (λ (x : Workflow). rules.are_lists_for x.graph.nodes x.lists ≡ true) (sym own.1)
          (firsts-right flow.nodes))
          (λ before. order.flows other w before)
          (put-found (slice_cmp nat_cmp) nat_list_cmp_total text-same c.flows name other one w found);
      rising = order.rising;
      each = λ n v found. version-kept c (with_flow c name flow) n v keeps (order.each n v found);
      few = order.few;
      few_cells = order.few_cells;
    } where
      kept : (other : List ℕ) (g : Graph) → flow_named c name ≡ None → (o : Option Workflow) → flow_named c other ≡ o
          → option_map (λ (w : Workflow). w.graph) o ≡ Some g
          → option_map (λ (w : Workflow). w.graph) (flow_named (with_flow c name flow) other) ≡ Some g
      kept other g new None is found = cc
      kept other g new (Some w) is found =
          ap (option_map (λ (x : Workflow). x.graph))
          (put-keeps (slice_cmp nat_cmp) nat_list_cmp_total text-same c.flows name other
          (record { graph = flow; lists = first_lists flow }) w new is)
          ∙ found

-- ---- another list of strategies

strategies-in-order : (c : Holdings) (name : List ℕ) (node : ℕ) (list : List Strategy) → IsInOrder c
    → judged c (command.Strategy name node list) ≡ None → IsInOrder (with_strategies c name node list)
strategies-in-order c name node list order free =
    let w : Workflow = workflow_of c name in
    let first = first-passed (rules.has_no_flow c name) refusal.NoSuchFlow
    ((rules.has_bad_strategies c name node list, refusal.BadStrategies) ∷ []) free in
    let there : is_some (flow_named c name) ≡ true = there-is (flow_named c name) first.0 in
    let found : flow_named c name ≡ Some w = there-workflow (flow_named c name) first.0 in
    let right = not-false (rules.is_list_of w.graph.nodes node list)
    (first-passed (rules.has_bad_strategies c name node list) refusal.BadStrategies [] first.1).0 in
    let lists = (set-right w.graph.nodes w.lists node list (order.flows name w found) right).1 in
    let graph : Option Workflow → Option Graph = option_map (λ (x : Workflow). x.graph) in
    let keeps : KeepsHeld c (with_strategies c name node list) = record {
      flows = λ other g is.
          set-reads (slice_cmp nat_cmp) nat_list_cmp_total text-same graph c.flows name other (with_list w node list)
          there (ap graph found) ∙ is;
      arrays = λ other n g is. is;
    } in
    record {
      flows = λ other x is.
          ⊎_elim
          (λ own. subst (λ (y : Workflow). rules.are_lists_for y.graph.nodes y.lists ≡ true) (sym own.1) lists)
          (λ before. order.flows other x before)
          (set-found (slice_cmp nat_cmp) nat_list_cmp_total text-same c.flows name other (with_list w node list) x
          there is);
      rising = order.rising;
      each = λ n v is. version-kept c (with_strategies c name node list) n v keeps (order.each n v is);
      few = order.few;
      few_cells = order.few_cells;
    } where
      there-workflow : (o : Option Workflow) → is_none o ≡ false → o ≡ Some (unwrap_or o no_workflow)
      there-workflow None is = absurd (true≢false is)
      there-workflow (Some x) is = refl

      not-false : (b : Bool) → not b ≡ false → b ≡ true
      not-false true is = refl
      not-false false is = absurd (true≢false is)

-- ---- a version more

pub added-in-order : (c : Holdings) (n : ℕ) (v : Version) → IsInOrder c → version_numbered c n ≡ None
    → rules.has_room c (output_cells v) ≡ true → IsVersionIn c n v → IsInOrder (with_version c n v)
added-in-order c n v order new room own =
    let keeps : KeepsHeld c (with_version c n v) =
    record { flows = λ name g is. is; arrays = λ name k g is. is } in
    let few : length c.versions < most_versions =
    less (length c.versions) (both (nat_lt (length c.versions) most_versions)
    (nat_le (held_cells c + output_cells v) most_cells) room).0 in
    record {
      flows = order.flows;
      rising = put-rising c.versions n v order.rising;
      each = λ m w is.
          ⊎_elim
          (λ here. subst (λ (x : Version). IsVersionIn (with_version c n v) m x) (sym here.1)
          (subst (λ (k : ℕ). IsVersionIn (with_version c n v) k v) (sym here.0)
          (version-kept c (with_version c n v) n v keeps own)))
          (λ before. version-kept c (with_version c n v) m w keeps (order.each m w before))
          (put-found nat_cmp nat_cmp_total number-same c.versions n m v w is);
      few = omega (arith, few, put-length c.versions n v);
      few_cells = omega (arith, room-cells c (output_cells v) room, added-cells c n v new order.rising);
    } where
      less : (k : ℕ) → nat_lt k most_versions ≡ true → k < most_versions
      less k is = grind (arith, nat_tests)

-- the base arrays that are held are found under their names
record AreBases (c : Holdings) (names : List BaseName) : Type 0 where
  named : map (λ (b : Base). b.name) (bases_of c names) ≡ map (λ (b : BaseName). b.name) names
  held : All (λ (b : Base). array_version c b.name b.version ≡ Some b.array) (bases_of c names)

bases-are : (c : Holdings) (names : List BaseName) → rules.has_no_array c names ≡ false → AreBases c names
bases-are c [] is =
    record { named = refl; held = All-nil (λ (b : Base). array_version c b.name b.version ≡ Some b.array) }
bases-are c (b ∷ names) is =
    let either = neither (is_none (array_version c b.name b.version)) (rules.has_no_array c names) is in
    by (array_version c b.name b.version) refl either.0 (bases-are c names either.1) where
      by : (o : Option Grid) → array_version c b.name b.version ≡ o → is_none o ≡ false → AreBases c names
          → AreBases c (b ∷ names)
      by None found there rest = absurd (true≢false there)
      by (Some g) found there rest =
          let x : Base = record { name = b.name; version = b.version; array = g } in
          let all : bases_of c (b ∷ names) ≡ x ∷ bases_of c names =
          ap (λ (o : Option Grid). cons_option (option_map
          (λ (y : Grid). let z : Base = record { name = b.name; version = b.version; array = y } in z) o)
          (bases_of c names)) found in
          record {
            named = ap (map (λ (y : Base). y.name)) all
                ∙ ap (λ (ns : List (List ℕ)). b.name ∷ ns) rest.named;
            held = subst (λ (bs : List Base). All (λ (y : Base). array_version c y.name y.version ≡ Some y.array) bs)
                (sym all)
                (All-cons (λ (y : Base). array_version c y.name y.version ≡ Some y.array) x (bases_of c names) found
                rest.held);
          }

-- a version of what is held under names
pub named-in : (c : Holdings) (n : ℕ) (name : List ℕ) (names : List BaseName) (lists : List (List Strategy))
    (awaited : Bool) → nat_le 1 n ≡ true
    → list_all is_name (name ∷ map (λ (b : BaseName). b.name) names) ≡ true
    → rules.has_no_flow c name ≡ false → rules.has_no_array c names ≡ false
    → length names ≡ (workflow_of c name).graph.inputs → rules.has_broken_shapes c name names ≡ false
    → rules.are_lists_for (workflow_of c name).graph.nodes lists ≡ true
    → IsVersionIn c n (record {
      flow_name = name;
      flow = (workflow_of c name).graph;
      base = bases_of c names;
      lists = lists;
      awaited = awaited;
    })
named-in c n name names lists awaited some right flow arrays count fits own =
    let bases = bases-are c names arrays in
    record {
      some = some;
      names = subst (λ (ns : List (List ℕ)). list_all is_name (name ∷ ns) ≡ true) (sym bases.named) right;
      flow = graph (flow_named c name) flow;
      base = bases.held;
      count = bases-length c names arrays ∙ count;
      fits = none-of (rules.broken_node c name names) fits;
      lists = own;
    } where
      graph : (o : Option Workflow) → is_none o ≡ false
          → option_map (λ (w : Workflow). w.graph) o ≡ Some (unwrap_or o no_workflow).graph
      graph None is = absurd (true≢false is)
      graph (Some w) is = refl

start-in-order : (c : Holdings) (name : List ℕ) (names : List BaseName) → IsInOrder c
    → IsRight (command.Start name names) → judged c (command.Start name names) ≡ None
    → IsInOrder (with_version c (next_number c) (version_started c name names))
start-in-order c name names order right free =
    let start = start-known c name names free in
    let found : flow_named c name ≡ Some (workflow_of c name) = there-workflow (flow_named c name) start.flow in
    let right_names = and_parts (list_all is_name (name ∷ map (λ (b : BaseName). b.name) names)) true right in
    let new : version_numbered c (next_number c) ≡ None =
    next-is_new c.versions (next_number c) (omega arith) in
    added-in-order c (next_number c) (version_started c name names) order new (start-room c name names start)
    (named-in c (next_number c) name names (workflow_of c name).lists false (one-more (greatest (keys_of c.versions)))
    right_names.0 start.flow start.arrays (start-count c name names start) start.fits
    (order.flows name (workflow_of c name) found)) where
      there-workflow : (o : Option Workflow) → is_none o ≡ false → o ≡ Some (unwrap_or o no_workflow)
      there-workflow None is = absurd (true≢false is)
      there-workflow (Some x) is = refl

      one-more : (k : ℕ) → nat_le 1 (k + 1) ≡ true
      one-more k = grind (arith, nat_tests)

-- ---- an await

await-in-order : (c : Holdings) (n : ℕ) → IsInOrder c → judged c (command.Await n) ≡ None
    → IsInOrder (with_await c n)
await-in-order c n order free =
    let some = (first-passed (rules.has_no_version c n) refusal.NoSuchVersion [] free).0 in
    let w : Version = record (version_of c n) { awaited = true } in
    let found = version-found c n some in
    let there : is_some (version_numbered c n) ≡ true = there-is (version_numbered c n) some in
    let keeps : KeepsHeld c (with_await c n) =
    record { flows = λ name g is. is; arrays = λ name k g is. is } in
    let own = version-kept c (with_await c n) n (version_of c n) keeps (order.each n (version_of c n) found) in
    let now : IsVersionIn (with_await c n) n w = record {
      some = own.some;
      names = own.names;
      flow = own.flow;
      base = own.base;
      count = own.count;
      fits = own.fits;
      lists = own.lists;
    } in
    record {
      flows = order.flows;
      rising = subst (λ (ks : List ℕ). IsStrictlySortedBy nat_cmp ks)
          (sym (keys-set_value (is_at (nat_cmp n)) c.versions w)) order.rising;
      each = λ m x is.
          ⊎_elim
          (λ here. subst (λ (y : Version). IsVersionIn (with_await c n) m y) (sym here.1)
          (subst (λ (k : ℕ). IsVersionIn (with_await c n) k w) (sym here.0) now))
          (λ before. version-kept c (with_await c n) m x keeps (order.each m x before))
          (set-found nat_cmp nat_cmp_total number-same c.versions n m w x there is);
      few = omega (arith, order.few, length-set_value (is_at (nat_cmp n)) c.versions w);
      few_cells = omega (arith, order.few_cells, await-cells c n free);
    }

-- ---- a refresh: an array more, and a version on it

refresh-in-order : (c : Holdings) (n i : ℕ) (g : Grid) → IsInOrder c → IsRefresh c n i
    → g.extent ≡ (base_at (version_of c n) i).array.extent → IsInOrder (with_refreshed c n i g)
refresh-in-order c n i g order known same =
    let v = version_of c n in
    let name = (base_at v i).name in
    let d : Holdings = with_array c name g in
    let own = order.each n v (version-found c n known.there) in
    let free : judged c (command.Array name g) ≡ None =
    ap (λ (b : Bool). first_of ((b, refusal.NoRoomForArray) ∷ [])) (set-room c n i g known.input same known.arrays) in
    let further : IsVersionIn d (next_number c) (version_on c v i g) = record {
      some = one-more (greatest (keys_of c.versions));
      names = subst (λ (ns : List (List ℕ)). list_all is_name (v.flow_name ∷ ns) ≡ true) (sym (names-stay c v i g))
          own.names;
      flow = own.flow;
      base = bases-held c v i g own.base;
      count = count-stays c v i g ∙ own.count;
      fits = ap (λ (shapes : List Extent). result_err (output_shapes v.flow shapes)) (shapes-stay c v i g same)
          ∙ own.fits;
      lists = own.lists;
    } in
    added-in-order d (next_number c) (version_on c v i g) (array-in-order c name g order free)
    (next-is_new c.versions (next_number c) (omega arith)) (refresh-room c n i g known.input same known.versions)
    further where
      one-more : (k : ℕ) → nat_le 1 (k + 1) ≡ true
      one-more k = grind (arith, nat_tests)

-- ---- a merge that is asked is nothing that the order speaks of

merge-in-order : (c : Holdings) (n : ℕ) → IsInOrder c → IsInOrder (with_merge c n)
merge-in-order c n order = at (is_merge_asked c n) where
  at : (b : Bool) → IsInOrder (if b then c else record c { merges = c.merges ++ n ∷ [] })
  at true = order
  at false =
      let d : Holdings = record c { merges = c.merges ++ n ∷ [] } in
      let keeps : KeepsHeld c d = record { flows = λ name g is. is; arrays = λ name k g is. is } in
      record {
        flows = order.flows;
        rising = order.rising;
        each = λ m v is. version-kept c d m v keeps (order.each m v is);
        few = order.few;
        few_cells = order.few_cells;
      }

-- ---- commands

pub commands-keep : CommandsKeepOrder
commands-keep c (command.Array name array) order right free = array-in-order c name array order free
commands-keep c (command.Csv name array) order right free = array-in-order c name array order free
commands-keep c (command.Layers name array) order right free = array-in-order c name array order free
commands-keep c (command.Flow name flow) order right free = flow-in-order c name flow order free
commands-keep c (command.Strategy name node list) order right free = strategies-in-order c name node list order free
commands-keep c (command.Start name base) order right free = start-in-order c name base order right free
commands-keep c (command.Await n) order right free = await-in-order c n order free
commands-keep c (command.Refresh n i set) order right free =
    refresh-in-order c n i (array_refreshed (version_of c n) i set) order (refresh-known c n i set free)
    (set-extent (base_at (version_of c n) i).array set)
commands-keep c (command.Merge n) order right free = merge-in-order c n order
commands-keep c _ order right free = order
