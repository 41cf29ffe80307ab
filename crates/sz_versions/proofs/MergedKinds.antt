-- The numbers that are told of a version once it is merged.
--
-- The key idea: of a version that was started here the numbers of a node are those of its execution, whose operator and
-- arrays are the node's; of one that a log gave they are those of its stores.
use Rattle.std.proofs.Common.{◌≡◌, ℕ, suc, List, [], ◌∷◌, ◌++◌, map, length, Bool, true, false, refl, sym, ap}
use Rattle.std.proofs.Common.{ap₂, ◌∙◌, subst, Option, Some, None, true≢false, unwrap_or, if◌then◌else◌, arith}
use Rattle.std.specs.Option.{option_map}
use Rattle.std.specs.List.{slice_get, filter}
use Rattle.std.proofs.lemmas.List.Elements.{filter_agree}
use Rattle.sz_spec.specs.declared.flow.Node.{Node}
use Rattle.sz_spec.specs.declared.modes.Strategy.{Strategy}
use Rattle.sz_spec.specs.declared.modes.Strategy.TheVariants as strategy
use Rattle.sz_spec.specs.Affected.{arrays_for}
use Rattle.sz_spec.specs.Flows.{evaluations}
use Rattle.sz_spec.specs.Kinds.{kinds_of}
use Rattle.sz_spec.specs.Modes.{mode_of}
use Rattle.sz_spec.specs.Values.{Grid}
use Rattle.sz_flow.specs.Executions.{Execution, execution}
use Rattle.sz_flow.proofs.Executions.{executions-count, executions-at}
use Rattle.sz_store.specs.Kept.{NodeLineage}
use Rattle.sz_merge.specs.Laws.{keeps_pairs, paired_in}
use Rattle.sz_catalogue.specs.Holdings.{Version, arrays_of}
use Rattle.sz_catalogue.specs.Merges.{is_full, kinds_in_node, kinds_among, kinds_told}
use Rattle.sz_bodies.specs.Fitting.{FitNodes}
use Rattle.sz_versions.specs.Runs.{executions_of, IsSoundVersion}
use Rattle.sz_versions.specs.Stores.{Keeping, nothing, growing, whole, read, keeping_from, IsKeptOf, AreKeptOf}
use Rattle.sz_versions.specs.Stores.{Trail, has_stored}
use Rattle.sz_versions.specs.Residents.{stores_read, IsTrailBy}
use Rattle.sz_versions.specs.Merging.{kinds_recalled, kinds_by, kinds_in_kept, kinds_in_nodes}
use Rattle.sz_versions.proofs.MergedNodes.{fit-executed, by-runs}

-- ---- the strategies that keep region pairs

pairs-full : (s : Strategy) → keeps_pairs (mode_of s) ≡ is_full s
pairs-full strategy.Map = refl
pairs-full _ = refl

pub paired-full : (list : List Strategy) → paired_in list ≡ filter is_full list
paired-full list = filter_agree (λ (s : Strategy). keeps_pairs (mode_of s)) is_full pairs-full list

pub none-full : (list : List Strategy) → has_stored list ≡ false → filter is_full list ≡ []
none-full [] none = refl
none-full (strategy.Map ∷ list) none = none-full list none
none-full (strategy.BlackBox ∷ list) none = none-full list none
none-full (s ∷ list) none = absurd (true≢false none)

-- ---- a version that was started here

-- the arrays of a node of a version
abbrev pub taken_by : Version → Node → List Grid
taken_by v x = arrays_for (arrays_of v.base) (evaluations v.flow (arrays_of v.base)) x

node-told : (v : Version) (x : Node) (e : Execution) (list : List Strategy) (k : Keeping)
    → e ≡ execution x.op (taken_by v x) → IsKeptOf true e list k → kinds_in_kept e list k ≡ kinds_in_node v x list
node-told v x e list nothing is own =
    sym (ap (map (λ (s : Strategy). kinds_of x.op (taken_by v x))) (none-full list (own refl)))
node-told v x e list (growing z p) is own = absurd (true≢false own.0)
node-told v x e list (whole k) is own =
    ap (λ (d : Execution). map (λ (s : Strategy). kinds_of d.site.op d.inputs) (paired_in list)) is
    ∙ ap (map (λ (s : Strategy). kinds_of x.op (taken_by v x))) (paired-full list)
node-told v x e list (read k) is own = absurd own

-- each node's execution stands at its place
abbrev pub AreExecuted : Version → List Node → List Execution → Type 0
AreExecuted v nodes es = (n : ℕ) (x : Node) → slice_get nodes n ≡ Some x
    → slice_get es n ≡ Some (execution x.op (taken_by v x))

nodes-told : (v : Version) (nodes : List Node) (es : List Execution) (lists : List (List Strategy))
    (keeps : List Keeping) → length es ≡ length nodes → AreExecuted v nodes es → AreKeptOf true es lists keeps
    → kinds_in_nodes es lists keeps ≡ kinds_among v nodes lists
nodes-told v [] [] lists keeps long at own = refl
nodes-told v [] (e ∷ es) lists keeps long at own = absurd (omega (arith, long))
nodes-told v (x ∷ nodes) [] lists keeps long at own = absurd (omega (arith, long))
nodes-told v (x ∷ nodes) (e ∷ es) [] keeps long at own = refl
nodes-told v (x ∷ nodes) (e ∷ es) (l ∷ lists) [] long at own = absurd own
nodes-told v (x ∷ nodes) (e ∷ es) (l ∷ lists) (k ∷ keeps) long at own =
    let here : Some e ≡ Some (execution x.op (taken_by v x)) = at 0 x refl in
    let is : e ≡ execution x.op (taken_by v x) = cc in
    let rest : length es ≡ length nodes = omega (arith, long) in
    ap₂ (λ (a b : List ℕ). a ++ b) (node-told v x e l k is own.0)
    (nodes-told v nodes es lists keeps rest (λ n y there. at (suc n) y there) own.1)

pub executed : (v : Version) → IsSoundVersion v → AreExecuted v v.flow.nodes (executions_of v)
executed v sound n x there =
    let base = arrays_of v.base in
    let read_of = λ (o : Option Node). unwrap_or (option_map (λ (z : Node). taken_by v z) o) [] in
    executions-at v.flow base n x sound.run.1.right there
    ∙ ap (λ (inputs : List Grid). Some (execution x.op inputs)) (ap read_of there)

made-told : (v : Version) (keeps : List Keeping) → IsSoundVersion v → AreKeptOf true (executions_of v) v.lists keeps
    → kinds_in_nodes (executions_of v) v.lists keeps ≡ kinds_told v
made-told v keeps sound own =
    nodes-told v v.flow.nodes (executions_of v) v.lists keeps (executions-count v.flow (arrays_of v.base))
    (executed v sound) own

-- ---- a version that a log gave

read-told : (es : List Execution) (lists : List (List Strategy)) (stores : List (Option NodeLineage))
    → FitNodes (map (λ (e : Execution). e.site) es) lists stores
    → kinds_in_nodes es lists (map keeping_from stores) ≡ kinds_recalled stores
read-told [] [] [] h = refl
read-told (d ∷ es) (l ∷ lists) (None ∷ stores) h = read-told es lists stores h.1
read-told (d ∷ es) (l ∷ lists) (Some k ∷ stores) h =
    ap (λ (xs : List ℕ). kinds_in_kept d l (read k) ++ xs) (read-told es lists stores h.1)
read-told _ _ _ h = absurd h

-- ---- either

pub by-told : (b : Bool) (v : Version) (t : Trail) (lists : List (List Strategy)) → IsSoundVersion v
    → v.awaited ≡ true → lists ≡ v.lists → IsTrailBy b v t
    → kinds_in_nodes t.executions lists t.kept ≡ kinds_by (if b then Some (stores_read t) else None) v
by-told b v t lists sound awaited same own =
    ap₂ (λ (es : List Execution) (ls : List (List Strategy)). kinds_in_nodes es ls t.kept) (by-runs b v t own) same
    ∙ at b own where
      at : (b : Bool) → IsTrailBy b v t
          → kinds_in_nodes (executions_of v) v.lists t.kept ≡ kinds_by (if b then Some (stores_read t) else None) v
      at true by =
          ap (kinds_in_nodes (executions_of v) v.lists) by.kept
          ∙ read-told (executions_of v) v.lists (stores_read t) (fit-executed v (stores_read t) sound by.fit)
      at false by =
          made-told v t.kept sound
          (subst (λ (a : Bool). AreKeptOf a (executions_of v) v.lists t.kept) awaited by.1)
