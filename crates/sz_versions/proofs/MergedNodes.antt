-- What is kept of a version's nodes is merged, one node after another.
--
-- The key idea: what is merged is what lies on a node's shelf, which stands for exactly the relation of the shelf's
-- tag. The stores that are carried stand for it too, and for the relation of the node's execution, so the two are one;
-- and what is merged of them stands for it again.
use Rattle.std.proofs.Common.{◌≡◌, ℕ, zero, suc, ◌<◌, ◌≤◌, List, [], ◌∷◌, ◌++◌, map, length, take, set, get_or, Bool}
use Rattle.std.proofs.Common.{true, false, refl, sym, ap, ap₂, ◌∙◌, subst, append_assoc, arith, Option, Some, None}
use Rattle.std.proofs.Common.{true≢false}
use Rattle.std.proofs.Math.Seq.{map-set_same}
use Rattle.std.specs.Prelude.{Ok}
use Rattle.std.specs.List.{All, AllZip, slice_get, list_any, list_all}
use Rattle.std.proofs.lemmas.List.{append-nil, length-map, take_all}
use Rattle.std.proofs.lemmas.Option.{slice_get_read}
use Rattle.std.proofs.lemmas.List.Elements.{All-head, All-weaker, All-nil, All-cons}
use Rattle.sz_spec.specs.declared.modes.Strategy.{Strategy}
use Rattle.sz_spec.specs.Kinds.{kinds_of}
use Rattle.sz_spec.specs.Modes.{is_stored, supports}
use Rattle.sz_spec.specs.Values.{Grid, extents_of}
use Rattle.sz_spec.specs.Shapes.{Site, shape_of}
use Rattle.sz_frame.specs.Images.{measure_of}
use Rattle.sz_frame.specs.Laws.{IsTheRelation}
use Rattle.sz_store.specs.Kept.{Holding, regions, entries, Keep, NodeLineage, holding_stands, stored_in}
use Rattle.sz_flow.specs.Executions.{Execution, execution_of}
use Rattle.sz_flow.specs.declared.node_run.NodeRun.{NodeRun}
use Rattle.sz_flow.proofs.Executions.{executions-count, executions-at}
use Rattle.sz_shelf.specs.Tags.{Tag, StandsFor}
use Rattle.sz_merge.specs.Laws.{paired_in}
use Rattle.sz_merge.specs.Merged.{IsMergedTo, IsMergedKeep, AreMerged}
use Rattle.sz_merge.proofs.Swapped.{stands-merged}
use Rattle.sz_merge.proofs.Told.{numbers-told}
use Rattle.sz_catalogue.specs.Holdings.{Version}
use Rattle.sz_bodies.specs.Fitting.{FitNodes, Fit}
use Rattle.sz_recover.proofs.Sites.{sites-same}
use Rattle.sz_versions.specs.Runs.{executions_of, IsSoundVersion}
use Rattle.sz_versions.specs.Stores.{Keeping, nothing, growing, whole, read, keeping_from, IsKeptOf, AreKeptOf}
use Rattle.sz_versions.specs.Stores.{Trail, keeping_of, has_stored, tag_for, AreStoresFor}
use Rattle.sz_versions.specs.declared.runs.NodeKeeping.{NodeKeeping}
use Rattle.sz_versions.specs.Residents.{store_read, stores_read, IsTrailBy, stored_of}
use Rattle.sz_versions.specs.Merging.{HasKinds, IsMergeable, AreMergeable, IsMergedKeeping, IsMergedNode}
use Rattle.sz_versions.proofs.Keeping.{all-supported, read-at, mergeable-length, kept-mergeable}
use Rattle.sz_versions.specs.Merging.{AreMergedNodes, IsMergedStored, kinds_in_kept, kinds_in_nodes}

-- ---- what lies on a shelf

abbrev tag_at : Site → List Grid → List Strategy → Tag
tag_at s inputs list = record { site = s; inputs = inputs; list = list }

-- a list with a strategy that keeps a store has a first one
none-stored : (list : List Strategy) → list_any is_stored list ≡ true → stored_in list ≡ [] → ⊥
none-stored [] some none = true≢false (sym some)
none-stored (t ∷ list) some none = at (is_stored t) refl some none (none-stored list) where
  at : (b : Bool) → is_stored t ≡ b → list_any is_stored (t ∷ list) ≡ true → stored_in (t ∷ list) ≡ []
      → (list_any is_stored list ≡ true → stored_in list ≡ [] → ⊥) → ⊥
  at true is h gone rest = let bad : t ∷ stored_in list ≡ [] = rw is at gone in absurd (cc)
  at false is h gone rest = rest (rw is at h) (rw is at gone)

abbrev IsExact : Site → List Grid → Keep → Type 0
IsExact s inputs f = IsTheRelation (measure_of s inputs) (holding_stands s f.holding)

-- two relations for which one store stands are one
same-exact : (s : Site) (a b : List Grid) (f g : Keep) → IsExact s a f → IsExact s b f → IsExact s a g → IsExact s b g
same-exact s a b f g first other own =
    λ i o x inside out held. own i o x inside out held ∙ sym (first i o x inside out held)
    ∙ other i o x inside out held

exact-too : (s : Site) (a b : List Grid) (list : List Strategy) (fs gs : List Keep)
    → list_any is_stored list ≡ true → map (λ f. f.strategy) fs ≡ stored_in list → All (IsExact s a) fs
    → All (IsExact s b) fs → All (IsExact s a) gs → All (IsExact s b) gs
exact-too s a b list [] gs some stored first other own = absurd (none-stored list some (sym stored))
exact-too s a b list (f ∷ fs) gs some stored first other own =
    All-weaker (IsExact s a) (IsExact s b)
    (λ g is. same-exact s a b f g (All-head (IsExact s a) f fs first) (All-head (IsExact s b) f fs other) is) gs own

-- Stores stand for a tag where others stand for it that stand for the same as they do.
pub stands-too : (t u : Tag) (kept them : NodeLineage) → list_any is_stored u.list ≡ true → StandsFor t kept
    → StandsFor u kept → StandsFor t them → StandsFor u them
stands-too t u kept them some first other own =
    let site : t.site ≡ u.site = sym first.site ∙ other.site in
    let list : t.list ≡ u.list = sym first.list ∙ other.list in
    let tag : t ≡ tag_at u.site t.inputs u.list =
    ap₂ (λ (s : Site) (l : List Strategy). tag_at s t.inputs l) site list in
    let near : StandsFor (tag_at u.site t.inputs u.list) kept = subst (λ (x : Tag). StandsFor x kept) tag first in
    let there : StandsFor (tag_at u.site t.inputs u.list) them = subst (λ (x : Tag). StandsFor x them) tag own in
    record {
      site = there.site;
      list = there.list;
      stored = there.stored;
      whole = there.whole;
      exact = exact-too u.site t.inputs u.inputs u.list kept.stores them.stores some other.stored near.exact
          other.exact there.exact;
    }

-- what is merged has one region pair for each kind
merged-one : (s : Site) (h k : Holding) → IsMergedTo s h k → HasKinds k
merged-one s (regions rs) (regions ms) is = is.1
merged-one s (regions rs) (entries comp es) is = absurd is
merged-one s (entries comp es) (regions ms) is = absurd (cc)
merged-one s (entries comp es) (entries c fs) is = tt

pub merged-kinds : (s : Site) (before after : List Keep) → AllZip (IsMergedKeep s) before after
    → All (λ f. HasKinds f.holding) after
merged-kinds s [] [] each = All-nil (λ f. HasKinds f.holding)
merged-kinds s (f ∷ fs) (g ∷ gs) each =
    All-cons (λ (x : Keep). HasKinds x.holding) g gs (merged-one s f.holding g.holding each.0.1)
    (merged-kinds s fs gs each.1)
merged-kinds s _ _ each = absurd each

-- ---- what can be merged

-- what is kept of the node at a place
pub mergeable-at : (a : Bool) (es : List Execution) (lists : List (List Strategy)) (keeps : List Keeping) (n : ℕ)
    (e : Execution) (list : List Strategy) (k : Keeping) → AreMergeable a es lists keeps → slice_get es n ≡ Some e
    → slice_get lists n ≡ Some list → slice_get keeps n ≡ Some k → IsMergeable a e list k
mergeable-at a [] [] [] n e list k h here there kept = cc
mergeable-at a (d ∷ es) (l ∷ lists) (m ∷ keeps) zero e list k h here there kept =
    let same : d ≡ e = cc in
    let own : l ≡ list = cc in
    let is : m ≡ k = cc in
    subst (λ (x : Execution). IsMergeable a x list k) same
    (subst (λ (x : List Strategy). IsMergeable a d x k) own
    (subst (λ (x : Keeping). IsMergeable a d l x) is h.0))
mergeable-at a (d ∷ es) (l ∷ lists) (m ∷ keeps) (suc n) e list k h here there kept =
    mergeable-at a es lists keeps n e list k h.1 here there kept
mergeable-at a _ _ _ _ e list k h here there kept = absurd h

-- also where it is not known whether the version is awaited
pub mergeable-before : (a : Bool) (es : List Execution) (lists : List (List Strategy)) (keeps : List Keeping)
    → AreMergeable a es lists keeps → AreMergeable false es lists keeps
mergeable-before a [] [] [] h = tt
mergeable-before a (d ∷ es) (l ∷ lists) (k ∷ keeps) h = (at k h.0, mergeable-before a es lists keeps h.1) where
  at : (k : Keeping) → IsMergeable a d l k → IsMergeable false d l k
  at nothing own = tt
  at (growing z p) own = refl
  at (whole k) own = own
  at (read k) own = own
mergeable-before a _ _ _ h = absurd h

-- what is kept of a version that a log gave
read-mergeable : (a : Bool) (es : List Execution) (lists : List (List Strategy)) (stores : List (Option NodeLineage))
    → FitNodes (map (λ (e : Execution). e.site) es) lists stores → AreMergeable a es lists (map keeping_from stores)
read-mergeable a [] [] [] h = tt
read-mergeable a (d ∷ es) (l ∷ lists) (None ∷ stores) h = (tt, read-mergeable a es lists stores h.1)
read-mergeable a (d ∷ es) (l ∷ lists) (Some k ∷ stores) h = (h.0.1, read-mergeable a es lists stores h.1)
read-mergeable a _ _ _ h = absurd h

-- stores that fit a version fit its executions
pub fit-executed : (v : Version) (stores : List (Option NodeLineage)) → IsSoundVersion v → Fit v stores
    → FitNodes (map (λ (e : Execution). e.site) (executions_of v)) v.lists stores
fit-executed v stores sound fit =
    subst (λ (sites : List Site). FitNodes sites v.lists stores)
    (sym (sites-same executions-count executions-at v sound.run.0 sound.run.1)) fit

by-own : (b : Bool) (v : Version) (t : Trail) → IsSoundVersion v → IsTrailBy b v t
    → AreMergeable v.awaited (executions_of v) v.lists t.kept
by-own true v t sound own =
    subst (λ (ks : List Keeping). AreMergeable v.awaited (executions_of v) v.lists ks) (sym own.kept)
    (read-mergeable v.awaited (executions_of v) v.lists (stores_read t) (fit-executed v (stores_read t) sound own.fit))
by-own false v t sound own = kept-mergeable v.awaited (executions_of v) v.lists t.kept own.1

pub by-runs : (b : Bool) (v : Version) (t : Trail) → IsTrailBy b v t → t.executions ≡ executions_of v
by-runs true v t own = own.executions
by-runs false v t own = own.0

-- so what is carried of a version can be merged
pub by-mergeable : (b : Bool) (v : Version) (t : Trail) (lists : List (List Strategy)) → IsSoundVersion v
    → lists ≡ v.lists → IsTrailBy b v t → AreMergeable v.awaited t.executions lists t.kept
by-mergeable b v t lists sound same own =
    subst (λ (es : List Execution). AreMergeable v.awaited es lists t.kept) (sym (by-runs b v t own))
    (subst (λ (ls : List (List Strategy)). AreMergeable v.awaited (executions_of v) ls t.kept) (sym same)
    (by-own b v t sound own))

-- ---- one node more

pub merged-next : (es : List Execution) (lists : List (List Strategy)) (keeps news : List Keeping) (n : ℕ)
    (e : Execution) (list : List Strategy) (k new : Keeping) → slice_get es n ≡ Some e
    → slice_get lists n ≡ Some list → slice_get keeps n ≡ Some k
    → AreMergedNodes (take n es) (take n lists) (take n keeps) news → IsMergedNode e list k new
    → AreMergedNodes (take (suc n) es) (take (suc n) lists) (take (suc n) keeps) (news ++ new ∷ [])
merged-next [] lists keeps news n e list k new here there kept h own = cc
merged-next (d ∷ es) [] keeps news n e list k new here there kept h own = cc
merged-next (d ∷ es) (l ∷ lists) [] news n e list k new here there kept h own = cc
merged-next (d ∷ es) (l ∷ lists) (m ∷ keeps) [] zero e list k new here there kept h own =
    let same : e ≡ d = cc in
    let listed : list ≡ l = cc in
    let is : k ≡ m = cc in (
      subst (λ (x : Execution). IsMergedNode x l m new) same
          (subst (λ (x : List Strategy). IsMergedNode e x m new) listed
          (subst (λ (x : Keeping). IsMergedNode e list x new) is own)),
      tt,
    )
merged-next (d ∷ es) (l ∷ lists) (m ∷ keeps) (x ∷ news) (suc n) e list k new here there kept h own =
    (h.0, merged-next es lists keeps news n e list k new here there kept h.1 own)
merged-next _ _ _ _ _ e list k new here there kept h own = absurd h

pub kinds-next : (es : List Execution) (lists : List (List Strategy)) (keeps : List Keeping) (n : ℕ) (e : Execution)
    (list : List Strategy) (k : Keeping) → slice_get es n ≡ Some e → slice_get lists n ≡ Some list
    → slice_get keeps n ≡ Some k
    → kinds_in_nodes (take n es) (take n lists) (take n keeps) ++ kinds_in_kept e list k
    ≡ kinds_in_nodes (take (suc n) es) (take (suc n) lists) (take (suc n) keeps)
kinds-next [] lists keeps n e list k here there kept = cc
kinds-next (d ∷ es) [] keeps n e list k here there kept = cc
kinds-next (d ∷ es) (l ∷ lists) [] n e list k here there kept = cc
kinds-next (d ∷ es) (l ∷ lists) (m ∷ keeps) zero e list k here there kept =
    let same : e ≡ d = cc in
    let listed : list ≡ l = cc in
    let is : k ≡ m = cc in
    ap (λ (x : Execution). kinds_in_kept x list k) same ∙ ap (λ (x : List Strategy). kinds_in_kept d x k) listed
    ∙ ap (kinds_in_kept d l) is ∙ sym (append-nil (kinds_in_kept d l m))
kinds-next (d ∷ es) (l ∷ lists) (m ∷ keeps) (suc n) e list k here there kept =
    append_assoc (kinds_in_kept d l m) (kinds_in_nodes (take n es) (take n lists) (take n keeps))
    (kinds_in_kept e list k)
    ∙ ap (λ (xs : List ℕ). kinds_in_kept d l m ++ xs) (kinds-next es lists keeps n e list k here there kept)

-- ---- what is carried then

-- it is stores of the executions
kept-merged : (es : List Execution) (lists : List (List Strategy)) (olds news : List Keeping)
    → AreMergedNodes es lists olds news → AreKeptOf true es lists olds → AreKeptOf true es lists news
kept-merged [] [] [] [] h own = tt
kept-merged [] [] [] (x ∷ news) h own = absurd h
kept-merged [] [] (k ∷ olds) news h own = absurd own
kept-merged [] (l ∷ lists) olds news h own = absurd own
kept-merged (d ∷ es) [] olds news h own = absurd own
kept-merged (d ∷ es) (l ∷ lists) [] news h own = absurd own
kept-merged (d ∷ es) (l ∷ lists) (k ∷ olds) [] h own = absurd h
kept-merged (d ∷ es) (l ∷ lists) (k ∷ olds) (x ∷ news) h own =
    (at k h.0.merged own.0, kept-merged es lists olds news h.1 own.1) where
      at : (k : Keeping) → IsMergedKeeping k x → IsKeptOf true d l k → IsKeptOf true d l x
      at nothing is one = subst (IsKeptOf true d l) (sym is) one
      at (growing z p) is one = absurd (true≢false one.0)
      at (whole kept) is one =
          let able : IsMergeable true d l (whole is.0) = subst (IsMergeable true d l) is.1 h.0.mergeable in
          subst (IsKeptOf true d l) (sym is.1) able
      at (read kept) is one = absurd one

-- or the stores that a log gave, as they were read
read-merged : (es : List Execution) (lists : List (List Strategy)) (stores : List (Option NodeLineage))
    (news : List Keeping) → AreMergedNodes es lists (map keeping_from stores) news → news ≡ map keeping_from stores
read-merged [] [] [] [] h = refl
read-merged (d ∷ es) (l ∷ lists) (None ∷ stores) (x ∷ news) h =
    ap₂ (λ (y : Keeping) (ys : List Keeping). y ∷ ys) h.0.merged (read-merged es lists stores news h.1)
read-merged (d ∷ es) (l ∷ lists) (Some k ∷ stores) (x ∷ news) h =
    ap₂ (λ (y : Keeping) (ys : List Keeping). y ∷ ys) h.0.merged (read-merged es lists stores news h.1)
read-merged _ _ _ _ h = absurd h

-- no store that was read changes
stores-merged : (es : List Execution) (lists : List (List Strategy)) (olds news : List Keeping)
    → AreMergedNodes es lists olds news → map store_read news ≡ map store_read olds
stores-merged [] [] [] [] h = refl
stores-merged (d ∷ es) (l ∷ lists) (k ∷ olds) (x ∷ news) h =
    ap₂ (λ (y : Option NodeLineage) (ys : List (Option NodeLineage)). y ∷ ys) (at k h.0.merged)
    (stores-merged es lists olds news h.1) where
      at : (k : Keeping) → IsMergedKeeping k x → store_read x ≡ store_read k
      at nothing is = ap store_read is
      at (growing z p) is = ap store_read is
      at (whole kept) is = ap store_read is.1
      at (read kept) is = ap store_read is
stores-merged _ _ _ _ h = absurd h

-- what stands of the nodes
pub stored-merged : (es : List Execution) (lists : List (List Strategy)) (olds news : List Keeping)
    → AreMergedNodes es lists olds news → AllZip IsMergedStored (map stored_of olds) (map stored_of news)
stored-merged [] [] [] [] h = tt
stored-merged (d ∷ es) (l ∷ lists) (k ∷ olds) (x ∷ news) h =
    (at k h.0.merged, stored-merged es lists olds news h.1) where
      at : (k : Keeping) → IsMergedKeeping k x → IsMergedStored (stored_of k) (stored_of x)
      at nothing is = ap stored_of is
      at (growing z p) is = ap stored_of is
      at (whole kept) is = (is.0, ap stored_of is.1, is.2)
      at (read kept) is = ap stored_of is
stored-merged _ _ _ _ h = absurd h

-- the trail of a version, merged
pub record IsTrailMerged (b : Bool) (v : Version) (t u : Trail) : Type 0 where
  pub own : IsTrailBy b v u
  pub stores : stores_read u ≡ stores_read t

pub by-merged : (b : Bool) (v : Version) (t u : Trail) (lists : List (List Strategy)) → v.awaited ≡ true
    → IsTrailBy b v t → u.executions ≡ t.executions → AreMergedNodes t.executions lists t.kept u.kept → lists ≡ v.lists
    → IsTrailMerged b v t u
by-merged b v t u lists awaited own runs merged same =
    record { own = at b own; stores = stores-merged t.executions lists t.kept u.kept merged } where
      at : (b : Bool) → IsTrailBy b v t → IsTrailBy b v u
      at true by =
          let from : AreMergedNodes t.executions lists (map keeping_from (stores_read t)) u.kept =
          subst (λ (ks : List Keeping). AreMergedNodes t.executions lists ks u.kept) by.kept merged in
          let kept : u.kept ≡ t.kept = read-merged t.executions lists (stores_read t) u.kept from ∙ sym by.kept in
          record {
            awaited = by.awaited;
            executions = runs ∙ by.executions;
            kept = kept ∙ by.kept ∙ ap (λ (ks : List Keeping). map keeping_from (map store_read ks)) (sym kept);
            fit = subst (Fit v) (ap (map store_read) (sym kept)) by.fit;
          }
      at false by =
          let placed : AreMergedNodes (executions_of v) v.lists t.kept u.kept =
          subst (λ (es : List Execution). AreMergedNodes es v.lists t.kept u.kept) by.0
          (subst (λ (ls : List (List Strategy)). AreMergedNodes t.executions ls t.kept u.kept) same merged) in
          let own : AreKeptOf true (executions_of v) v.lists t.kept =
          subst (λ (a : Bool). AreKeptOf a (executions_of v) v.lists t.kept) awaited by.1 in (
            runs ∙ by.0,
            subst (λ (a : Bool). AreKeptOf a (executions_of v) v.lists u.kept) (sym awaited)
                (kept-merged (executions_of v) v.lists t.kept u.kept placed own),
          )

-- and where nothing of it changed
pub trail-unmerged : (b : Bool) (v : Version) (t u : Trail) → IsTrailBy b v t → u ≡ t → IsTrailMerged b v t u
trail-unmerged b v t u own same =
    record { own = subst (IsTrailBy b v) (sym same) own; stores = ap stores_read same }

-- ---- one of a list in the code

-- what is known of the node at a place, as the code reads it
pub record IsNodeAt (a : Bool) (runs : List NodeRun) (lists : List (List Strategy)) (before : List NodeKeeping)
    (n : ℕ) (run : NodeRun) (list : List Strategy) (kept : NodeKeeping) : Type 0 where
  pub here : slice_get (map execution_of runs) n ≡ Some (execution_of run)
  pub listed : slice_get lists n ≡ Some list
  pub there : slice_get (map keeping_of before) n ≡ Some (keeping_of kept)
  pub own : IsMergeable a (execution_of run) list (keeping_of kept)

pub few-lists : (a : Bool) (runs : List NodeRun) (lists : List (List Strategy)) (before : List NodeKeeping) (n : ℕ)
    → AreMergeable a (map execution_of runs) lists (map keeping_of before) → n < length runs → n < length lists
few-lists a runs lists before n own few =
    let long = mergeable-length a (map execution_of runs) lists (map keeping_of before) own in
    omega (arith, few, long.1, length-map runs execution_of)

pub few-kept : (a : Bool) (runs : List NodeRun) (lists : List (List Strategy)) (before now : List NodeKeeping) (n : ℕ)
    → AreMergeable a (map execution_of runs) lists (map keeping_of before) → map keeping_of now ≡ map keeping_of before
    → n < length runs → n < length now
few-kept a runs lists before now n own same few =
    let long = mergeable-length a (map execution_of runs) lists (map keeping_of before) own in
    let count : length (map keeping_of now) ≡ length (map keeping_of before) =
    ap (λ (ks : List Keeping). length ks) same in
    omega (arith, few, long.0, count, length-map runs execution_of, length-map now keeping_of)

pub node-at : (a : Bool) (runs : List NodeRun) (lists : List (List Strategy)) (before now : List NodeKeeping) (n : ℕ)
    (run : NodeRun) (list : List Strategy) (kept : NodeKeeping)
    → AreMergeable a (map execution_of runs) lists (map keeping_of before) → map keeping_of now ≡ map keeping_of before
    → n < length runs → run ≡ get_or runs n run → list ≡ get_or lists n list → kept ≡ get_or now n kept
    → IsNodeAt a runs lists before n run list kept
node-at a runs lists before now n run list kept own same few is listed_is kept_is =
    let below = few-lists a runs lists before n own few in
    let within = few-kept a runs lists before now n own same few in
    let here = read-at execution_of runs n run few is in
    let listed = slice_get_read lists (length lists) n list refl below listed_is in
    let there = ap (λ (ks : List Keeping). slice_get ks n) (sym same) ∙ read-at keeping_of now n kept within kept_is in
    record {
      here = here;
      listed = listed;
      there = there;
      own = mergeable-at a (map execution_of runs) lists (map keeping_of before) n (execution_of run) list
          (keeping_of kept) own here listed there;
    }

-- at the end all of them are taken
pub all-taken : (a : Bool) (runs : List NodeRun) (lists : List (List Strategy)) (before : List NodeKeeping) (n : ℕ)
    → AreMergeable a (map execution_of runs) lists (map keeping_of before) → length runs ≤ n
    → (take n (map execution_of runs) ≡ map execution_of runs) × (take n lists ≡ lists)
    × (take n (map keeping_of before) ≡ map keeping_of before)
all-taken a runs lists before n own end =
    let es = map execution_of runs in
    let ks = map keeping_of before in
    let long = mergeable-length a es lists ks own in
    let many : length es ≤ n = omega (arith, end, length-map runs execution_of) in (
      take_all n es many,
      take_all n lists (omega (arith, many, long.1)),
      take_all n ks (omega (arith, many, long.0)),
    )

-- with one changed of which nothing is seen
pub same-at : (before now : List NodeKeeping) (n : ℕ) (new kept : NodeKeeping)
    → map keeping_of now ≡ map keeping_of before → keeping_of new ≡ keeping_of (get_or now n kept)
    → map keeping_of (set now n new) ≡ map keeping_of before
same-at before now n new kept same one = map-set_same keeping_of now n new kept one ∙ same

-- ---- stores that were made, and what lies on their shelf

-- Stores of an execution for a list stand for a tag, and so does what lies on the shelf.
pub record AreShelved (e : Execution) (list : List Strategy) (t : Tag) (kept them : NodeLineage) : Type 0 where
  pub stored : has_stored list ≡ true
  pub first : StandsFor t kept
  pub own : AreStoresFor e list kept
  pub there : StandsFor t them

-- the tag has the operator and the list
pub shelved-site : (e : Execution) (list : List Strategy) (t : Tag) (kept : NodeLineage) → StandsFor t kept
    → AreStoresFor e list kept → t.site ≡ e.site
shelved-site e list t kept first own = sym first.site ∙ own.site

pub shelved-list : (e : Execution) (list : List Strategy) (t : Tag) (kept : NodeLineage) → StandsFor t kept
    → AreStoresFor e list kept → t.list ≡ list
shelved-list e list t kept first own = sym first.list ∙ own.list

-- what lies there is stores of the execution
pub shelved-own : (e : Execution) (list : List Strategy) (t : Tag) (kept them : NodeLineage)
    → AreShelved e list t kept them → AreStoresFor e list them
shelved-own e list t kept them h = stands-too t (tag_for e list) kept them h.stored h.first h.own h.there

-- and what is merged of it is so, and may lie there
pub merged-own : (e : Execution) (list : List Strategy) (t : Tag) (kept them after : NodeLineage)
    (bytes kinds : List ℕ) → AreShelved e list t kept them → AreMerged e.site list them.stores after bytes kinds
    → AreStoresFor e list after
merged-own e list t kept them after bytes kinds h merged =
    stands-merged (tag_for e list) e.site list them after bytes kinds (shelved-own e list t kept them h) refl refl
    merged

pub merged-there : (e : Execution) (list : List Strategy) (t : Tag) (kept them after : NodeLineage)
    (bytes kinds : List ℕ) → AreShelved e list t kept them → AreMerged e.site list them.stores after bytes kinds
    → StandsFor t after
merged-there e list t kept them after bytes kinds h merged =
    stands-merged t e.site list them after bytes kinds h.there (shelved-site e list t kept h.first h.own)
    (shelved-list e list t kept h.first h.own) merged

-- the numbers that are told of it are those of the execution
pub merged-told : (e : Execution) (list : List Strategy) (t : Tag) (kept them after : NodeLineage)
    (bytes kinds : List ℕ) → AreShelved e list t kept them → AreMerged e.site list them.stores after bytes kinds
    → extents_of e.inputs ≡ e.site.ins → list_all (supports e.site.op) list ≡ true
    → shape_of e.site.op e.site.ins ≡ Ok e.site.out
    → kinds ≡ map (λ (s : Strategy). kinds_of e.site.op e.inputs) (paired_in list)
merged-told e list t kept them after bytes kinds h merged shapes supported rule =
    numbers-told (tag_for e list) them after bytes kinds
    (record { shapes = shapes; supported = all-supported e.site.op list supported; stored = h.stored }) rule
    (shelved-own e list t kept them h) merged
