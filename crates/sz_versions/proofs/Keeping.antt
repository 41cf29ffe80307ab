-- What is kept of each node of a version, at its place.
use Rattle.std.proofs.Common.{◌≡◌, ℕ, suc, zero, List, [], ◌∷◌, ◌++◌, map, length, Bool, true}
use Rattle.std.proofs.Common.{◌<◌, ◌≤◌, ◌+◌, take, get_or, refl, sym, ap, ◌∙◌, subst, arith, Some}
use Rattle.std.proofs.Common.{set}
use Rattle.std.proofs.Math.Seq.{take-suc}
use Rattle.std.specs.List.{All, AllZip, list_all, slice_get}
use Rattle.std.specs.Option.{option_map}
use Rattle.std.proofs.lemmas.Bool.{and_parts}
use Rattle.std.proofs.lemmas.List.{length-map, map-append, take_all}
use Rattle.std.proofs.lemmas.List.Elements.{All-nil, All-cons}
use Rattle.std.proofs.lemmas.Option.{slice_get-map, slice_get_read, slice_get_within}
use Rattle.sz_spec.specs.declared.flow.Node.{Node}
use Rattle.sz_spec.specs.declared.op.Op.{Op}
use Rattle.sz_spec.specs.declared.modes.Strategy.{Strategy}
use Rattle.sz_spec.specs.Values.{Grid}
use Rattle.sz_spec.specs.Flows.{array_of}
use Rattle.sz_spec.specs.Modes.{supports}
use Rattle.sz_flow.specs.Executions.{Execution, execution, executions_from, execution_of}
use Rattle.sz_flow.specs.declared.node_run.NodeRun.{NodeRun}
use Rattle.sz_catalogue.specs.Rules.{is_list_for, are_lists_for}
use Rattle.sz_recover.proofs.WrongNodes.{zip-at}
use Rattle.sz_versions.specs.Stores.{Keeping, nothing, growing, whole, read, IsKeptOf, AreKeptOf, AreListed, IsOwn}
use Rattle.sz_versions.specs.Stores.{keeping_of}
use Rattle.sz_versions.specs.Merging.{IsMergeable, AreMergeable}
use Rattle.sz_versions.specs.declared.runs.NodeKeeping.{NodeKeeping}
use Rattle.sz_versions.proofs.PathViews.{list-parts}

-- ---- what is kept of each node

-- what a list for an operator has is supported, one after another
pub all-supported : (op : Op) (list : List Strategy) → list_all (supports op) list ≡ true
    → All (λ t. supports op t ≡ true) list
all-supported op [] h = All-nil (λ t. supports op t ≡ true)
all-supported op (t ∷ list) h =
    let both = and_parts (supports op t) (list_all (supports op) list) h in
    All-cons (λ u. supports op u ≡ true) t list both.0 (all-supported op list both.1)

-- each node's list is one for the operator of its execution
pub lists-listed : (base outs : List Grid) (nodes : List Node) (lists : List (List Strategy))
    → are_lists_for nodes lists ≡ true → AreListed (executions_from base outs nodes) lists
lists-listed base outs [] [] fit = tt
lists-listed base outs [] (list ∷ lists) fit = cc
lists-listed base outs (x ∷ nodes) [] fit = cc
lists-listed base outs (x ∷ nodes) (list ∷ lists) fit =
    let both = and_parts (is_list_for x.op list) (are_lists_for nodes lists) fit in
    let e = execution x.op (map (array_of base outs) x.from) in
    ((list-parts x.op list both.0).1, lists-listed base (outs ++ e.out ∷ []) nodes lists both.1)

-- and is so at its place
pub listed-at : (es : List Execution) (lists : List (List Strategy)) (n : ℕ) (e : Execution) (list : List Strategy)
    → AreListed es lists → slice_get es n ≡ Some e → slice_get lists n ≡ Some list
    → list_all (supports e.site.op) list ≡ true
listed-at es lists n e list h here there =
    zip-at (λ (d : Execution) (l : List Strategy). list_all (supports d.site.op) l ≡ true) n
    es lists e list h here there

pub listed-length : (es : List Execution) (lists : List (List Strategy)) → AreListed es lists
    → length lists ≡ length es
listed-length [] [] h = refl
listed-length (d ∷ es) (l ∷ lists) h = ap suc (listed-length es lists h.1)
listed-length _ _ h = absurd h

-- one node more
pub kept-more : (b : Bool) (es : List Execution) (lists : List (List Strategy)) (keeps : List Keeping)
    (e : Execution) (list : List Strategy) (kept : Keeping) → AreKeptOf b es lists keeps
    → IsKeptOf b e list kept → AreKeptOf b (es ++ e ∷ []) (lists ++ list ∷ []) (keeps ++ kept ∷ [])
kept-more b [] [] [] e list kept h own = (own, tt)
kept-more b (d ∷ es) (l ∷ lists) (k ∷ keeps) e list kept h own =
    (h.0, kept-more b es lists keeps e list kept h.1 own)
kept-more b _ _ _ e list kept h own = absurd h

-- what is kept of the node at a place
pub kept-at : (b : Bool) (es : List Execution) (lists : List (List Strategy)) (keeps : List Keeping) (n : ℕ)
    (e : Execution) (list : List Strategy) → AreKeptOf b es lists keeps → slice_get es n ≡ Some e
    → slice_get lists n ≡ Some list → (kept : Keeping) × (slice_get keeps n ≡ Some kept) × IsKeptOf b e list kept
kept-at b [] [] [] n e list h here there = cc
kept-at b (d ∷ es) (l ∷ lists) (k ∷ keeps) zero e list h here there =
    let same : d ≡ e = cc in
    let own : l ≡ list = cc in (
      k,
      refl,
      subst (λ (x : Execution). IsKeptOf b x list k) same
          (subst (λ (x : List Strategy). IsKeptOf b d x k) own h.0),
    )
kept-at b (d ∷ es) (l ∷ lists) (k ∷ keeps) (suc n) e list h here there =
    kept-at b es lists keeps n e list h.1 here there
kept-at b _ _ _ _ e list h here there = absurd h

-- there is something, and a list, for each execution
pub mergeable-length : (a : Bool) (es : List Execution) (lists : List (List Strategy)) (keeps : List Keeping)
    → AreMergeable a es lists keeps → (length keeps ≡ length es) × (length lists ≡ length es)
mergeable-length a [] [] [] h = (refl, refl)
mergeable-length a (d ∷ es) (l ∷ lists) (k ∷ keeps) h =
    let rest = mergeable-length a es lists keeps h.1 in (ap suc rest.0, ap suc rest.1)
mergeable-length a _ _ _ h = absurd h

-- what is kept of a version that was started here can be merged
pub kept-mergeable : (a : Bool) (es : List Execution) (lists : List (List Strategy)) (keeps : List Keeping)
    → AreKeptOf a es lists keeps → AreMergeable a es lists keeps
kept-mergeable a [] [] [] h = tt
kept-mergeable a (d ∷ es) (l ∷ lists) (k ∷ keeps) h = (at k h.0, kept-mergeable a es lists keeps h.1) where
  at : (k : Keeping) → IsKeptOf a d l k → IsMergeable a d l k
  at nothing own = tt
  at (growing z p) own = own.0
  at (whole k) own = own
  at (read k) own = absurd own
kept-mergeable a _ _ _ h = absurd h

pub kept-length : (b : Bool) (es : List Execution) (lists : List (List Strategy)) (keeps : List Keeping)
    → AreKeptOf b es lists keeps → (length keeps ≡ length es) × (length lists ≡ length es)
kept-length b es lists keeps h = mergeable-length b es lists keeps (kept-mergeable b es lists keeps h)

-- a pass that is kept is of the shelf beside it
pub kept-own : (b : Bool) (e : Execution) (list : List Strategy) (k : Keeping) → IsKeptOf b e list k → IsOwn k
kept-own b e list nothing own = tt
kept-own b e list (growing z p) own = own.2.own
kept-own b e list (whole k) own = tt
kept-own b e list (read k) own = tt

pub keeps-own : (b : Bool) (es : List Execution) (lists : List (List Strategy)) (keeps : List Keeping)
    → AreKeptOf b es lists keeps → All IsOwn keeps
keeps-own b [] [] [] h = All-nil IsOwn
keeps-own b (d ∷ es) (l ∷ lists) (k ∷ keeps) h =
    All-cons IsOwn k keeps (kept-own b d l k h.0) (keeps-own b es lists keeps h.1)
keeps-own b _ _ _ h = absurd h

-- ---- as the code reads them

pub read-at : {X Y : Type 0} (f : X → Y) (xs : List X) (n : ℕ) (x : X) → n < length xs → x ≡ get_or xs n x
    → slice_get (map f xs) n ≡ Some (f x)
read-at {X} {Y} f xs n x few is =
    slice_get-map f xs n ∙ ap (option_map f) (slice_get_read xs (length xs) n x refl few is)

pub kept-read : (b : Bool) (es : List Execution) (lists : List (List Strategy)) (stores : List NodeKeeping) (n : ℕ)
    (e : Execution) (list : List Strategy) (store : NodeKeeping) → AreKeptOf b es lists (map keeping_of stores)
    → slice_get es n ≡ Some e → slice_get lists n ≡ Some list → store ≡ get_or stores n store
    → IsKeptOf b e list (keeping_of store)
kept-read b es lists stores n e list store own here there is =
    let kept = kept-at b es lists (map keeping_of stores) n e list own here there in
    let few : n < length stores =
    omega (arith, slice_get_within (map keeping_of stores) n kept.0 kept.1, length-map stores keeping_of) in
    let both : Some kept.0 ≡ Some (keeping_of store) = sym kept.1 ∙ read-at keeping_of stores n store few is in
    let same : kept.0 ≡ keeping_of store = cc in
    subst (λ (k : Keeping). IsKeptOf b e list k) same kept.2

-- one more of the first so many
pub one-taken : {X : Type 0} (xs : List X) (j : ℕ) (x : X) → j < length xs → x ≡ get_or xs j x
    → take (j + 1) xs ≡ take j xs ++ x ∷ []
one-taken {X} xs j x below is =
    let one : j + 1 ≡ suc j = omega arith in
    ap (λ n. take n xs) one ∙ take-suc xs j x below ∙ ap (λ (y : X). take j xs ++ y ∷ []) (sym is)

-- there is a list for each run
pub list-below : (runs : List NodeRun) (lists : List (List Strategy)) (n : ℕ) → AreListed (map execution_of runs) lists
    → n < length runs → n < length lists
list-below runs lists n listed few =
    omega (arith, few, listed-length (map execution_of runs) lists listed, length-map runs execution_of)

-- a run and its list, at their place, and the first so many with them
pub record IsListedAt (runs : List NodeRun) (lists : List (List Strategy)) (n : ℕ) (run : NodeRun)
    (list : List Strategy) : Type 0 where
  pub here : slice_get (map execution_of runs) n ≡ Some (execution_of run)
  pub listed : slice_get lists n ≡ Some list
  pub supported : list_all (supports (execution_of run).site.op) list ≡ true
  pub runs_more : take (n + 1) runs ≡ take n runs ++ run ∷ []
  pub lists_more : take (n + 1) lists ≡ take n lists ++ list ∷ []

pub listed-run : (runs : List NodeRun) (lists : List (List Strategy)) (n : ℕ) (run : NodeRun) (list : List Strategy)
    → AreListed (map execution_of runs) lists → n < length runs → run ≡ get_or runs n run → list ≡ get_or lists n list
    → IsListedAt runs lists n run list
listed-run runs lists n run list all few run_is list_is =
    let below = list-below runs lists n all few in
    let here = read-at execution_of runs n run few run_is in
    let listed = slice_get_read lists (length lists) n list refl below list_is in
    record {
      here = here;
      listed = listed;
      supported = listed-at (map execution_of runs) lists n (execution_of run) list all here listed;
      runs_more = one-taken runs n run few run_is;
      lists_more = one-taken lists n list below list_is;
    }

-- what is kept of the first so many, with one more
pub kept-one : (b : Bool) {runs : List NodeRun} {lists : List (List Strategy)} {n : ℕ} {run : NodeRun}
    {list : List Strategy} (stores : List NodeKeeping) (store : NodeKeeping) → IsListedAt runs lists n run list
    → AreKeptOf b (map execution_of (take n runs)) (take n lists) (map keeping_of stores)
    → IsKeptOf b (execution_of run) list (keeping_of store)
    → AreKeptOf b (map execution_of (take (n + 1) runs)) (take (n + 1) lists) (map keeping_of (stores ++ store ∷ []))
kept-one b {runs} {lists} {n} {run} {list} stores store h kept own =
    let es = ap (λ (xs : List NodeRun). map execution_of xs) h.runs_more
    ∙ map-append execution_of (take n runs) (run ∷ []) in
    rw (es, h.lists_more, map-append keeping_of stores (store ∷ []))
    (kept-more b (map execution_of (take n runs)) (take n lists) (map keeping_of stores) (execution_of run) list
    (keeping_of store) kept own)

-- and of all
pub kept-all : (b : Bool) (runs : List NodeRun) (lists : List (List Strategy)) (n : ℕ) (keeps : List Keeping)
    → AreListed (map execution_of runs) lists → length runs ≤ n
    → AreKeptOf b (map execution_of (take n runs)) (take n lists) keeps
    → AreKeptOf b (map execution_of runs) lists keeps
kept-all b runs lists n keeps listed end kept =
    let long = listed-length (map execution_of runs) lists listed in
    let all : length lists ≤ n = omega (arith, end, long, length-map runs execution_of) in
    rw (take_all n runs end, take_all n lists all) at kept

-- ---- what is kept once it was changed

-- one that was changed is changed once more, where one change goes on from another
pub zip-set : (R : Keeping → Keeping → Type 0) → ((k l m : Keeping) → R k l → R l m → R k m) → (ks : List Keeping)
    (xs : List NodeKeeping) (n : ℕ) (y d : NodeKeeping) → AllZip R ks (map keeping_of xs)
    → R (keeping_of (get_or xs n d)) (keeping_of y) → AllZip R ks (map keeping_of (set xs n y))
zip-set R on [] [] n y d zip more = zip
zip-set R on (k ∷ ks) [] n y d zip more = zip
zip-set R on [] (x ∷ xs) n y d zip more = absurd zip
zip-set R on (k ∷ ks) (x ∷ xs) zero y d zip more = (on k (keeping_of x) (keeping_of y) zip.0 more, zip.1)
zip-set R on (k ∷ ks) (x ∷ xs) (suc n) y d zip more = (zip.0, zip-set R on ks xs n y d zip.1 more)

-- and is kept of the same execution, where each change leaves that
pub zip-kept : (R : Keeping → Keeping → Type 0) (b : Bool)
    → ((e : Execution) (list : List Strategy) (k l : Keeping) → R k l → IsKeptOf b e list k → IsKeptOf b e list l)
    → (es : List Execution) (lists : List (List Strategy)) (ks ls : List Keeping) → AllZip R ks ls
    → AreKeptOf b es lists ks → AreKeptOf b es lists ls
zip-kept R b on es lists [] [] zip own = own
zip-kept R b on es lists [] (l ∷ ls) zip own = absurd zip
zip-kept R b on es lists (k ∷ ks) [] zip own = absurd zip
zip-kept R b on [] [] (k ∷ ks) (l ∷ ls) zip own = absurd own
zip-kept R b on [] (m ∷ lists) (k ∷ ks) (l ∷ ls) zip own = absurd own
zip-kept R b on (d ∷ es) [] (k ∷ ks) (l ∷ ls) zip own = absurd own
zip-kept R b on (d ∷ es) (m ∷ lists) (k ∷ ks) (l ∷ ls) zip own =
    (on d m k l zip.0 own.0, zip-kept R b on es lists ks ls zip.1 own.1)
