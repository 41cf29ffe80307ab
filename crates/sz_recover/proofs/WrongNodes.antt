-- The first node that has a wrong store.
--
-- The key idea: the executions, the lists and the stores go side by side, so what is known of all is known at a place,
-- and one sound node more stands behind those that are sound.
use Rattle.std.proofs.Common.{◌≡◌, ℕ, suc, zero, ◌+◌, ◌<◌, List, [], ◌∷◌, ◌++◌, map, take, length, Option, Some}
use Rattle.std.proofs.Common.{drop, get_or, add-one, drop-cons}
use Rattle.std.proofs.lemmas.List.{take-append-drop}
use Rattle.std.proofs.Common.{None, sym, ap, subst, ◌∙◌, arith, true}
use Rattle.std.specs.Prelude.{All}
use Rattle.std.specs.List.{AllZip, slice_get}
use Rattle.std.proofs.lemmas.Bool.{and_parts}
use Rattle.std.proofs.lemmas.List.Elements.{All-get_or}
use Rattle.std.proofs.lemmas.Option.{slice_get_within, get_or_from_slice_get}
use Rattle.sz_spec.specs.declared.flow.Node.{Node}
use Rattle.sz_spec.specs.declared.modes.Strategy.{Strategy}
use Rattle.sz_spec.specs.Shapes.{Site}
use Rattle.sz_flow.specs.Executions.{Execution}
use Rattle.sz_store.specs.Kept.{Keep, NodeLineage}
use Rattle.sz_catalogue.specs.Holdings.{Version, Holdings}
use Rattle.sz_catalogue.specs.Rules.{is_list_for, are_lists_for, version_of}
use Rattle.sz_bodies.specs.Fitting.{FitsNode, FitNodes, site_in}
use Rattle.sz_recover.specs.Comparing.{IsListAt}
use Rattle.sz_recover.specs.Logs.{Kept}
use Rattle.sz_recover.specs.Soundness.{IsSoundNode, AreSoundNodes, AreSoundKept, TellsOfNode, TellsOfEntry}
use Rattle.sz_recover.specs.Soundness.{IsFirstWrongNode, IsFirstWrong, IsExact, IsSoundKept, executions_of}
use Rattle.sz_recover.specs.Soundness.{WrongStoresAreUnsound}
use Rattle.sz_recover.proofs.Wrong.{all-at}
use Rattle.sz_recover.specs.declared.checking.WrongStore.{WrongStore}

abbrev sites : List Execution → List Site
sites es = map (λ (e : Execution). e.site) es

pub fits-at : (n : ℕ) (es : List Execution) (lists : List (List Strategy)) (stores : List (Option NodeLineage))
    (e : Execution) (list : List Strategy) (kept : Option NodeLineage) → FitNodes (sites es) lists stores
    → slice_get es n ≡ Some e → slice_get lists n ≡ Some list → slice_get stores n ≡ Some kept
    → FitsNode e.site list kept
fits-at n [] [] [] e list kept fit here own there = cc
fits-at n [] [] (k ∷ stores) e list kept fit here own there = absurd fit
fits-at n [] (l ∷ lists) stores e list kept fit here own there = absurd fit
fits-at n (x ∷ es) [] stores e list kept fit here own there = absurd fit
fits-at n (x ∷ es) (l ∷ lists) [] e list kept fit here own there = absurd fit
fits-at zero (x ∷ es) (l ∷ lists) (k ∷ stores) e list kept fit here own there =
    let one : x ≡ e = cc in
    let same : l ≡ list = cc in
    let store : k ≡ kept = cc in
    subst (λ (y : Execution). FitsNode y.site list kept) one
    (subst (λ (y : List Strategy). FitsNode x.site y kept) same
    (subst (λ (y : Option NodeLineage). FitsNode x.site l y) store fit.0))
fits-at (suc n) (x ∷ es) (l ∷ lists) (k ∷ stores) e list kept fit here own there =
    fits-at n es lists stores e list kept fit.1 here own there

pub zip-at : {X Y : Type 0} (R : X → Y → Type 0) (n : ℕ) (xs : List X) (ys : List Y) (x : X) (y : Y) → AllZip R xs ys
    → slice_get xs n ≡ Some x → slice_get ys n ≡ Some y → R x y
zip-at R n [] [] x y all here there = cc
zip-at R n [] (b ∷ ys) x y all here there = absurd all
zip-at R n (a ∷ xs) [] x y all here there = absurd all
zip-at R zero (a ∷ xs) (b ∷ ys) x y all here there =
    let one : a ≡ x = cc in
    let two : b ≡ y = cc in
    subst (λ z. R z y) one (subst (λ z. R a z) two all.0)
zip-at R (suc n) (a ∷ xs) (b ∷ ys) x y all here there = zip-at R n xs ys x y all.1 here there

zip-more : {X Y : Type 0} (R : X → Y → Type 0) (n : ℕ) (xs : List X) (ys : List Y) (x : X) (y : Y)
    → slice_get xs n ≡ Some x → slice_get ys n ≡ Some y → AllZip R (take n xs) (take n ys) → R x y
    → AllZip R (take (suc n) xs) (take (suc n) ys)
zip-more R n [] ys x y here there all one = cc
zip-more R n (a ∷ xs) [] x y here there all one = cc
zip-more R zero (a ∷ xs) (b ∷ ys) x y here there all one =
    let first : a ≡ x = cc in
    let second : b ≡ y = cc in
    (subst (λ z. R z b) (sym first) (subst (λ z. R x z) (sym second) one), tt)
zip-more R (suc n) (a ∷ xs) (b ∷ ys) x y here there all one =
    (all.0, zip-more R n xs ys x y here there all.1 one)

pub all-of : {X : Type 0} (P : X → Type 0) (xs : List X) (n : ℕ) (x : X) → All P xs → slice_get xs n ≡ Some x → P x
all-of P xs n x all here =
    subst P (get_or_from_slice_get xs n x x here) (All-get_or P xs n x (slice_get_within xs n x here) all)

-- One node more is sound.
pub nodes-more : (n : ℕ) (es : List Execution) (stores : List (Option NodeLineage)) (e : Execution)
    (kept : Option NodeLineage) → slice_get es n ≡ Some e → slice_get stores n ≡ Some kept
    → AreSoundNodes (take n es) (take n stores) → IsSoundNode e kept
    → AreSoundNodes (take (n + 1) es) (take (n + 1) stores)
nodes-more n es stores e kept here there all one =
    let is : suc n ≡ n + 1 = omega arith in
    subst (λ (k : ℕ). AreSoundNodes (take k es) (take k stores)) is
    (zip-more IsSoundNode n es stores e kept here there all one)

-- A node with a wrong store is the first one where those before it are sound.
pub node-wrong : (n : ℕ) (es : List Execution) (stores : List (Option NodeLineage)) (e : Execution)
    (kept : Option NodeLineage) (s : Strategy) → slice_get es n ≡ Some e → slice_get stores n ≡ Some kept
    → AreSoundNodes (take n es) (take n stores) → TellsOfNode e kept (Some s) → IsFirstWrongNode es stores n s
node-wrong n es stores e None s here there all told = absurd told
node-wrong n es stores e (Some kept) s here there all told =
    record { e = e; kept = kept; executed = here; there = there; sound = all; wrong = told }

-- The lists of a version are for the operators that are executed.
lists-in : (v : Version) (nodes : List Node) (lists : List (List Strategy)) (es : List Execution)
    → sites es ≡ map (site_in v) nodes → are_lists_for nodes lists ≡ true → AllZip IsListAt es lists
lists-in v [] [] [] same right = tt
lists-in v [] [] (e ∷ es) same right = cc
lists-in v [] (l ∷ lists) es same right = cc
lists-in v (x ∷ nodes) [] es same right = cc
lists-in v (x ∷ nodes) (l ∷ lists) [] same right = cc
lists-in v (x ∷ nodes) (l ∷ lists) (e ∷ es) same right =
    let first : e.site ≡ site_in v x = cc in
    let rest : sites es ≡ map (site_in v) nodes = cc in
    let parts = and_parts (is_list_for x.op l) (are_lists_for nodes lists) right in
    (ap (λ (s : Site). is_list_for s.op l) first ∙ parts.0, lists-in v nodes lists es rest parts.1)

pub lists-executed : (v : Version) (es : List Execution) → sites es ≡ map (site_in v) v.flow.nodes
    → are_lists_for v.flow.nodes v.lists ≡ true → AllZip IsListAt es v.lists
lists-executed v es same right = lists-in v v.flow.nodes v.lists es same right

-- ---- entries

parts-at : {X : Type 0} (xs : List X) (i : ℕ) (x : X) → i < length xs → x ≡ get_or xs i x
    → xs ≡ take i xs ++ x ∷ drop (i + 1) xs
parts-at {X} xs i x inside at =
    let rest : drop i xs ≡ x ∷ drop (i + 1) xs =
    rw (add-one) (drop-cons xs i x inside ∙ ap (λ (y : X). y ∷ drop (suc i) xs) (sym at)) in
    sym (take-append-drop i xs) ∙ ap (λ (ys : List X). take i xs ++ ys) rest

-- An entry with a wrong store is the first one where those before it are sound.
pub entry-wrong : (c : Holdings) (kept : List Kept) (i : ℕ) (k : Kept) (w : WrongStore) → i < length kept
    → k ≡ get_or kept i k → AreSoundKept c (take i kept) → TellsOfEntry c k (Some w) → IsFirstWrong c kept w
entry-wrong c kept i k w inside at sound told = record {
  before = take i kept;
  one = k;
  after = drop (i + 1) kept;
  all = parts-at kept i k inside at;
  sound = sound;
  number = told.0;
  wrong = told.1;
}

-- ---- law

-- A first wrong store is one that is not exact, among stores that would all be.
pub first-unsound : WrongStoresAreUnsound
first-unsound c kept w first sound =
    let es = executions_of (version_of c first.one.number) in
    let entries : All (IsSoundKept c) (first.before ++ first.one ∷ first.after) =
    subst (λ (ks : List Kept). All (IsSoundKept c) ks) first.all sound in
    let entry : AreSoundNodes es first.one.stores =
    all-at (IsSoundKept c) first.before first.after first.one entries in
    let node = first.wrong in
    let stores = zip-at IsSoundNode w.node es first.one.stores node.e (Some node.kept) entry node.executed node.there in
    let store = node.wrong in
    let P : Keep → Type 0 = λ f. IsExact node.e f.holding in
    let parts : All P (store.before ++ store.wrong ∷ store.after) =
    subst (λ (fs : List Keep). All P fs) store.all stores in
    store.unsound (all-at P store.before store.after store.wrong parts)
