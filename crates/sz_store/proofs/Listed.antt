-- Lists of stores and of strategies, one element after the other.
use Rattle.std.proofs.Common.{◌≡◌, ℕ, zero, suc, ◌+◌, ◌<◌, ◌≤◌, ◌==◌, Bool, true, false, not, ◌||◌, List, [], ◌∷◌, ◌++◌}
use Rattle.std.proofs.Common.{length, map, get_or, set, take, drop, refl, sym, ap, ap₂, subst}
use Rattle.std.proofs.Common.{◌∙◌, true≢false, inl, inr}
use Rattle.std.proofs.Common.{arith, eqb-true, eq-eqb, get_or-set_other, drop-cons, append-nil, All}
use Rattle.std.specs.List.{list_any}
use Rattle.std.proofs.lemmas.Bool.{cases_Bool}
use Rattle.std.proofs.lemmas.List.{get_or-set_same, get_or_default, take_more, take-append-drop, get_or-map}
use Rattle.std.proofs.lemmas.List.Elements.{filter-append}
use Rattle.sz_spec.specs.declared.modes.Strategy.{Strategy}
use Rattle.sz_spec.specs.declared.modes.Strategy.TheVariants as strategy
use Rattle.sz_spec.specs.Modes.{number_of, is_stored, is_listed}
use Rattle.sz_spec.specs.Shapes.{Site}
use Rattle.sz_frame.specs.Parts.{Parts}
use Rattle.sz_region.specs.LawsStores.{AreRight}
use Rattle.sz_frame.proofs.Passing.{any-map}
use Rattle.sz_store.specs.Kept.{Keep, NodeLineage, empty_keep, keep_at, keep_with, holding_for, stored_in}
use Rattle.sz_store.specs.Stocks.{stock_of, keep_of, site_of}
use Rattle.sz_store.specs.Words.{IsWordOf, AreWordsOf, BeginEach, NoneBegin}
use Rattle.sz_store.specs.declared.stores.ListedStore.{ListedStore}
use Rattle.sz_store.proofs.Parting.{or-cases}
use Rattle.sz_store.proofs.Placing.{all-of_map}
use Rattle.sz_store.proofs.Reading.{each-behind, each-front, words-append}

-- what the first store of a strategy keeps
pub held-first : (t : Strategy) (stores : List ListedStore) (i : ℕ) (d : ListedStore) → i < length stores
    → ((k : ℕ) → k < i → (number_of (get_or stores k d).strategy == number_of t) ≡ false)
    → (number_of (get_or stores i d).strategy == number_of t) ≡ true
    → (stock_of (get_or stores i d).kept).holding ≡ holding_for t (map keep_of stores)
held-first t [] i d inside before here = absurd (omega arith)
held-first t (l ∷ ls) zero d inside before here = rw here refl
held-first t (l ∷ ls) (suc i) d inside before here =
    rw (before 0 (omega arith)) (held-first t ls i d (omega arith) (λ k below. before (suc k) (omega arith)) here)

-- ---- the store at a place

-- the operator that it is for
pub own-site : (stores : List ListedStore) (place : ℕ) (l : ListedStore) (s : Site) (view : NodeLineage)
    → All (λ x. x ≡ s) (map site_of stores) → place < length stores → l ≡ get_or stores place l → s ≡ view.site
    → site_of l ≡ view.site
own-site stores place l s view same inside is seen =
    ap site_of is ∙ all-of_map (λ (x : Site). x ≡ s) site_of stores same place l inside ∙ seen

-- the store, as the node's stores have it
pub keep-here : (stores : List ListedStore) (place : ℕ) (l : ListedStore) (view : NodeLineage)
    → map keep_of stores ≡ view.stores → place < length stores → l ≡ get_or stores place l
    → keep_of l ≡ keep_at view.stores place
keep-here stores place l view seen inside is =
    ap keep_of is ∙ sym (get_or-map keep_of stores place l (empty_keep strategy.Map) inside)
    ∙ ap (λ (fs : List Keep). keep_at fs place) seen

-- ---- stores with a lineage more

-- each by itself, and all
pub all-with : (p : Parts) (new old : List ListedStore) → length new ≡ length old
    → ((k : ℕ) (d : ListedStore) → k < length new
    → keep_of (get_or new k d) ≡ keep_with p (keep_of (get_or old k d)))
    → map keep_of new ≡ map (keep_with p) (map keep_of old)
all-with p [] [] long each = refl
all-with p [] (o ∷ old) long each = absurd (omega arith)
all-with p (n ∷ new) [] long each = absurd (omega arith)
all-with p (n ∷ new) (o ∷ old) long each =
    ap₂ (λ (x : Keep) (xs : List Keep). x ∷ xs) (each 0 n (omega arith))
    (all-with p new old (omega arith) (λ k d below. each (suc k) d (omega arith)))

pub done-more : (p : Parts) (stores old : List ListedStore) (i : ℕ) (x y : ListedStore) → i < length stores
    → length stores ≡ length old
    → ((k : ℕ) (d : ListedStore) → k < i → keep_of (get_or stores k d) ≡ keep_with p (keep_of (get_or old k d)))
    → ((k : ℕ) (d : ListedStore) → i ≤ k → get_or stores k d ≡ get_or old k d)
    → keep_of y ≡ keep_with p (keep_of (get_or stores i x)) → (k : ℕ) (d : ListedStore) → k < i + 1
    → keep_of (get_or (set stores i y) k d) ≡ keep_with p (keep_of (get_or old k d))
done-more p stores old i x y inside long done ahead made k d below =
    elim (cases_Bool (k == i)) [
      | inl same ↦
          rw (eqb-true k i same)
          (ap keep_of (get_or-set_same stores i y d inside) ∙ made
          ∙ ap (λ (l : ListedStore). keep_with p (keep_of l)) (get_or_default stores i x d inside ∙ ahead i d
          (omega arith)))
      | inr other ↦
          let apart : k ≡ i → ⊥ = λ e. true≢false (sym (eq-eqb k i e) ∙ other) in
          ap keep_of (get_or-set_other stores i k y d apart) ∙ done k d (omega (arith, apart))
    ]

pub ahead-more : (stores old : List ListedStore) (i : ℕ) (y : ListedStore)
    → ((k : ℕ) (d : ListedStore) → i ≤ k → get_or stores k d ≡ get_or old k d) → (k : ℕ) (d : ListedStore) → i + 1 ≤ k
    → get_or (set stores i y) k d ≡ get_or old k d
ahead-more stores old i y ahead k d above =
    get_or-set_other stores i k y d (λ e. absurd (omega arith)) ∙ ahead k d (omega arith)

-- ---- bytes

-- one word more
pub words-more : (s : Site) (fs : List Keep) (i : ℕ) (f : Keep) (bytes word : List ℕ) → i < length fs
    → get_or fs i f ≡ f → AreWordsOf s (take i fs) bytes → IsWordOf s f.holding word
    → AreWordsOf s (take (i + 1) fs) (bytes ++ word)
words-more s fs i f bytes word inside here words is =
    rw (take_more fs i f inside ∙ ap (λ (g : Keep). take i fs ++ g ∷ []) here)
    (words-append s (take i fs) (f ∷ []) bytes word words (word, [], is, refl, sym (append-nil word)))

-- the stored strategies of a front, and of one strategy more
pub stored-more : (list : List Strategy) (i : ℕ) (t : Strategy) → i < length list → get_or list i t ≡ t
    → stored_in (take (i + 1) list) ≡ stored_in (take i list) ++ stored_in (t ∷ [])
stored-more list i t inside here =
    ap stored_in (take_more list i t inside ∙ ap (λ (u : Strategy). take i list ++ u ∷ []) here)
    ∙ filter-append is_stored (take i list) (t ∷ [])

stored-parts : (list : List Strategy) (i : ℕ) (t : Strategy) → i < length list → get_or list i t ≡ t
    → stored_in list ≡ stored_in (take i list) ++ (stored_in (t ∷ []) ++ stored_in (drop (suc i) list))
stored-parts list i t inside here =
    let rest : drop i list ≡ t ∷ drop (suc i) list =
    drop-cons list i t inside ∙ ap (λ (u : Strategy). u ∷ drop (suc i) list) here in
    ap stored_in (sym (take-append-drop i list)) ∙ filter-append is_stored (take i list) (drop i list)
    ∙ ap (λ (us : List Strategy). stored_in (take i list) ++ us)
    (ap stored_in rest ∙ filter-append is_stored (t ∷ []) (drop (suc i) list))

-- where no store of a strategy begins behind those of a front, none of the list begin
pub none-behind : (s : Site) (list : List Strategy) (i : ℕ) (t : Strategy) (bytes : List ℕ) (from place : ℕ)
    (fs : List Keep) → AreRight (s.out ∷ s.ins) → i < length list → get_or list i t ≡ t
    → BeginEach s (stored_in (take i list)) bytes from place fs → NoneBegin s (stored_in (t ∷ [])) bytes place
    → NoneBegin s (stored_in list) bytes from
none-behind s list i t bytes from place fs right inside here front none next gs begin =
    let whole : BeginEach s (stored_in (take i list) ++ (stored_in (t ∷ []) ++ stored_in (drop (suc i) list))) bytes
    from
    next gs = subst (λ (ts : List Strategy). BeginEach s ts bytes from next gs) (stored-parts list i t inside here)
    begin in
    let behind = each-behind s (stored_in (take i list)) (stored_in (t ∷ []) ++ stored_in (drop (suc i) list)) bytes
    from
    place next fs gs right front whole in
    let own = each-front s (stored_in (t ∷ [])) (stored_in (drop (suc i) list)) bytes place next behind.0 behind.1 in
    none own.0 own.1 own.2

-- ---- strategies of a list

-- whether a strategy is stored is told by its number
stored-number : (t : Strategy) → is_stored t ≡ not ((number_of t == 1) || (number_of t == 10))
stored-number strategy.Map = refl
stored-number strategy.FullOneB = refl
stored-number strategy.FullOneF = refl
stored-number strategy.FullManyB = refl
stored-number strategy.FullManyF = refl
stored-number strategy.PayOne = refl
stored-number strategy.PayMany = refl
stored-number strategy.CompOne = refl
stored-number strategy.CompMany = refl
stored-number strategy.BlackBox = refl

same-stored : (t u : Strategy) → is_stored t ≡ true → (number_of u == number_of t) ≡ true → is_stored u ≡ true
same-stored t u stored same =
    let numbers : number_of u ≡ number_of t = eqb-true (number_of u) (number_of t) same in
    stored-number u ∙ ap (λ (n : ℕ). not ((n == 1) || (n == 10))) numbers ∙ sym (stored-number t) ∙ stored

-- a stored strategy of a list is among its stored ones
pub listed-stored : (t : Strategy) (list : List Strategy) → is_stored t ≡ true → is_listed list t ≡ true
    → is_listed (stored_in list) t ≡ true
listed-stored t [] stored listed = listed
listed-stored t (u ∷ list) stored listed =
    elim (or-cases (number_of u == number_of t) (is_listed list t) listed) [
      | inl here ↦ rw (same-stored t u stored here) (rw here refl)
      | inr later ↦
          let rest = listed-stored t list stored later in
          elim (cases_Bool (is_stored u)) [
            | inl own ↦ rw own (or-second (number_of u == number_of t) (is_listed (stored_in list) t) rest)
            | inr none ↦ rw none rest
          ]
    ]
  where
    or-second : (b c : Bool) → c ≡ true → (b || c) ≡ true
    or-second true c second = refl
    or-second false c second = second

-- so there is a store of it
pub store-listed : (t : Strategy) (list : List Strategy) (stores : List ListedStore)
    → map (λ f. f.strategy) (map keep_of stores) ≡ stored_in list → is_stored t ≡ true → is_listed list t ≡ true
    → list_any (λ l. number_of l.strategy == number_of t) stores ≡ true
store-listed t list stores kept stored listed =
    sym
    (any-map (λ (u : Strategy). number_of u == number_of t) (λ (f : Keep). f.strategy) (map keep_of stores)
    ∙ any-map (λ (f : Keep). number_of f.strategy == number_of t) keep_of stores)
    ∙ ap (λ (us : List Strategy). is_listed us t) kept
    ∙ listed-stored t list stored listed
