-- The first store of a list that is wrong.
--
-- The key idea: a node has a store for each stored strategy of its list, in the list's order, and no strategy twice. So
-- the store of a strategy, as it is asked for, is the one at that strategy's place; those before it are the stores of
-- the strategies before.
use Rattle.std.proofs.Common.{◌≡◌, ℕ, ◌+◌, ◌<◌, ◌==◌, Bool, true, false, not, ◌&&◌, ◌||◌, cond, List, []}
use Rattle.std.proofs.Common.{◌∷◌, ◌++◌, map}
use Rattle.std.proofs.Common.{take, drop, length, get_or, refl, sym, ap, ap₂, subst, ◌∙◌, arith, true≢false, eq-eqb}
use Rattle.std.proofs.Common.{nat_le, Some, suc, add-one, drop-cons}
use Rattle.std.specs.Prelude.{All}
use Rattle.std.specs.List.{list_any, list_all}
use Rattle.std.proofs.lemmas.Bool.{and_parts}
use Rattle.std.proofs.lemmas.List.Elements.{All-nil, All-cons, All-head, All-tail, All-weaker, All-filter}
use Rattle.std.proofs.lemmas.List.Elements.{filter-append, filter_passes, All-get_or}
use Rattle.std.proofs.lemmas.List.{take-append-drop}
use Rattle.std.proofs.lemmas.List.Folds.{list_any_at}
use Rattle.std.proofs.lemmas.List.Sums.{AllPass-from_list_all}
use Rattle.sz_spec.specs.declared.modes.Strategy.{Strategy}
use Rattle.sz_spec.specs.declared.op.Op.{Op}
use Rattle.sz_spec.specs.Modes.{supports, is_stored, is_listed, number_of}
use Rattle.sz_flow.specs.Executions.{Execution}
use Rattle.sz_store.specs.Kept.{Holding, Keep, NodeLineage, holding_for, stored_in}
use Rattle.sz_catalogue.specs.Rules.{are_distinct, is_list_for}
use Rattle.sz_recover.specs.Opened.{HasItsStores}
use Rattle.sz_recover.specs.Soundness.{IsExact, IsSoundNode, IsFirstWrongStore, TellsOfStrategy}
use Rattle.sz_bodies.proofs.Sequence.{list-right}

-- ---- no strategy stands twice

not-true : (b : Bool) → not b ≡ true → b ≡ false
not-true true h = cc
not-true false h = refl

not-back : (b : Bool) → b ≡ false → not b ≡ true
not-back true h = cc
not-back false h = refl

and-both : (a b : Bool) → a ≡ true → b ≡ true → (a && b) ≡ true
and-both true b h k = k
and-both false b h k = h

-- a strategy that is not listed is not among the stored ones
unlisted : (list : List Strategy) (t : Strategy) → is_listed list t ≡ false → is_listed (stored_in list) t ≡ false
unlisted [] t none = refl
unlisted (s ∷ list) t none = parts (number_of s == number_of t) (is_stored s) refl none (unlisted list t) where
  parts : (same kept : Bool) → (number_of s == number_of t) ≡ same
      → list_any (λ u. number_of u == number_of t) (s ∷ list) ≡ false
      → (is_listed list t ≡ false → is_listed (stored_in list) t ≡ false)
      → is_listed (cond kept (s ∷ stored_in list) (stored_in list)) t ≡ false
  parts true kept is out more =
      absurd (true≢false (sym (ap (λ (b : Bool). b || is_listed list t) is) ∙ out))
  parts false true is out more =
      ap (λ (b : Bool). b || is_listed (stored_in list) t) is
      ∙ more (sym (ap (λ (b : Bool). b || is_listed list t) is) ∙ out)
  parts false false is out more = more (sym (ap (λ (b : Bool). b || is_listed list t) is) ∙ out)

distinct-if : (b : Bool) (s : Strategy) (list : List Strategy) → is_listed list s ≡ false
    → are_distinct (stored_in list) ≡ true → are_distinct (cond b (s ∷ stored_in list) (stored_in list)) ≡ true
distinct-if true s list none rest =
    and-both (not (is_listed (stored_in list) s)) (are_distinct (stored_in list))
    (not-back (is_listed (stored_in list) s) (unlisted list s none)) rest
distinct-if false s list none rest = rest

distinct-stored : (list : List Strategy) → are_distinct list ≡ true → are_distinct (stored_in list) ≡ true
distinct-stored [] h = refl
distinct-stored (s ∷ list) h =
    let parts = and_parts (not (is_listed list s)) (are_distinct list) h in
    distinct-if (is_stored s) s list (not-true (is_listed list s) parts.0) (distinct-stored list parts.1)

-- ---- the store of a strategy

-- another store in front
holding-behind : (f : Keep) (fs : List Keep) (t : Strategy) → (number_of f.strategy == number_of t) ≡ false
    → holding_for t (f ∷ fs) ≡ holding_for t fs
holding-behind f fs t other = rw other refl

holding-front : (f : Keep) (fs : List Keep) → holding_for f.strategy (f ∷ fs) ≡ f.holding
holding-front f fs =
    let same : (number_of f.strategy == number_of f.strategy) ≡ true =
    eq-eqb (number_of f.strategy) (number_of f.strategy) refl in
    rw same refl

apart-each : (fs : List Keep) (s : Strategy) → is_listed (map (λ (f : Keep). f.strategy) fs) s ≡ false
    → All (λ (f : Keep). (number_of f.strategy == number_of s) ≡ false) fs
apart-each [] s none = All-nil (λ (f : Keep). (number_of f.strategy == number_of s) ≡ false)
apart-each (f ∷ fs) s none = step (number_of f.strategy == number_of s) refl (apart-each fs s) where
  step : (b : Bool) → (number_of f.strategy == number_of s) ≡ b
      → (is_listed (map (λ (g : Keep). g.strategy) fs) s ≡ false
      → All (λ (g : Keep). (number_of g.strategy == number_of s) ≡ false) fs)
      → All (λ (g : Keep). (number_of g.strategy == number_of s) ≡ false) (f ∷ fs)
  step true is more =
      absurd (true≢false
      (sym (ap (λ (b : Bool). b || is_listed (map (λ (g : Keep). g.strategy) fs) s) is) ∙ none))
  step false is more =
      All-cons (λ (g : Keep). (number_of g.strategy == number_of s) ≡ false) f fs is
      (more (sym (ap (λ (b : Bool). b || is_listed (map (λ (g : Keep). g.strategy) fs) s) is) ∙ none))

flip : (m n : ℕ) → (m == n) ≡ false → (n == m) ≡ false
flip m n other = step (n == m) refl where
  step : (b : Bool) → (n == m) ≡ b → (n == m) ≡ false
  step true is = grind (arith, is, other)
  step false is = is

-- each store is the one that is found under its strategy
owned : (fs : List Keep) → are_distinct (map (λ (f : Keep). f.strategy) fs) ≡ true
    → All (λ (f : Keep). holding_for f.strategy fs ≡ f.holding) fs
owned [] h = All-nil (λ (f : Keep). holding_for f.strategy [] ≡ f.holding)
owned (f ∷ fs) h =
    let parts = and_parts (not (is_listed (map (λ (g : Keep). g.strategy) fs) f.strategy))
    (are_distinct (map (λ (g : Keep). g.strategy) fs)) h in
    let apart = apart-each fs f.strategy (not-true _ parts.0) in
    let P : Keep → Type 0 = λ g. (holding_for g.strategy fs ≡ g.holding)
    × ((number_of g.strategy == number_of f.strategy) ≡ false) in
    let both : All P fs = λ k d inside. (owned fs parts.1 k d inside, apart k d inside) in
    All-cons (λ (g : Keep). holding_for g.strategy (f ∷ fs) ≡ g.holding) f fs (holding-front f fs)
    (All-weaker P (λ (g : Keep). holding_for g.strategy (f ∷ fs) ≡ g.holding)
    (λ g is. holding-behind f fs g.strategy (flip (number_of g.strategy) (number_of f.strategy) is.1) ∙ is.0) fs both)

-- the stores of a list are distinct
abbrev strategies : List Keep → List Strategy
strategies fs = map (λ (f : Keep). f.strategy) fs

pub owned-stored : (list : List Strategy) (fs : List Keep) → strategies fs ≡ stored_in list → are_distinct list ≡ true
    → All (λ (f : Keep). holding_for f.strategy fs ≡ f.holding) fs
owned-stored list fs stored distinct =
    owned fs (ap are_distinct stored ∙ distinct-stored list distinct)

-- ---- those before a place

-- a list that is mapped to one in two parts is in two parts
record IsSplit (fs : List Keep) (front back : List Strategy) (t : Strategy) : Type 0 where
  before : List Keep
  one : Keep
  after : List Keep
  all : fs ≡ before ++ one ∷ after
  ahead : strategies before ≡ front
  is : one.strategy ≡ t

split : (fs : List Keep) (front back : List Strategy) (t : Strategy) → strategies fs ≡ front ++ t ∷ back
    → IsSplit fs front back t
split [] [] back t same = cc
split [] (s ∷ front) back t same = cc
split (f ∷ fs) [] back t same = record {
  before = [];
  one = f;
  after = fs;
  all = refl;
  ahead = refl;
  is = cc;
}
split (f ∷ fs) (s ∷ front) back t same =
    let first : f.strategy ≡ s = cc in
    let rest : strategies fs ≡ front ++ t ∷ back = cc in
    let more = split fs front back t rest in record {
      before = f ∷ more.before;
      one = more.one;
      after = more.after;
      all = ap (λ (gs : List Keep). f ∷ gs) more.all;
      ahead = ap₂ (λ (u : Strategy) (us : List Strategy). u ∷ us) first more.ahead;
      is = more.is;
    }

all-front : {X : Type 0} (P : X → Type 0) (xs ys : List X) → All P (xs ++ ys) → All P xs
all-front P [] ys all = All-nil P
all-front P (x ∷ xs) ys all =
    All-cons P x xs (All-head P x (xs ++ ys) all) (all-front P xs ys (All-tail P x (xs ++ ys) all))

pub all-at : {X : Type 0} (P : X → Type 0) (xs ys : List X) (x : X) → All P (xs ++ x ∷ ys) → P x
all-at P [] ys x all = All-head P x ys all
all-at P (y ∷ xs) ys x all = all-at P xs ys x (All-tail P y (xs ++ x ∷ ys) all)

all-of_map : {X Y : Type 0} (P : Y → Type 0) (f : X → Y) (xs : List X) → All P (map f xs) → All (λ x. P (f x)) xs
all-of_map P f [] all = All-nil (λ x. P (f x))
all-of_map P f (x ∷ xs) all =
    All-cons (λ y. P (f y)) x xs (All-head P (f x) (map f xs) all) (all-of_map P f xs (All-tail P (f x) (map f xs) all))

-- the store of a strategy of a list is exact, where the strategy has one
abbrev pub ExactIn : Execution → List Keep → Strategy → Type 0
ExactIn e fs t = is_stored t ≡ true → IsExact e (holding_for t fs)

-- stores of strategies of which each is exact
exact-each : (e : Execution) (fs all : List Keep) (list : List Strategy) → strategies fs ≡ stored_in list
    → All (λ (f : Keep). holding_for f.strategy all ≡ f.holding) fs → All (ExactIn e all) list
    → All (λ (f : Keep). IsExact e f.holding) fs
exact-each e fs all list stored own exact =
    let P : Strategy → Type 0 = λ t. IsExact e (holding_for t all) in
    let Q : Strategy → Type 0 = λ t. ExactIn e all t × (is_stored t ≡ true) in
    let kept = All-filter is_stored (ExactIn e all) list exact in
    let passes = filter_passes is_stored list in
    let both : All Q (stored_in list) = λ k d inside. (kept k d inside, passes k d inside) in
    let named : All P (stored_in list) = All-weaker Q P (λ t is. is.0 is.1) (stored_in list) both in
    let of_stores = all-of_map P (λ (f : Keep). f.strategy) fs
    (subst (λ (ts : List Strategy). All P ts) (sym stored) named) in
    λ k d inside.
    subst (λ (h : Holding). IsExact e h) (own k d inside) (of_stores k d inside)

-- Where no strategy of the list has a wrong store, each store is exact.
pub none-wrong : (e : Execution) (fs : List Keep) (list : List Strategy) → strategies fs ≡ stored_in list
    → are_distinct list ≡ true → All (ExactIn e fs) list → All (λ (f : Keep). IsExact e f.holding) fs
none-wrong e fs list stored distinct exact =
    exact-each e fs fs list stored (owned-stored list fs stored distinct) exact

-- The store of a stored strategy that is wrong is the first one where none before it is.
pub first-wrong : (e : Execution) (fs : List Keep) (front back : List Strategy) (t : Strategy)
    → strategies fs ≡ stored_in (front ++ t ∷ back) → are_distinct (front ++ t ∷ back) ≡ true → is_stored t ≡ true
    → All (ExactIn e fs) front → (IsExact e (holding_for t fs) → ⊥) → IsFirstWrongStore e fs t
first-wrong e fs front back t stored distinct kept exact wrong =
    let own = owned-stored (front ++ t ∷ back) fs stored distinct in
    let here : stored_in (t ∷ back) ≡ t ∷ stored_in back =
    ap (λ (b : Bool). cond b (t ∷ stored_in back) (stored_in back)) kept in
    let parts : strategies fs ≡ stored_in front ++ t ∷ stored_in back =
    stored ∙ filter-append is_stored front (t ∷ back)
    ∙ ap (λ (ts : List Strategy). stored_in front ++ ts) here in
    let at = split fs (stored_in front) (stored_in back) t parts in
    let O : List Keep → Type 0 = λ gs. All (λ (f : Keep). holding_for f.strategy fs ≡ f.holding) gs in
    let owns : O (at.before ++ at.one ∷ at.after) = subst O at.all own in
    let before = all-front (λ (f : Keep). holding_for f.strategy fs ≡ f.holding) at.before (at.one ∷ at.after) owns in
    let one = all-at (λ (f : Keep). holding_for f.strategy fs ≡ f.holding) at.before at.after at.one owns in
    let is : holding_for t fs ≡ at.one.holding =
    ap (λ (s : Strategy). holding_for s fs) (sym at.is) ∙ one in record {
      before = at.before;
      wrong = at.one;
      after = at.after;
      all = at.all;
      sound = exact-each e at.before fs front at.ahead before exact;
      strategy = at.is;
      unsound = λ right. wrong (subst (λ (h : Holding). IsExact e h) (sym is) right);
    }

-- ---- a place of a list

listed-at : (list : List Strategy) (i : ℕ) (t : Strategy) → i < length list → get_or list i t ≡ t
    → is_listed list t ≡ true
listed-at list i t inside at =
    list_any_at (λ (u : Strategy). number_of u == number_of t) list i t inside
    (eq-eqb (number_of (get_or list i t)) (number_of t) (ap number_of at))

-- a strategy of a list for an operator is supported
pub listed-right : (e : Execution) (kept : NodeLineage) (list : List Strategy) (i : ℕ) (t : Strategy)
    → i < length list → t ≡ get_or list i t → kept.list ≡ list → is_list_for e.site.op list ≡ true
    → (is_listed kept.list t ≡ true) × (supports e.site.op t ≡ true)
listed-right e kept list i t inside at own right =
    let all : list_all (supports e.site.op) list ≡ true = (list-right e.site.op list right).1 in (
      subst (λ (ts : List Strategy). is_listed ts t ≡ true) (sym own) (listed-at list i t inside (sym at)),
      subst (λ (u : Strategy). supports e.site.op u ≡ true) (sym at)
          (All-get_or (λ (u : Strategy). supports e.site.op u ≡ true) list i t inside
          (AllPass-from_list_all (supports e.site.op) list all)),
    )

distinct-right : (op : Op) (list : List Strategy) → is_list_for op list ≡ true → are_distinct list ≡ true
distinct-right op list is =
    let outer = and_parts (nat_le 1 (length list) && nat_le (length list) 3 && are_distinct list)
    (list_all (supports op) list) is in
    (and_parts (nat_le 1 (length list) && nat_le (length list) 3) (are_distinct list) outer.0).1

left-is : (list : List Strategy) (k : ℕ) (t : Strategy) → k < length list → t ≡ get_or list k t
    → drop k list ≡ t ∷ drop (k + 1) list
left-is list k t inside is =
    rw (add-one) (drop-cons list k t inside ∙ ap (λ (u : Strategy). u ∷ drop (suc k) list) (sym is))

-- the list in parts at a place
parts-at : (list : List Strategy) (i : ℕ) (t : Strategy) → i < length list → t ≡ get_or list i t
    → list ≡ take i list ++ t ∷ drop (i + 1) list
parts-at list i t inside at =
    sym (take-append-drop i list) ∙ ap (λ (ts : List Strategy). take i list ++ ts) (left-is list i t inside at)

-- The first wrong store of a list that is gone through.
pub wrong-at : (e : Execution) (kept : NodeLineage) (list : List Strategy) (i : ℕ) (t : Strategy) → i < length list
    → t ≡ get_or list i t → kept.list ≡ list → HasItsStores (Some kept) → is_list_for e.site.op list ≡ true
    → All (ExactIn e kept.stores) (take i list) → TellsOfStrategy e kept t true → IsFirstWrongStore e kept.stores t
wrong-at e kept list i t inside at own stored right exact wrong =
    let parts = parts-at list i t inside at in
    first-wrong e kept.stores (take i list) (drop (i + 1) list) t (stored ∙ ap stored_in (own ∙ parts))
    (subst (λ (ts : List Strategy). are_distinct ts ≡ true) parts (distinct-right e.site.op list right))
    wrong.0 exact wrong.1

-- And where there is none.
pub none-at : (e : Execution) (kept : NodeLineage) (list : List Strategy) → kept.list ≡ list
    → HasItsStores (Some kept) → is_list_for e.site.op list ≡ true → All (ExactIn e kept.stores) list
    → IsSoundNode e (Some kept)
none-at e kept list own stored right exact =
    none-wrong e kept.stores list (stored ∙ ap stored_in own) (distinct-right e.site.op list right) exact
