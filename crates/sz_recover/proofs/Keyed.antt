-- Entries by keys in order: what a look-up finds behind one more entry and behind one that has another value, and that
-- the keys stay in order.
use Rattle.std.proofs.Common.{◌≡◌, ◌⊎◌, inl, inr, ℕ, ◌+◌, ◌≤◌, ◌<◌, List, [], ◌∷◌, length, refl, sym, ap, subst, ◌∙◌}
use Rattle.std.proofs.Common.{arith, true, false, Bool, cond, Option, Some, None, is_some}
use Rattle.std.specs.Cmp.{IsTotalOrder, ranked, nat_cmp_is}
use Rattle.std.specs.List.{AllByRecursion}
use Rattle.std.specs.List.Sorted.{IsStrictlySortedBy}
use Rattle.std.specs.Map.{lookup, set_value, keys_of}
use Rattle.std.specs.BTreeMap.{is_at, insert_entry}
use Rattle.std.specs.Ordering.{nat_cmp, is_eq, match_ordering, eq_by_cmp}
use Rattle.std.specs.declared.cmp.Ordering.{Ordering}
use Rattle.std.specs.declared.cmp.Ordering.TheVariants.{Less, Equal, Greater}
use Rattle.std.proofs.lemmas.Cmp.{nat_cmp_total, eq_by_cmp_equiv}
use Rattle.std.proofs.lemmas.Map.{lookup-set_value}

-- ---- look-ups

module _ {K : Type 0} (R : K → K → Ordering) (same : (a b : K) → eq_by_cmp R a b ≡ true → a ≡ b) where
  key-cases : (q k : K) → (q ≡ k) ⊎ (eq_by_cmp R q k ≡ false)
  key-cases q k = by (eq_by_cmp R q k) refl where
    by : (b : Bool) → eq_by_cmp R q k ≡ b → (q ≡ k) ⊎ (eq_by_cmp R q k ≡ false)
    by true is = inl (same q k is)
    by false is = inr is

module _ {K X : Type 0} (R : K → K → Ordering) (o : IsTotalOrder R)
    (same : (a b : K) → eq_by_cmp R a b ≡ true → a ≡ b) where
  -- under another key it finds what it found
  put-other : (es : List (K × X)) (k q : K) (x : X) → eq_by_cmp R q k ≡ false
      → lookup (is_at (R q)) (insert_entry R es k x) ≡ lookup (is_at (R q)) es
  put-other [] k q x other = ap (λ (b : Bool). cond b (Some x) None) other
  put-other (e ∷ es) k q x other = by (R k e.0) refl (put-other es k q x other) where
    by : (r : Ordering) → r ≡ R k e.0 → lookup (is_at (R q)) (insert_entry R es k x) ≡ lookup (is_at (R q)) es
        → lookup (is_at (R q)) (match_ordering r ((k, x) ∷ e ∷ es) ((e.0, x) ∷ es) (e ∷ insert_entry R es k x))
        ≡ lookup (is_at (R q)) (e ∷ es)
    by Less is later = ap (λ (b : Bool). cond b (Some x) (lookup (is_at (R q)) (e ∷ es))) other
    by Equal is later =
        let key : k ≡ e.0 = same k e.0 (ap is_eq (sym is)) in
        let apart : eq_by_cmp R q e.0 ≡ false = subst (λ (y : K). eq_by_cmp R q y ≡ false) key other in
        ap (λ (b : Bool). cond b (Some x) (lookup (is_at (R q)) es)) apart
        ∙ sym (ap (λ (b : Bool). cond b (Some e.1) (lookup (is_at (R q)) es)) apart)
    by Greater is later = ap (λ (u : Option X). cond (is_at (R q) e.0) (Some e.1) u) later

  -- under the key it finds the value
  put-same : (es : List (K × X)) (k : K) (x : X) → lookup (is_at (R k)) (insert_entry R es k x) ≡ Some x
  put-same [] k x = ap (λ (b : Bool). cond b (Some x) None) ((eq_by_cmp_equiv o).refl k)
  put-same (e ∷ es) k x = by (R k e.0) refl (put-same es k x) where
    by : (r : Ordering) → r ≡ R k e.0 → lookup (is_at (R k)) (insert_entry R es k x) ≡ Some x
        → lookup (is_at (R k)) (match_ordering r ((k, x) ∷ e ∷ es) ((e.0, x) ∷ es) (e ∷ insert_entry R es k x)) ≡ Some x
    by Less is later = ap (λ (b : Bool). cond b (Some x) (lookup (is_at (R k)) (e ∷ es))) ((eq_by_cmp_equiv o).refl k)
    by Equal is later = ap (λ (r : Ordering). cond (is_eq r) (Some x) (lookup (is_at (R k)) es)) (sym is)
    by Greater is later =
        ap (λ (r : Ordering). cond (is_eq r) (Some e.1) (lookup (is_at (R k)) (insert_entry R es k x))) (sym is) ∙ later

  -- what is found behind one more entry is its value, or was found before
  pub put-found : (es : List (K × X)) (k q : K) (x v : X) → lookup (is_at (R q)) (insert_entry R es k x) ≡ Some v
      → ((q ≡ k) × (v ≡ x)) ⊎ (lookup (is_at (R q)) es ≡ Some v)
  put-found es k q x v found =
      elim (key-cases R same q k) [
        | inl key ↦ let here : lookup (is_at (R k)) (insert_entry R es k x) ≡ Some v =
            subst (λ (y : K). lookup (is_at (R y)) (insert_entry R es k x) ≡ Some v) key found in
            let both = sym here ∙ put-same es k x in
            let own : v ≡ x = cc in
            inl (key, own)
        | inr apart ↦ inr (sym (put-other es k q x apart) ∙ found)
      ]

  -- what was found is found behind an entry that is new
  pub put-keeps : (es : List (K × X)) (k q : K) (x v : X) → lookup (is_at (R k)) es ≡ None
      → lookup (is_at (R q)) es ≡ Some v → lookup (is_at (R q)) (insert_entry R es k x) ≡ Some v
  put-keeps es k q x v new found =
      elim (key-cases R same q k) [
        | inl key ↦ let here : lookup (is_at (R k)) es ≡ Some v =
            subst (λ (y : K). lookup (is_at (R y)) es ≡ Some v) key found in
            let clash = sym new ∙ here in
            cc
        | inr apart ↦ put-other es k q x apart ∙ found
      ]

  -- where an entry has another value
  set-is : (es : List (K × X)) (k q : K) (w : X) → is_some (lookup (is_at (R k)) es) ≡ true
      → lookup (is_at (R q)) (set_value (is_at (R k)) es w)
      ≡ cond (eq_by_cmp R k q) (Some w) (lookup (is_at (R q)) es)
  set-is es k q w there =
      let laws = eq_by_cmp_equiv o in lookup-set_value laws (is_at (R k)) (λ x y t. laws.congr k x y t) q w es there

  pub set-found : (es : List (K × X)) (k q : K) (w v : X) → is_some (lookup (is_at (R k)) es) ≡ true
      → lookup (is_at (R q)) (set_value (is_at (R k)) es w) ≡ Some v
      → ((q ≡ k) × (v ≡ w)) ⊎ (lookup (is_at (R q)) es ≡ Some v)
  set-found es k q w v there found = by (eq_by_cmp R k q) refl (sym (set-is es k q w there) ∙ found) where
    by : (b : Bool) → eq_by_cmp R k q ≡ b → cond b (Some w) (lookup (is_at (R q)) es) ≡ Some v
        → ((q ≡ k) × (v ≡ w)) ⊎ (lookup (is_at (R q)) es ≡ Some v)
    by true key here = let own : v ≡ w = cc in inl (sym (same k q key), own)
    by false key here = inr here

  -- what is read of the values stays, where the other value reads as the one before
  pub set-reads : {Y : Type 0} (f : Option X → Y) (es : List (K × X)) (k q : K) (w : X)
      → is_some (lookup (is_at (R k)) es) ≡ true → f (lookup (is_at (R k)) es) ≡ f (Some w)
      → f (lookup (is_at (R q)) (set_value (is_at (R k)) es w)) ≡ f (lookup (is_at (R q)) es)
  set-reads f es k q w there reads = ap f (set-is es k q w there) ∙ by (eq_by_cmp R k q) refl where
    by : (b : Bool) → eq_by_cmp R k q ≡ b
        → f (cond b (Some w) (lookup (is_at (R q)) es)) ≡ f (lookup (is_at (R q)) es)
    by true key = sym reads ∙ ap (λ (y : K). f (lookup (is_at (R y)) es)) (same k q key)
    by false key = refl

-- ---- keys in order

below-all : (k n : ℕ) (ks : List ℕ) → nat_cmp n k ≡ Less → AllByRecursion (λ (y : ℕ). nat_cmp k y ≡ Less) ks
    → AllByRecursion (λ (y : ℕ). nat_cmp n y ≡ Less) ks
below-all k n [] less all = tt
below-all k n (y ∷ ks) less all = (nat_cmp_total.trans n k y less all.0, below-all k n ks less all.1)

above-put : {X : Type 0} (k n : ℕ) (es : List (ℕ × X)) (x : X) → nat_cmp k n ≡ Less
    → AllByRecursion (λ (y : ℕ). nat_cmp k y ≡ Less) (keys_of es)
    → AllByRecursion (λ (y : ℕ). nat_cmp k y ≡ Less) (keys_of (insert_entry nat_cmp es n x))
above-put k n [] x less all = (less, tt)
above-put {X} k n (e ∷ es) x less all = by (nat_cmp n e.0) (above-put k n es x less all.1) where
  by : (r : Ordering) → AllByRecursion (λ (y : ℕ). nat_cmp k y ≡ Less) (keys_of (insert_entry nat_cmp es n x))
      → AllByRecursion (λ (y : ℕ). nat_cmp k y ≡ Less)
      (keys_of (match_ordering r ((n, x) ∷ e ∷ es) ((e.0, x) ∷ es) (e ∷ insert_entry nat_cmp es n x)))
  by Less later = (less, all)
  by Equal later = all
  by Greater later = (all.0, later)

pub put-rising : {X : Type 0} (es : List (ℕ × X)) (n : ℕ) (x : X) → IsStrictlySortedBy nat_cmp (keys_of es)
    → IsStrictlySortedBy nat_cmp (keys_of (insert_entry nat_cmp es n x))
unfolding IsStrictlySortedBy
put-rising [] n x rising = (tt, tt)
put-rising {X} (e ∷ es) n x rising = by (nat_cmp n e.0) refl (put-rising es n x rising.1) where
  by : (r : Ordering) → r ≡ nat_cmp n e.0 → IsStrictlySortedBy nat_cmp (keys_of (insert_entry nat_cmp es n x))
      → IsStrictlySortedBy nat_cmp
      (keys_of (match_ordering r ((n, x) ∷ e ∷ es) ((e.0, x) ∷ es) (e ∷ insert_entry nat_cmp es n x)))
  by Less is later = ((sym is, below-all e.0 n (keys_of es) (sym is) rising.0), rising)
  by Equal is later = rising
  by Greater is later =
      let less : e.0 < n = ranked n e.0 Greater is in
      (above-put e.0 n es x (sym (nat_cmp_is e.0 n Less less)) rising.0, later)

pub put-length : {X : Type 0} (es : List (ℕ × X)) (n : ℕ) (x : X)
    → length (insert_entry nat_cmp es n x) ≤ length es + 1
put-length [] n x = omega arith
put-length {X} (e ∷ es) n x = by (nat_cmp n e.0) (put-length es n x) where
  by : (r : Ordering) → length (insert_entry nat_cmp es n x) ≤ length es + 1
      → length (match_ordering r ((n, x) ∷ e ∷ es) ((e.0, x) ∷ es) (e ∷ insert_entry nat_cmp es n x))
      ≤ length (e ∷ es) + 1
  by Less later = omega arith
  by Equal later = omega arith
  by Greater later = omega (arith, later)
