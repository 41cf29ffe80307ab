-- The entries of a map after one is put in or changed.
--
-- The key idea: entry by entry, so one entry more is at one place and the others stay where they are found.
use Rattle.std.proofs.Common.{◌≡◌, ◌+◌, ◌≤◌, Bool, true, false, cond, List, [], ◌∷◌, length, Some, None}
use Rattle.std.proofs.Common.{refl, sym, ap, ◌∙◌, arith}
use Rattle.std.specs.Prelude.{option_map}
use Rattle.std.specs.Ordering.{is_eq, match_ordering}
use Rattle.std.specs.declared.cmp.Ordering.{Ordering}
use Rattle.std.specs.declared.cmp.Ordering.TheVariants.{Less, Equal, Greater}
use Rattle.std.specs.Map.{lookup, set_value}
use Rattle.std.specs.BTreeMap.{is_at, insert_entry}

-- at most one entry more
pub length-put : {K X : Type 0} (R : K → K → Ordering) (es : List (K × X)) (k : K) (v : X)
    → length (insert_entry R es k v) ≤ length es + 1
length-put R [] k v = omega arith
length-put {K} {X} R (e ∷ es) k v = at (R k e.0) (length-put R es k v) where
  at : (o : Ordering) → length (insert_entry R es k v) ≤ length es + 1
      → length (match_ordering o ((k, v) ∷ e ∷ es) ((e.0, v) ∷ es) (e ∷ insert_entry R es k v)) ≤ length (e ∷ es) + 1
  at Less rest = omega arith
  at Equal rest = omega arith
  at Greater rest = omega (arith, rest)

-- what is found at a key stays there where an entry comes at a key that has none
pub lookup-put : {K X : Type 0} (R : K → K → Ordering) → ((x y : K) → R x y ≡ Equal → x ≡ y)
    → (es : List (K × X)) (q k : K) (w v : X) → lookup (is_at (R q)) es ≡ Some w → lookup (is_at (R k)) es ≡ None
    → lookup (is_at (R q)) (insert_entry R es k v) ≡ Some w
lookup-put R exact [] q k w v found none = cc
lookup-put {K} {X} R exact (e ∷ es) q k w v found none =
    at (R k e.0) none (λ (h : lookup (is_at (R k)) es ≡ None). later (R q e.0) found
    (λ (f : lookup (is_at (R q)) es ≡ Some w). lookup-put R exact es q k w v f h)) where
      -- another key than that of the entry
      here : (o : Ordering) → R q k ≡ o → cond (is_eq o) (Some v) (lookup (is_at (R q)) (e ∷ es)) ≡ Some w
      here Less same = found
      here Greater same = found
      here Equal same =
          let one = exact q k same in
          let both = ap (λ (x : K). lookup (is_at (R x)) (e ∷ es)) one in cc

      later : (o : Ordering) → cond (is_eq o) (Some e.1) (lookup (is_at (R q)) es) ≡ Some w
          → (lookup (is_at (R q)) es ≡ Some w → lookup (is_at (R q)) (insert_entry R es k v) ≡ Some w)
          → cond (is_eq o) (Some e.1) (lookup (is_at (R q)) (insert_entry R es k v)) ≡ Some w
      later Less f rest = rest f
      later Greater f rest = rest f
      later Equal f rest = f

      at : (o : Ordering) → cond (is_eq o) (Some e.1) (lookup (is_at (R k)) es) ≡ None
          → (lookup (is_at (R k)) es ≡ None
          → cond (is_eq (R q e.0)) (Some e.1) (lookup (is_at (R q)) (insert_entry R es k v)) ≡ Some w)
          → lookup (is_at (R q)) (match_ordering o ((k, v) ∷ e ∷ es) ((e.0, v) ∷ es) (e ∷ insert_entry R es k v))
          ≡ Some w
      at Less h rest = here (R q k) refl
      at Equal h rest = cc
      at Greater h rest = rest h

-- a value that is changed and reads as before reads the same wherever it is found
pub reads-set : {K X Y : Type 0} (f : X → Y) (test other : K → Bool) (es : List (K × X)) (old new : X)
    → lookup test es ≡ Some old → f new ≡ f old
    → option_map f (lookup other (set_value test es new)) ≡ option_map f (lookup other es)
reads-set f test other [] old new found same = refl
reads-set {K} {X} {Y} f test other (e ∷ es) old new found same =
    at (test e.0) found (λ (h : lookup test es ≡ Some old). reads-set f test other es old new h same) where
      first : (b : Bool) → f new ≡ f e.1
          → option_map f (cond b (Some new) (lookup other es)) ≡ option_map f (cond b (Some e.1) (lookup other es))
      first true is = ap (λ (y : Y). Some y) is
      first false is = refl

      later : (b : Bool) → option_map f (lookup other (set_value test es new)) ≡ option_map f (lookup other es)
          → option_map f (cond b (Some e.1) (lookup other (set_value test es new)))
          ≡ option_map f (cond b (Some e.1) (lookup other es))
      later true is = refl
      later false is = is

      at : (b : Bool) → cond b (Some e.1) (lookup test es) ≡ Some old
          → (lookup test es ≡ Some old
          → option_map f (lookup other (set_value test es new)) ≡ option_map f (lookup other es))
          → option_map f (lookup other (cond b ((e.0, new) ∷ es) (e ∷ set_value test es new)))
          ≡ option_map f (cond (other e.0) (Some e.1) (lookup other es))
      at true h rest =
          let is : e.1 ≡ old = cc in
          first (other e.0) (same ∙ ap f (sym is))
      at false h rest = later (other e.0) (rest h)
