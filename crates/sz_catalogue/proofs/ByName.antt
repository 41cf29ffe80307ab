-- Entries by text, seen as entries by the bytes of the texts.
--
-- The key idea: texts are compared by their bytes, so each step along the entries goes the same way.
use Rattle.std.proofs.Common.{◌≡◌, ℕ, Bool, true, false, cond, List, [], ◌∷◌, Option, Some, refl, ap}
use Rattle.std.proofs.Common.{String, string_bytes, string_cmp}
use Rattle.std.specs.Ordering.{nat_cmp, is_eq, match_ordering}
use Rattle.std.specs.declared.cmp.Ordering.{Ordering}
use Rattle.std.specs.declared.cmp.Ordering.TheVariants.{Less, Equal, Greater}
use Rattle.std.specs.Cmp.Lexicographic.{slice_cmp}
use Rattle.std.specs.Map.{lookup, set_value}
use Rattle.std.specs.BTreeMap.{is_at, insert_entry}
use Rattle.sz_catalogue.specs.Kept.{by_bytes}

pub lookup-by_bytes : {X Y : Type 0} (name : List ℕ) (es : List (String Y × X))
    → lookup (λ k. is_eq (slice_cmp nat_cmp name (string_bytes k))) es
    ≡ lookup (is_at (slice_cmp nat_cmp name)) (by_bytes es)
lookup-by_bytes name [] = refl
lookup-by_bytes {X} {Y} name (e ∷ es) =
    ap (λ (o : Option X). cond (is_eq (slice_cmp nat_cmp name (string_bytes e.0))) (Some e.1) o)
    (lookup-by_bytes name es)

pub set-by_bytes : {X Y : Type 0} (name : List ℕ) (es : List (String Y × X)) (w : X)
    → by_bytes (set_value (λ k. is_eq (slice_cmp nat_cmp name (string_bytes k))) es w)
    ≡ set_value (is_at (slice_cmp nat_cmp name)) (by_bytes es) w
set-by_bytes name [] w = refl
set-by_bytes {X} {Y} name (e ∷ es) w =
    either (is_eq (slice_cmp nat_cmp name (string_bytes e.0)))
    (set_value (λ k. is_eq (slice_cmp nat_cmp name (string_bytes k))) es w)
    (set_value (is_at (slice_cmp nat_cmp name)) (by_bytes es) w) (set-by_bytes name es w) where
      either : (b : Bool) (there : List (String Y × X)) (here : List (List ℕ × X)) → by_bytes there ≡ here
          → by_bytes (cond b ((e.0, w) ∷ es) (e ∷ there))
          ≡ cond b ((string_bytes e.0, w) ∷ by_bytes es) ((string_bytes e.0, e.1) ∷ here)
      either true there here same = refl
      either false there here same = ap (λ (xs : List (List ℕ × X)). (string_bytes e.0, e.1) ∷ xs) same

pub insert-by_bytes : {X Y : Type 0} (es : List (String Y × X)) (k : String Y) (v : X)
    → by_bytes (insert_entry string_cmp es k v)
    ≡ insert_entry (slice_cmp nat_cmp) (by_bytes es) (string_bytes k) v
insert-by_bytes [] k v = refl
insert-by_bytes {X} {Y} (e ∷ es) k v =
    either (string_cmp k e.0) (insert_entry string_cmp es k v)
    (insert_entry (slice_cmp nat_cmp) (by_bytes es) (string_bytes k) v) (insert-by_bytes es k v) where
      either : (o : Ordering) (there : List (String Y × X)) (here : List (List ℕ × X)) → by_bytes there ≡ here
          → by_bytes (match_ordering o ((k, v) ∷ e ∷ es) ((e.0, v) ∷ es) (e ∷ there))
          ≡ match_ordering o ((string_bytes k, v) ∷ by_bytes (e ∷ es)) ((string_bytes e.0, v) ∷ by_bytes es)
          ((string_bytes e.0, e.1) ∷ here)
      either Less there here same = refl
      either Equal there here same = refl
      either Greater there here same = ap (λ (xs : List (List ℕ × X)). (string_bytes e.0, e.1) ∷ xs) same
