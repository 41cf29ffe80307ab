-- A list is read item by item: the answers so far, before what the items that are left give, are what the whole list
-- gives.
use Rattle.std.proofs.Common.{◌≡◌, ◌<◌, ◌+◌, ℕ, suc, List, [], ◌∷◌, ◌++◌, length, get_or, map}
use Rattle.std.proofs.Common.{drop, Option, Some, None, option_map, option_and_then, sym, ap, ◌∙◌, refl}
use Rattle.std.proofs.Common.{append_assoc, append-nil, arith}
use Rattle.std.proofs.Math.Seq.{drop-cons, drop-length}
use Rattle.serde_json.specs.Data.{Data}
use Rattle.serde_json.specs.View.{view}
use Rattle.serde_json.specs.declared.value.Value.{Value}
use Rattle.sz_script.specs.Fields.{each_of}

-- the first i items have given ys
pub record IsReadUpTo {X : Type 0} (f : Data → Option X) (xs : List Value) (i : ℕ) (ys : List X) : Type 0 where
  pub whole : each_of f (map view xs) ≡ option_map {T = List X} {U =
      List X} (λ zs. ys ++ zs) (each_of f (map view (drop i xs)))

option_map-same : {X : Type 0} (o : Option (List X)) → o ≡ option_map {T = List X} {U = List X} (λ zs. [] ++ zs) o
option_map-same None = refl
option_map-same (Some zs) = refl

option_map-append : {X : Type 0} (ys : List X) (y : X) (o : Option (List X))
    → option_map {T = List X} {U =
    List X} (λ zs. ys ++ zs) (option_map {T = List X} {U = List X} (λ zs. y ∷ zs) o) ≡ option_map {T =
    List X} {U = List X} (λ zs. (ys ++ y ∷ []) ++ zs) o
option_map-append ys y None = refl
option_map-append ys y (Some zs) = ap Some (sym (append_assoc ys (y ∷ []) zs))

drop-here : (xs : List Value) (i : ℕ) (x : Value) → i < length xs → x ≡ get_or xs i x
    → drop i xs ≡ x ∷ drop (i + 1) xs
drop-here xs i x lt here =
    let next : suc i ≡ i + 1 = omega arith in
    drop-cons xs i x lt ∙ ap (λ (z : Value). z ∷ drop (suc i) xs) (sym here)
    ∙ ap (λ (n : ℕ). x ∷ drop n xs) next

pub read_none : {X : Type 0} (f : Data → Option X) (xs : List Value) → IsReadUpTo f xs 0 []
read_none f xs = record { whole = option_map-same (each_of f (map view xs)) }

-- the rest of the list, by its next item
read_next : {X : Type 0} (f : Data → Option X) (xs : List Value) (i : ℕ) (x : Value) → i < length xs
    → x ≡ get_or xs i x
    → each_of f (map view (drop i xs)) ≡ option_and_then {T = X} {U =
    List X} (λ y. option_map (λ ys. y ∷ ys) (each_of f (map view (drop (i + 1) xs)))) (f (view x))
read_next f xs i x lt here = ap (λ (l : List Value). each_of f (map view l)) (drop-here xs i x lt here)

pub read_more : {X : Type 0} (f : Data → Option X) (xs : List Value) (i : ℕ) (ys : List X) (x : Value) (y : X)
    → i < length xs → x ≡ get_or xs i x
    → f (view x) ≡ Some y → IsReadUpTo f xs i ys → IsReadUpTo f xs (i + 1) (ys ++ y ∷ [])
read_more {X} f xs i ys x y lt here gives r = record {
  whole =
      let E : Option (List X) = each_of f (map view (drop (i + 1) xs)) in
      r.whole ∙ ap (λ (o : Option (List X)). option_map {T = List X} {U = List X} (λ zs. ys ++ zs) o)
      (read_next f xs i x lt here
      ∙ ap (λ (o : Option X). option_and_then {T = X} {U =
      List X} (λ z. option_map {T = List X} {U = List X} (λ zs. z ∷ zs) E) o) gives)
      ∙ option_map-append ys y E;
}

pub read_bad : {X : Type 0} (f : Data → Option X) (xs : List Value) (i : ℕ) (ys : List X) (x : Value)
    → i < length xs → x ≡ get_or xs i x
    → f (view x) ≡ None → IsReadUpTo f xs i ys → each_of f (map view xs) ≡ None
read_bad {X} f xs i ys x lt here gives r =
    let E : Option (List X) = each_of f (map view (drop (i + 1) xs)) in
    r.whole ∙ ap (λ (o : Option (List X)). option_map {T = List X} {U = List X} (λ zs. ys ++ zs) o)
    (read_next f xs i x lt here
    ∙ ap (λ (o : Option X). option_and_then {T = X} {U =
    List X} (λ z. option_map {T = List X} {U = List X} (λ zs. z ∷ zs) E) o) gives)

pub read_all : {X : Type 0} (f : Data → Option X) (xs : List Value) (i : ℕ) (ys : List X) → i ≡ length xs
    → IsReadUpTo f xs i ys → each_of f (map view xs) ≡ Some ys
read_all {X} f xs i ys end r =
    r.whole ∙ ap (λ (l : List Value). option_map {T = List X} {U =
    List X} (λ zs. ys ++ zs) (each_of f (map view l))) (ap (λ (n : ℕ). drop n xs) end ∙ drop-length xs)
    ∙ ap Some (append-nil ys)
