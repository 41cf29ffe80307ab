-- A walk over values appends what each gives, as long as each passes a test: what was appended is what the values so
-- far give.
use Rattle.std.proofs.Common.{◌≡◌, ◌<◌, ◌+◌, ◌*◌, ℕ, suc, List, [], ◌∷◌, ◌++◌, ◌&&◌, length, get_or, map, take}
use Rattle.std.proofs.Common.{Bool, true, false, sym, ap, ◌∙◌, refl, append_assoc, append-nil, length-append, arith}
use Rattle.std.proofs.lemmas.Bool.{false≢true}
use Rattle.std.proofs.Math.Seq.{take-suc, take-length}
use Rattle.std.proofs.lemmas.List.{map-append, length-map}
use Rattle.std.proofs.lemmas.List.Concat.{flat_map_single}
use Rattle.std.proofs.lemmas.List.Folds.{list_all-map, list_all-append, list_all_at}
use Rattle.std.proofs.lemmas.Grind.{flat_map-append}
use Rattle.std.specs.List.{list_all, flat_map}
use Rattle.serde_json.specs.Data.{Data}
use Rattle.sz_script.specs.declared.command.BaseName.{BaseName}
use Rattle.serde_json.specs.View.{view}
use Rattle.serde_json.specs.declared.value.Value.{Value}

pub record IsWalkedUpTo {X : Type 0} (test : Data → Bool) (give : Data → List X) (vs : List Value) (i : ℕ)
    (old new : List X) : Type 0 where
  pub passed : list_all test (map view (take i vs)) ≡ true
  pub given : new ≡ old ++ flat_map give (map view (take i vs))

pub walked_none : {X : Type 0} (test : Data → Bool) (give : Data → List X) (vs : List Value) (old : List X)
    → IsWalkedUpTo test give vs 0 old old
walked_none test give vs old = record { passed = refl; given = sym (append-nil old) }

-- one value more
seen_more : (vs : List Value) (i : ℕ) (x : Value) → i < length vs → x ≡ get_or vs i x
    → map view (take (i + 1) vs) ≡ map view (take i vs) ++ view x ∷ []
seen_more vs i x lt here =
    let next : i + 1 ≡ suc i = omega arith in
    ap (λ (n : ℕ). map view (take n vs)) next ∙ ap (map view) (take-suc vs i x lt)
    ∙ ap (λ (y : Value). map view (take i vs ++ y ∷ [])) (sym here)
    ∙ map-append view (take i vs) (x ∷ [])

pub walked_more : {X : Type 0} (test : Data → Bool) (give : Data → List X) (vs : List Value) (i : ℕ)
    (old new more : List X) (x : Value) → i < length vs → x ≡ get_or vs i x
    → test (view x) ≡ true → more ≡ new ++ give (view x) → IsWalkedUpTo test give vs i old new
    → IsWalkedUpTo test give vs (i + 1) old more
walked_more test give vs i old new more x lt here passes gives w = record {
  passed = ap (list_all test) (seen_more vs i x lt here)
      ∙ list_all-append test (map view (take i vs)) (view x ∷ [])
      ∙ ap (λ (b : Bool). b && (test (view x) && true)) w.passed
      ∙ ap (λ (b : Bool). b && true) passes;
  given = gives ∙ ap (λ l. l ++ give (view x)) w.given
      ∙ append_assoc old (flat_map give (map view (take i vs))) (give (view x))
      ∙ ap (λ l. old ++ (flat_map give (map view (take i vs)) ++ l)) (sym (append-nil (give (view x))))
      ∙ ap (λ l. old ++ l) (sym (flat_map-append give (map view (take i vs)) (view x ∷ [])))
      ∙ ap (λ l. old ++ flat_map give l) (sym (seen_more vs i x lt here));
}

-- a value that does not pass
pub walked_bad : (test : Data → Bool) (vs : List Value) (i : ℕ) (x : Value) → i < length vs
    → x ≡ get_or vs i x → test (view x) ≡ false → list_all test (map view vs) ≡ false
walked_bad test vs i x lt here fails = list_all-map test view vs
    ∙ list_all_at (λ v. test (view v)) vs i x lt (ap (λ (y : Value). test (view y)) (sym here) ∙ fails)

whole : (vs : List Value) (i : ℕ) → i ≡ length vs → map view (take i vs) ≡ map view vs
whole vs i end = ap (λ (n : ℕ). map view (take n vs)) end ∙ ap (map view) (take-length vs)

-- after the last value
pub walked_passed : {X : Type 0} (test : Data → Bool) (give : Data → List X) (vs : List Value) (i : ℕ)
    (old new : List X) → i ≡ length vs → IsWalkedUpTo test give vs i old new
    → list_all test (map view vs) ≡ true
walked_passed test give vs i old new end w = ap (list_all test) (sym (whole vs i end)) ∙ w.passed

pub walked_given : {X : Type 0} (test : Data → Bool) (give : Data → List X) (vs : List Value) (i : ℕ)
    (old new : List X) → i ≡ length vs → IsWalkedUpTo test give vs i old new
    → new ≡ old ++ flat_map give (map view vs)
walked_given test give vs i old new end w = w.given ∙ ap (λ l. old ++ flat_map give l) (whole vs i end)

-- the same where each gives one
pub walked_each : {X : Type 0} (test : Data → Bool) (f : Data → X) (vs : List Value) (i : ℕ)
    (old new : List X) → i ≡ length vs → IsWalkedUpTo test (λ d. f d ∷ []) vs i old new
    → new ≡ old ++ map f (map view vs)
walked_each test f vs i old new end w = walked_given test (λ d. f d ∷ []) vs i old new end w
    ∙ ap (λ l. old ++ l) (flat_map_single f (map view vs))

pub both_true : (b c : Bool) → (b && c) ≡ true → (b ≡ true) × (c ≡ true)
both_true true c e = (refl, e)
both_true false c e = absurd (false≢true e)

-- what things give that pass a test, where each that passes gives so much
pub given_long : {A X : Type 0} (test : A → Bool) (give : A → List X) (width : ℕ)
    → ((a : A) → test a ≡ true → length (give a) ≡ width) → (xs : List A) → list_all test xs ≡ true
    → length (flat_map give xs) ≡ length xs * width
given_long test give width long [] e = let none : 0 ≡ 0 * width = omega arith in none
given_long test give width long (a ∷ xs) e =
    let p = both_true (test a) (list_all test xs) e in
    let here : length (give a) ≡ width = long a p.0 in
    let rest : length (flat_map give xs) ≡ length xs * width = given_long test give width long xs p.1 in
    let times : suc (length xs) * width ≡ width + length xs * width = omega arith in
    length-append (give a) (flat_map give xs) ∙ omega arith

-- there are as many, seen
pub seen_long : (vs : List Value) → length (map view vs) ≡ length vs
seen_long vs = length-map vs view

-- a test of each value, seen
pub all_seen : (test : Data → Bool) (vs : List Value)
    → list_all test (map view vs) ≡ list_all (λ v. test (view v)) vs
all_seen test vs = list_all-map test view vs

-- a test of the name of each base array
pub all_names : (test : List ℕ → Bool) (bases : List BaseName)
    → list_all test (map (λ b. b.name) bases) ≡ list_all (λ b. test b.name) bases
all_names test bases = list_all-map test (λ (b : BaseName). b.name) bases
