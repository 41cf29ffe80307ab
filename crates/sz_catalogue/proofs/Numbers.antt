-- The greatest of some numbers.
--
-- The key idea: it is above each of them, so a number above it is none of them; and it is one that is among them and
-- above each.
use Rattle.std.proofs.Common.{◌≡◌, ℕ, ◌<◌, ◌≤◌, zero, suc, Bool, false, List, [], ◌∷◌, All}
use Rattle.std.proofs.Common.{Some, None, refl, ap, ◌∙◌, arith, inl, inr, cond}
use Rattle.std.specs.List.{slice_get}
use Rattle.std.specs.Ordering.{nat_cmp, is_lt, is_eq}
use Rattle.std.specs.Prelude.{nat_lt, ◌==◌}
use Rattle.std.specs.Map.{lookup, keys_of}
use Rattle.std.specs.BTreeMap.{is_at}
use Rattle.std.proofs.lemmas.Bool.{cases_Bool}
use Rattle.std.proofs.lemmas.Bool.Decides.{nat_tests}
use Rattle.sz_catalogue.specs.Holdings.{greatest}

not-less : (n q : ℕ) → is_lt (nat_cmp n q) ≡ false → q ≤ n
not-less n q h = elim (cases_Bool (nat_lt n q)) [
  | inl t ↦ let told = rw t at h in (cc)
  | inr f ↦ grind (arith, nat_tests)
]

below-all : (ns : List ℕ) (n : ℕ) → All (λ q. is_lt (nat_cmp n q) ≡ false) ns → greatest ns ≤ n
below-all [] n all = omega arith
below-all (q ∷ ns) n all =
    let rest : greatest ns ≤ n = below-all ns n (λ k d lt. all (suc k) d (omega (arith, lt))) in
    let first : q ≤ n = not-less n q (all 0 0 (omega arith)) in
    omega (arith, rest, first)

above-each : {X : Type 0} (es : List (ℕ × X)) (i n : ℕ) (x : X) → slice_get es i ≡ Some (n, x)
    → n ≤ greatest (keys_of es)
above-each [] i n x h = (cc)
above-each (e ∷ es) zero n x h = let same : e ≡ (n, x) = (cc) in omega (arith, ap (λ p. p.0) same)
above-each (e ∷ es) (suc i) n x h = let rest : n ≤ greatest (keys_of es) = above-each es i n x h in omega (arith, rest)

pub greatest-is : {X : Type 0} (es : List (ℕ × X)) (i n : ℕ) (x : X) → slice_get es i ≡ Some (n, x)
    → All (λ q. is_lt (nat_cmp n q) ≡ false) (keys_of es) → greatest (keys_of es) ≡ n
greatest-is es i n x at all = omega (arith, below-all (keys_of es) n all, above-each es i n x at)

not-equal : (n q : ℕ) → q < n → is_eq (nat_cmp n q) ≡ false
not-equal n q less =
    let no : nat_lt n q ≡ false = grind (arith, nat_tests) in
    let other : (n == q) ≡ false = grind (arith, nat_tests) in
    rw (no, other) refl

-- a number above the greatest is none
pub next-is_new : {X : Type 0} (es : List (ℕ × X)) (n : ℕ) → greatest (keys_of es) < n
    → lookup (is_at (nat_cmp n)) es ≡ None
next-is_new [] n above = refl
next-is_new {X} (e ∷ es) n above =
    let other : is_eq (nat_cmp n e.0) ≡ false = not-equal n e.0 (omega (arith, above)) in
    ap (λ (b : Bool). cond b (Some e.1) (lookup (is_at (nat_cmp n)) es)) other
    ∙ next-is_new es n (omega (arith, above))
