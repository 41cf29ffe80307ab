-- How many different lineages a list has.
--
-- The key idea: that is settled by which ones are in the list, however often and in whichever order. So it is the
-- length of any list that has each of these once.
use Rattle.std.proofs.Common.{◌≡◌, ◌∙◌, ℕ, suc, ◌+◌, true, false, ◌||◌, ◌==◌, not, List, [], ◌∷◌, length}
use Rattle.std.proofs.Common.{refl, sym, ap, ap₂, subst, arith, inl, inr, eqb-true, eq-eqb, true≢false, Some}
use Rattle.std.specs.List.{filter, list_any, slice_get}
use Rattle.std.proofs.lemmas.Bool.{cases_Bool, and_parts, and_from, or_cases, false_from_ne_true}
use Rattle.sz_spec.specs.Kinds.{same_numbers, same_sets, different}
use Rattle.sz_tables.specs.Tables.{AreDifferent}

-- ---- the tests

numbers-one : (a b : List ℕ) → same_numbers a b ≡ true → a ≡ b
numbers-one [] [] same = refl
numbers-one [] (y ∷ ys) same = absurd (true≢false (sym same))
numbers-one (x ∷ xs) [] same = absurd (true≢false (sym same))
numbers-one (x ∷ xs) (y ∷ ys) same =
    let both = and_parts (x == y) (same_numbers xs ys) same in
    ap₂ (λ (n : ℕ) (ns : List ℕ). n ∷ ns) (eqb-true x y both.0) (numbers-one xs ys both.1)

numbers-own : (a : List ℕ) → same_numbers a a ≡ true
numbers-own [] = refl
numbers-own (x ∷ xs) = and_from (x == x) (same_numbers xs xs) (eq-eqb x x refl) (numbers-own xs)

pub sets-one : (a b : List (List ℕ)) → same_sets a b ≡ true → a ≡ b
sets-one [] [] same = refl
sets-one [] (y ∷ ys) same = absurd (true≢false (sym same))
sets-one (x ∷ xs) [] same = absurd (true≢false (sym same))
sets-one (x ∷ xs) (y ∷ ys) same =
    let both = and_parts (same_numbers x y) (same_sets xs ys) same in
    ap₂ (λ (s : List ℕ) (ss : List (List ℕ)). s ∷ ss) (numbers-one x y both.0) (sets-one xs ys both.1)

sets-own : (a : List (List ℕ)) → same_sets a a ≡ true
sets-own [] = refl
sets-own (x ∷ xs) = and_from (same_numbers x x) (same_sets xs xs) (numbers-own x) (sets-own xs)

pub sets-same : (a b : List (List ℕ)) → a ≡ b → same_sets a b ≡ true
sets-same a b same = subst (λ (c : List (List ℕ)). same_sets a c ≡ true) same (sets-own a)

-- ---- a list without one of them

without : List (List ℕ) → List (List (List ℕ)) → List (List (List ℕ))
without a ys = filter (λ y. not (same_sets a y)) ys

without-own : (a : List (List ℕ)) (ys : List (List (List ℕ))) → list_any (same_sets a) (without a ys) ≡ false
unfolding without
without-own a [] = refl
without-own a (y ∷ ys) =
    elim (cases_Bool (same_sets a y)) [
      | inl same ↦ rw same (without-own a ys)
      | inr other ↦ rw (other, other) (without-own a ys)
    ]

without-others : (a b : List (List ℕ)) (ys : List (List (List ℕ))) → same_sets a b ≡ false
    → list_any (same_sets b) (without a ys) ≡ list_any (same_sets b) ys
unfolding without
without-others a b [] apart = refl
without-others a b (y ∷ ys) apart =
    elim (cases_Bool (same_sets a y)) [
      | inl same ↦
          let no : same_sets b y ≡ false = false_from_ne_true (same_sets b y)
          (λ found. true≢false (sym (sets-same a b (sets-one a y same ∙ sym (sets-one b y found))) ∙ apart)) in
          rw (same, no) (without-others a b ys apart)
      | inr other ↦ rw other (ap (λ b2. same_sets b y || b2) (without-others a b ys apart))
    ]

without-none : (a : List (List ℕ)) (ys : List (List (List ℕ))) → list_any (same_sets a) ys ≡ false → without a ys ≡ ys
unfolding without
without-none a [] none = refl
without-none a (y ∷ ys) none =
    elim (cases_Bool (same_sets a y)) [
      | inl same ↦ absurd (true≢false (rw same at none))
      | inr other ↦
          rw other (ap (λ (zs : List (List (List ℕ))). y ∷ zs) (without-none a ys (rw other at none)))
    ]

-- one that is in the list is counted once
different-without : (a : List (List ℕ)) (ys : List (List (List ℕ))) → list_any (same_sets a) ys ≡ true
    → different ys ≡ 1 + different (without a ys)
unfolding without
different-without a [] found = absurd (true≢false (sym found))
different-without a (y ∷ ys) found =
    elim (cases_Bool (same_sets a y)) [
      | inl same ↦
          let e : a ≡ y = sets-one a y same in
          elim (cases_Bool (list_any (same_sets a) ys)) [
            | inl more ↦
                let own : list_any (same_sets y) ys ≡ true =
                subst (λ (z : List (List ℕ)). list_any (same_sets z) ys ≡ true) e more in
                rw (same, own) (different-without a ys more)
            | inr once ↦
                let own : list_any (same_sets y) ys ≡ false =
                subst (λ (z : List (List ℕ)). list_any (same_sets z) ys ≡ false) e once in
                rw (same, own) (ap (λ (zs : List (List (List ℕ))). 1 + different zs) (sym (without-none a ys once)))
          ]
      | inr other ↦
          let rest = different-without a ys (rw other at found) in
          let kept : list_any (same_sets y) (without a ys) ≡ list_any (same_sets y) ys =
          without-others a y ys other in
          elim (cases_Bool (list_any (same_sets y) ys)) [
            | inl more ↦ rw (other, more, kept ∙ more) rest
            | inr once ↦ rw (other, once, kept ∙ once) (ap (λ (n : ℕ). 1 + n) rest)
          ]
    ]

-- ---- lists with the same ones

abbrev HaveTheSame : List (List (List ℕ)) → List (List (List ℕ)) → Type 0
HaveTheSame xs ys = (b : List (List ℕ)) → list_any (same_sets b) xs ≡ list_any (same_sets b) ys

pub different-same : (xs ys : List (List (List ℕ))) → HaveTheSame xs ys → different xs ≡ different ys
different-same [] [] same = refl
different-same [] (y ∷ ys) same = absurd (true≢false (sym (same y ∙ (rw (sets-own y) refl))))
different-same (x ∷ xs) ys same =
    elim (cases_Bool (list_any (same_sets x) xs)) [
      | inl more ↦
          let rest : HaveTheSame xs ys = λ b. elim (cases_Bool (same_sets b x)) [
            | inl own ↦
                subst (λ (z : List (List ℕ)). list_any (same_sets z) xs ≡ true) (sym (sets-one b x own)) more
                ∙ sym (rw own at (sym (same b)))
            | inr other ↦ rw other at (same b)
          ] in
          rw more (different-same xs ys rest)
      | inr once ↦
          let there : list_any (same_sets x) ys ≡ true = sym (same x) ∙ (rw (sets-own x) refl) in
          let rest : HaveTheSame xs (without x ys) = λ b. elim (cases_Bool (same_sets x b)) [
            | inl own ↦
                subst (λ (z : List (List ℕ)). list_any (same_sets z) xs ≡ list_any (same_sets z) (without x ys))
                (sets-one x b own) (once ∙ sym (without-own x ys))
            | inr other ↦
                let no : same_sets b x ≡ false = false_from_ne_true (same_sets b x)
                (λ found. true≢false (sym (sets-same x b (sym (sets-one b x found))) ∙ other)) in
                (rw no at (same b)) ∙ sym (without-others x b ys other)
          ] in
          rw once (ap (λ (n : ℕ). 1 + n) (different-same xs (without x ys) rest)) ∙ sym (different-without x ys there)
    ]

-- ---- lists without one twice

found-at : (a : List (List ℕ)) (xs : List (List (List ℕ))) → list_any (same_sets a) xs ≡ true
    → (n : ℕ) × (slice_get xs n ≡ Some a)
found-at a [] found = absurd (true≢false (sym found))
found-at a (x ∷ xs) found =
    elim (or_cases (same_sets a x) (list_any (same_sets a) xs) found) [
      | inl here ↦ (0, ap Some (sym (sets-one a x here)))
      | inr later ↦ let rest = found-at a xs later in (suc rest.0, rest.1)
    ]

pub different-length : (xs : List (List (List ℕ))) → AreDifferent xs → different xs ≡ length xs
different-length [] apart = refl
different-length (x ∷ xs) apart =
    let once : list_any (same_sets x) xs ≡ false = false_from_ne_true (list_any (same_sets x) xs)
    (λ found. let one = found-at x xs found in absurd (omega (arith, apart 0 (suc one.0) x refl one.1))) in
    let rest = different-length xs (λ m n y at too. omega (arith, apart (suc m) (suc n) y at too)) in
    rw once (omega (arith, rest))
