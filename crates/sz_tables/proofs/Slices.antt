-- How slices of a list by number stay as they are where one more stands behind.
--
-- The key idea: what is added stands behind all that there was, so each old span gives the slice that it gave, and the
-- new one gives what was added.
use Rattle.std.proofs.Common.{◌≡◌, ◌≢◌, ℕ, zero, suc, min, max, ◌+◌, ◌-◌, ◌%◌, ◌<◌, ◌≤◌, List, [], ◌∷◌, ◌++◌, length}
use Rattle.std.proofs.Common.{All, take, drop, fold, slice_range, refl, sym, ap, ap₂, ◌∙◌, inl, inr, arith}
use Rattle.std.proofs.Common.{length-append, Some, slice_index_or}
use Rattle.std.specs.List.{slice_get}
use Rattle.std.proofs.Math.Seq.{drop-append_seam}
use Rattle.std.proofs.lemmas.List.{map-append, length-drop, take_all, take-append-le, drop-append-le}
use Rattle.std.proofs.lemmas.Option.{slice_get_within}
use Rattle.std.proofs.lemmas.Bool.{cases_lt}
use Rattle.std.proofs.lemmas.List.Elements.{All-head, All-tail, All-push}
use Rattle.sz_spec.proofs.FlowOutputs.{slice_get-left, slice_get-seam}
use Rattle.sz_tables.specs.declared.spans.Span.{Span}
use Rattle.sz_tables.specs.Tables.{AreDifferent, slices_by_number, spans_from, end_from}

-- ---- spans, where more stands behind

abbrev pub IsWithin : {X : Type 0} → List X → Span → Type 0
IsWithin {X} xs s = (s.start ≤ s.end) × (s.end ≤ length xs)

abbrev pub cut : {X : Type 0} → List X → Span → List X
cut {X} xs s = slice_range xs s.start s.end

cut-kept : {X : Type 0} (xs more : List X) (s : Span) → IsWithin xs s → cut (xs ++ more) s ≡ cut xs s
cut-kept xs more s within =
    let few : s.end - s.start ≤ length (drop s.start xs) = omega (arith, length-drop s.start xs) in
    ap (take (s.end - s.start)) (drop-append-le s.start xs more (omega arith))
    ∙ take-append-le (s.end - s.start) (drop s.start xs) more few

cuts-kept : {X : Type 0} (xs more : List X) (spans : List Span) → All (IsWithin xs) spans
    → slices_by_number (xs ++ more) spans ≡ slices_by_number xs spans
cuts-kept xs more [] within = refl
cuts-kept xs more (s ∷ spans) within =
    ap₂ (λ y ys. y ∷ ys) (cut-kept xs more s (All-head (IsWithin xs) s spans within))
    (cuts-kept xs more spans (All-tail (IsWithin xs) s spans within))

cut-new : {X : Type 0} (xs more : List X) (s : Span) → s.start ≡ length xs → s.end ≡ length xs + length more
    → cut (xs ++ more) s ≡ more
cut-new xs more s start end =
    ap (λ n. take (s.end - s.start) (drop n (xs ++ more))) start
    ∙ ap (take (s.end - s.start)) (drop-append_seam xs more)
    ∙ take_all (s.end - s.start) more (omega arith)

-- the slices that there were, and what was added
pub cuts-push : {X : Type 0} (xs more : List X) (spans : List Span) (s : Span) → All (IsWithin xs) spans
    → s.start ≡ length xs → s.end ≡ length xs + length more
    → slices_by_number (xs ++ more) (spans ++ s ∷ []) ≡ slices_by_number xs spans ++ more ∷ []
cuts-push xs more spans s within start end =
    map-append (cut (xs ++ more)) spans (s ∷ [])
    ∙ ap₂ (λ ys y. ys ++ y ∷ []) (cuts-kept xs more spans within) (cut-new xs more s start end)

-- and all spans are within the longer list
pub within-push : {X : Type 0} (xs more : List X) (spans : List Span) (s : Span) → All (IsWithin xs) spans
    → s.start ≡ length xs → s.end ≡ length xs + length more → All (IsWithin (xs ++ more)) (spans ++ s ∷ [])
within-push xs more spans s within start end =
    All-push (IsWithin (xs ++ more)) spans s
    (λ k d lt. let at = within k d lt in (omega arith, omega (arith, length-append xs more)))
    (omega arith, omega (arith, length-append xs more))

-- ---- spans by where they end

pub spans-count : (start : ℕ) (ends : List ℕ) → length (spans_from start ends) ≡ length ends
spans-count start [] = refl
spans-count start (e ∷ ends) = ap suc (spans-count e ends)

-- one more begins where the last one ends
pub spans-push : (start : ℕ) (ends : List ℕ) (e : ℕ) → spans_from start (ends ++ e ∷ [])
    ≡ spans_from start ends ++ (record { start = end_from start ends; end = e }) ∷ []
spans-push start [] e = refl
spans-push start (d ∷ ends) e = ap (λ (ss : List Span). record { start = start; end = d } ∷ ss) (spans-push d ends e)

pub end-push : (start : ℕ) (ends : List ℕ) (e : ℕ) → end_from start (ends ++ e ∷ []) ≡ e
end-push start [] e = refl
end-push start (d ∷ ends) e = end-push d ends e

-- a span begins where the one before it ends, and the first one at the place
next-span : (start : ℕ) (ends : List ℕ) (n : ℕ) (d : Span) → suc n < length ends
    → slice_index_or (spans_from start ends)
    (suc n) d ≡ record { start = slice_index_or ends n 0; end = slice_index_or ends (suc n) 0 }
next-span start [] n d inside = absurd (omega arith)
next-span start (a ∷ []) n d inside = absurd (omega arith)
next-span start (a ∷ b ∷ ends) zero d inside = refl
next-span start (a ∷ b ∷ ends) (suc n) d inside = next-span a (b ∷ ends) n d (omega arith)

pub span-behind : (ends : List ℕ) (n : ℕ) (d : Span) → n ≢ 0 → n < length ends
    → record { start = slice_index_or ends (n - 1) 0; end = slice_index_or ends n 0 }
    ≡ slice_index_or (spans_from 0 ends) n d
span-behind ends zero d some inside = absurd (some refl)
span-behind ends (suc n) d some inside =
    let make : ℕ → Span = λ m. record {
      start = slice_index_or ends m 0;
      end = slice_index_or ends (suc n) 0;
    } in
    let before : suc n - 1 ≡ n = omega arith in
    ap make before ∙ sym (next-span 0 ends n d inside)

pub first-span : (ends : List ℕ) (n : ℕ) (d : Span) → n ≡ 0 → n < length ends
    → record { start = 0; end = slice_index_or ends n 0 } ≡ slice_index_or (spans_from 0 ends) n d
first-span [] n d first inside = absurd (omega arith)
first-span (a ∷ ends) zero d first inside = refl
first-span (a ∷ ends) (suc n) d first inside = absurd (omega arith)

-- ---- one more of different ones

-- an element that the list has not is met behind it alone
met-behind : {X : Type 0} (xs : List X) (x y : X) (m n : ℕ) → ((k : ℕ) → slice_get xs k ≢ Some x) → m < length xs
    → length xs ≡ n → slice_get (xs ++ x ∷ []) m ≡ Some y → slice_get (xs ++ x ∷ []) n ≡ Some y → ⊥
met-behind xs x y m n new before behind at too =
    let same : Some x ≡ Some y = sym (slice_get-seam xs x [] n behind) ∙ too in
    new m (sym (slice_get-left xs (x ∷ []) m before) ∙ at ∙ sym same)

-- no two are one where a new one stands behind
pub different-push : {X : Type 0} (xs : List X) (x : X) → AreDifferent xs → ((n : ℕ) → slice_get xs n ≢ Some x)
    → AreDifferent (xs ++ x ∷ [])
different-push xs x was new m n y at too =
    let long = length-append xs (x ∷ []) in
    let m_in = slice_get_within (xs ++ x ∷ []) m y at in
    let n_in = slice_get_within (xs ++ x ∷ []) n y too in
    elim (cases_lt m (length xs)) [
      | inl low ↦ elim (cases_lt n (length xs)) [
        | inl both ↦ was m n y (sym (slice_get-left xs (x ∷ []) m low) ∙ at)
            (sym (slice_get-left xs (x ∷ []) n both) ∙ too)
        | inr high ↦ absurd (met-behind xs x y m n new low (omega arith) at too)
      ]
      | inr high ↦ elim (cases_lt n (length xs)) [
        | inl low ↦ absurd (met-behind xs x y n m new low (omega arith) too at)
        | inr both ↦ omega arith
      ]
    ]

-- ---- no more than there is

pub take-short : {X : Type 0} (n : ℕ) (xs : List X) → take (min (length xs) n) xs ≡ take n xs
take-short n xs =
    elim (cases_lt n (length xs)) [
      | inl inside ↦ ap (λ (k : ℕ). take k xs) (omega arith)
      | inr past ↦ take_all (min (length xs) n) xs (omega arith) ∙ sym (take_all n xs past)
    ]

drop-all : {X : Type 0} (n : ℕ) (xs : List X) → length xs ≤ n → drop n xs ≡ []
drop-all zero [] past = refl
drop-all zero (x ∷ xs) past = absurd (omega arith)
drop-all (suc n) [] past = refl
drop-all (suc n) (x ∷ xs) past = drop-all n xs (omega arith)

pub drop-short : {X : Type 0} (n : ℕ) (xs : List X) → drop (min n (length xs)) xs ≡ drop n xs
drop-short n xs =
    elim (cases_lt n (length xs)) [
      | inl inside ↦ ap (λ (k : ℕ). drop k xs) (omega arith)
      | inr past ↦ drop-all (min n (length xs)) xs (omega arith) ∙ sym (drop-all n xs past)
    ]

-- what is mixed of the first and of the last elements of a list, or of all of them
pub mixed-ends : {X : Type 0} (f : ℕ → X → ℕ) (n seed : ℕ) (xs : List X) (end least start first mix : ℕ)
    → end ≡ min (length xs) n → first ≡ fold f seed (take end xs)
    → least ≡ max n (length xs - n) → start ≡ min least (length xs)
    → mix ≡ fold f first (take (length xs - start) (drop start xs))
    → mix ≡ fold f (fold f seed (take n xs)) (drop (max n (length xs - n)) xs)
mixed-ends {X} f n seed xs end least start first mix short begins far from ends =
    let front : first ≡ fold f seed (take n xs) =
    begins ∙ ap (fold f seed) (ap (λ (k : ℕ). take k xs) short ∙ take-short n xs) in
    let rest : drop start xs ≡ drop (max n (length xs - n)) xs =
    ap (λ (k : ℕ). drop k xs) from ∙ drop-short least xs ∙ ap (λ (k : ℕ). drop k xs) far in
    ends
    ∙ ap (fold f first) (take_all (length xs - start) (drop start xs) (omega (arith, length-drop start xs)) ∙ rest)
    ∙ ap (λ (h : ℕ). fold f h (drop (max n (length xs - n)) xs)) front
