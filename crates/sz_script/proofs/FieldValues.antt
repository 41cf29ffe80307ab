-- What a field of a text holds. The key idea: `parse` reads just one digit or more behind a sign, so with a plus put
-- aside it reads what a field holds; and bytes that are no text are no digits.
use Rattle.std.proofs.Common.{◌≡◌, ◌≢◌, ◌<◌, ◌≤◌, ◌^◌, ℕ, ℤ, pos, neg_ℤ, List, [], ◌∷◌, length, get_or, ◌==◌}
use Rattle.std.proofs.Common.{Bool, true, false, ◌&&◌, if◌then◌else◌, nat_lt, nat_le, Option, Some, None, option_map}
use Rattle.std.proofs.Common.{inl, inr, ap, ◌∙◌, refl, sym, subst, arith, eq-eqb}
use Rattle.std.specs.Prelude.{Result, Ok, Err}
use Rattle.std.specs.Result.{OkIff}
use Rattle.std.specs.Str.{IsUtf8, IsAscii, all_ascii_digits}
use Rattle.std.specs.Str.Parse.{digits_value, ParsesSigned}
use Rattle.std.proofs.lemmas.Bool.{ltb-true, lt-ltb, leb-true, le-leb, false≢true, cases_Bool, eqb-true}
use Rattle.std.proofs.lemmas.Str.{IsUtf8-nil, IsUtf8-from_ascii}
use Rattle.std.proofs.lemmas.Str.Ascii.{IsAscii-nil, IsAscii-cons}
use Rattle.std.proofs.lemmas.Str.Parse.{IsNumeralModel, numerals_by_value, tells_all_ascii_digits}
use Rattle.std.proofs.lemmas.Str.Parse.{parse_signed_minus, parse_signed_plain}
use mir.Syntax.{w64}
use mir.Val.{SFits, to_z, of_z}
use Rattle.std.proofs.lemmas.Int.{to_z-of_z}
use Rattle.sz_script.specs.Fields.{only_if}
use Rattle.sz_script.specs.Records.{number_of, negated_of, value_in}

-- the number that parsing gave
abbrev pub told : {E : Type 0} → Result ℤ E → Option ℤ
told (Ok z) = Some z
told (Err e) = None

-- ---- three tests

all_hold : (p q r : Bool) → p ≡ true → q ≡ true → r ≡ true → ((p && q) && r) ≡ true
all_hold true true true a b c = refl
all_hold true true false a b c = c
all_hold true false r a b c = absurd (false≢true b)
all_hold false q r a b c = absurd (false≢true a)

each_holds : (p q r : Bool) → ((p && q) && r) ≡ true → (p ≡ true) × (q ≡ true) × (r ≡ true)
each_holds true true true e = (refl, refl, refl)
each_holds true true false e = absurd (false≢true e)
each_holds true false r e = absurd (false≢true e)
each_holds false q r e = absurd (false≢true e)

held : (b : Bool) (z : ℤ) → b ≡ true → only_if b (Some z) ≡ Some z
held b z e = ap (λ (t : Bool). only_if t (Some z)) e

fails : (b : Bool) (z : ℤ) → (b ≡ true → ⊥) → only_if b (Some z) ≡ None
fails true z never = absurd (never refl)
fails false z never = refl

-- ---- digits

own : IsNumeralModel (λ ds. all_ascii_digits ds ≡ true) (digits_value 10)
own = numerals_by_value (λ ds. all_ascii_digits ds ≡ true) tells_all_ascii_digits

number_told : {E : Type 0} (ds : List ℕ) (r : Result ℤ E)
    → OkIff r ((all_ascii_digits ds ≡ true) × (0 < length ds) × (digits_value 10 ds < 2 ^ 63))
    (pos (digits_value 10 ds))
    → number_of ds ≡ told r
number_told ds (Ok z) h =
    let v = digits_value 10 ds in
    held _ (pos v) (all_hold (nat_lt 0 (length ds)) (all_ascii_digits ds) (nat_lt v (2 ^ 63))
    (lt-ltb 0 (length ds) h.0.1) h.0.0 (lt-ltb v (2 ^ 63) h.0.2))
    ∙ ap (λ (x : ℤ). Some x) (sym h.1)
number_told ds (Err e) h =
    let v = digits_value 10 ds in
    fails _ (pos v) (λ holds.
    let t = each_holds (nat_lt 0 (length ds)) (all_ascii_digits ds) (nat_lt v (2 ^ 63)) holds in
    h (t.1, ltb-true 0 (length ds) t.0, ltb-true v (2 ^ 63) t.2))

negated_told : {E : Type 0} (ds : List ℕ) (r : Result ℤ E)
    → OkIff r ((all_ascii_digits ds ≡ true) × (0 < length ds) × (digits_value 10 ds ≤ 2 ^ 63))
    (neg_ℤ (pos (digits_value 10 ds)))
    → negated_of ds ≡ told r
negated_told ds (Ok z) h =
    let v = digits_value 10 ds in
    held _ (neg_ℤ (pos v)) (all_hold (nat_lt 0 (length ds)) (all_ascii_digits ds) (nat_le v (2 ^ 63))
    (lt-ltb 0 (length ds) h.0.1) h.0.0 (le-leb v (2 ^ 63) h.0.2))
    ∙ ap (λ (x : ℤ). Some x) (sym h.1)
negated_told ds (Err e) h =
    let v = digits_value 10 ds in
    fails _ (neg_ℤ (pos v)) (λ holds.
    let t = each_holds (nat_lt 0 (length ds)) (all_ascii_digits ds) (nat_le v (2 ^ 63)) holds in
    h (t.1, ltb-true 0 (length ds) t.0, leb-true v (2 ^ 63) t.2))

-- ---- fields

-- the number of a field, by whether it begins with a minus
abbrev signed : Bool → ℕ → List ℕ → Option (Option ℤ)
signed b c ds = option_map (λ (z : ℤ). Some z) (if b then negated_of ds else number_of (c ∷ ds))

pub value_parsed : {E : Type 0} (f : List ℕ) (r : Result ℤ E) → (length f == 0) ≡ false → get_or f 0 0 ≢ 43
    → ParsesSigned w64 10 f r → value_in f ≡ option_map (λ (z : ℤ). Some z) (told r)
value_parsed [] r some plus h = absurd (false≢true (sym some))
value_parsed (c ∷ ds) r some plus h = elim (cases_Bool (c == 45)) [
  | inl minus ↦
      ap (λ (b : Bool). signed b c ds) minus
      ∙ ap (option_map (λ (z : ℤ). Some z))
      (negated_told ds r (parse_signed_minus own w64 (c ∷ ds) r h (eqb-true c 45 minus)))
  | inr other ↦
      ap (λ (b : Bool). signed b c ds) other
      ∙ ap (option_map (λ (z : ℤ). Some z))
      (number_told (c ∷ ds) r (parse_signed_plain own w64 (c ∷ ds) r h plus
      (λ e. false≢true (sym other ∙ eq-eqb c 45 e))))
]

-- the number that was read, as it is given back
pub value_read : (f : List ℕ) (z : ℤ) → (length f == 0) ≡ false → get_or f 0 0 ≢ 43
    → ParsesSigned {E = Unit {0}} w64 10 f (Ok z)
    → ◌≡◌ {A = Option (Option ℤ)} (Some (Some (to_z w64 (of_z w64 z)))) (value_in f)
value_read f z some plus h =
    ap (λ (y : ℤ). Some (Some y)) (to_z-of_z w64 z (subst (SFits w64) (sym h.1) h.0.1))
    ∙ sym (value_parsed {E = Unit {0}} f (Ok z) some plus h)

ascii : (ds : List ℕ) → all_ascii_digits ds ≡ true → IsAscii ds
ascii [] e = IsAscii-nil
ascii (c ∷ ds) e =
    let parts = tells_all_ascii_digits.parts c ds e in
    IsAscii-cons c ds (omega (arith, parts.0)) (ascii ds parts.1)

pub value_of_no_text : (f : List ℕ) → (IsUtf8 f → ⊥) → value_in f ≡ None
value_of_no_text [] never = absurd (never IsUtf8-nil)
value_of_no_text (c ∷ ds) never = elim (cases_Bool (c == 45)) [
  | inl minus ↦
      ap (λ (b : Bool). signed b c ds) minus
      ∙ ap (option_map (λ (z : ℤ). Some z)) (fails _ (neg_ℤ (pos (digits_value 10 ds))) (λ holds.
      let t = each_holds (nat_lt 0 (length ds)) (all_ascii_digits ds) (nat_le (digits_value 10 ds) (2 ^ 63)) holds in
      never (IsUtf8-from_ascii (c ∷ ds) (IsAscii-cons c ds (omega (arith, eqb-true c 45 minus)) (ascii ds t.1)))))
  | inr other ↦
      ap (λ (b : Bool). signed b c ds) other
      ∙ ap (option_map (λ (z : ℤ). Some z)) (fails _ (pos (digits_value 10 (c ∷ ds))) (λ holds.
      let t = each_holds (nat_lt 0 (length (c ∷ ds))) (all_ascii_digits (c ∷ ds))
      (nat_lt (digits_value 10 (c ∷ ds)) (2 ^ 63)) holds in
      never (IsUtf8-from_ascii (c ∷ ds) (ascii (c ∷ ds) t.1))))
]
