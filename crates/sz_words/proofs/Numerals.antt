-- A text that clap's parser of whole numbers takes, in a range with no negative number, is read by
-- the typed getter without its minus, and what is left is a numeral of that range. With a minus it
-- can only be some spelling of 0, whose digits are 0 too; without one, both read the same digits.
use Rattle.std.proofs.Common.{◌≡◌, ◌==◌, ℕ, Bool, cond, true, false, List, [], ◌∷◌, Option, Some}
use Rattle.std.proofs.Common.{None, drop, refl, sym, ap, ◌∙◌, arith}
use Rattle.std.specs.Prelude.{Err, IsSome, Ok, Result, pos, unwrap_or}
use Rattle.std.specs.Str.Parse.{IsNumeral, ParsesUnsigned, starts_with_minus, without_leading_plus}
use Rattle.std.proofs.lemmas.Int.{ints}
use Rattle.std.proofs.lemmas.Str.Parse.{digit_from_value, without_leading_plus_none}
use Rattle.clap.specs.Words.{IsSignedIn, ReadsOne, Text, without_minus}
use Rattle.sz_words.specs.Numbers.{IsNumberIn, number_of}

without_minus-cond : (t : Text) → without_minus t ≡ cond (starts_with_minus t) (drop 1 t) t
without_minus-cond [] = refl
without_minus-cond (x ∷ xs) = go (x == 45)
  where
    go : (b : Bool) → unwrap_or (cond b (Some xs) None) (x ∷ xs) ≡ cond b xs (x ∷ xs)
    go true = refl
    go false = refl

without_leading_plus-numeral : (ds : Text) → IsNumeral 10 ds → without_leading_plus ds ≡ ds
without_leading_plus-numeral [] h = refl
without_leading_plus-numeral (d ∷ ds) h =
    without_leading_plus_none (d ∷ ds) (λ e. omega (arith, digit_from_value d h.1.0))

-- a text of the range has a number in it once its minus is passed over
pub number_without_minus : (low high : ℕ) (t : Text) → IsSignedIn (pos low) (pos high) t
    → IsNumberIn low high (Some (without_minus t))
number_without_minus low high t passed = rw (without_minus-cond t) (go (starts_with_minus t) refl)
  where
    go : (b : Bool) → starts_with_minus t ≡ b
        → IsNumberIn low high (Some (cond (starts_with_minus t) (drop 1 t) t))
    go true minus =
        let low_ok = rw minus at passed.2 in
        let high_ok = rw minus at passed.3 in
        let numeral : IsNumeral 10 (drop 1 t) = rw minus at passed.0 in
        let same = without_leading_plus-numeral (drop 1 t) numeral in
        rw (minus, same) (numeral, omega (arith, ints), omega (arith, ints))
    go false minus =
        let low_ok = rw minus at passed.2 in
        let high_ok = rw minus at passed.3 in
        let numeral : IsNumeral 10 (without_leading_plus t) = rw minus at passed.0 in
        rw minus (numeral, omega (arith, ints), omega (arith, ints))

-- what the typed getter of 32 bits gives, where such a text stands
pub number_read : {E : Type 0} (gives : List ℕ → Result ℕ E → Type 0) (got : Option ℕ) (o : Option Text)
    {text : Option Text} → text ≡ o → IsNumberIn 0 4294967295 o
    → ((t : Text) → text ≡ Some t → ReadsOne gives t got)
    → ((u : List ℕ) (x : Result ℕ E) → gives u x → ParsesUnsigned 32 10 u x)
    → IsSome got × ((n : ℕ) → got ≡ Some n → n ≡ number_of o)
number_read gives got None same number reads only = absurd number
number_read gives (Some n) (Some t) same number reads only =
    (refl, λ k e. let is : n ≡ k = ap (λ o. unwrap_or o n) e in sym is ∙ (only t (Ok n) (reads t same)).1)
number_read gives None (Some t) same number reads only =
    let read = reads t same in
    absurd (only t (Err read.0) read.1 (number.0, omega (arith, number.2)))
