-- What is written for a cell and for a list is what its test wants, and its text is short.
--
-- The key idea: the text of a list with one item more is longer by that item's text and a comma.
use Rattle.std.proofs.Common.{◌≡◌, ◌≤◌, ◌<◌, ◌+◌, ◌*◌, ◌^◌, ℕ, suc, ℤ, pos, negsuc, List, [], ◌∷◌, ◌++◌, ◌==◌, ◌&&◌}
use Rattle.std.proofs.Common.{length, Bool, true, false, if◌then◌else◌, Some, None, option_map, is_some}
use Rattle.std.proofs.Common.{refl, sym, ap, ◌∙◌, arith, length-append, eq-eqb, lt-ltb, FitsSigned, w64}
use Rattle.std.specs.Fmt.{signed_decimal}
use Rattle.std.proofs.lemmas.Fmt.{length-decimal-le}
use Rattle.std.specs.List.{list_all}
use Rattle.std.proofs.lemmas.Bool.{or_parts}
use Rattle.std.proofs.lemmas.List.Folds.{list_all-append}
use Rattle.serde_json.specs.Data.{Data, number, array, depth, items_depth}
use Rattle.serde_json.specs.Find.{of_integer}
use Rattle.serde_json.specs.View.{items_of}
use Rattle.serde_json.specs.Written.{has_float, items_have_float, compact_text, items_text}
use Rattle.sz_script.specs.Fields.{passes, list_of_items, list_in}
use Rattle.sz_script.specs.Layers.{is_value}
use Rattle.sz_writing.specs.Written.{IsWritten, AreWritten, value_long, list_long}

-- ---- a cell

number-tested : (z : ℤ) → FitsSigned w64 z → is_value (number (of_integer z)) ≡ true
number-tested (pos n) fits =
    ap (λ (b : Bool). is_some (option_map Some (if b then Some (pos n) else None))) (lt-ltb n (2 ^ 63) fits.sfits)
number-tested (negsuc n) fits = refl

number-whole : (z : ℤ) → has_float (number (of_integer z)) ≡ false
number-whole (pos n) = refl
number-whole (negsuc n) = refl

number-short : (z : ℤ) → FitsSigned w64 z → length (compact_text (number (of_integer z))) ≤ 20
number-short (pos n) fits =
    let low : n < 2 ^ 63 = fits.sfits in
    length-decimal-le 20 n (omega arith) (omega arith) (omega arith)
number-short (negsuc n) fits =
    let low : n < 2 ^ 63 = fits.sfits in
    let few : length (signed_decimal (pos (suc n))) ≤ 19 =
    length-decimal-le 19 (suc n) (omega arith) (omega arith) (omega arith) in
    omega (arith, few)

-- a number that is an i64
pub number-written : (z : ℤ) → FitsSigned w64 z → IsWritten is_value 0 value_long (number (of_integer z))
number-written z fits = record {
  tested = number-tested z fits;
  whole = number-whole z;
  shallow = omega arith;
  short = number-short z fits;
}

-- ---- items, one after another

items-whole : (ds : List Data) (d : Data) → items_have_float (items_of ds) ≡ false → has_float d ≡ false
    → items_have_float (items_of (ds ++ d ∷ [])) ≡ false
items-whole [] d none whole = rw whole refl
items-whole (x ∷ ds) d none whole =
    let p = or_parts (has_float x) (items_have_float (items_of ds)) none in
    rw p.0 (items-whole ds d p.1 whole)

items-shallow : (ds : List Data) (d : Data) (deep : ℕ) → items_depth (items_of ds) ≤ deep → depth d ≤ deep
    → items_depth (items_of (ds ++ d ∷ [])) ≤ deep
items-shallow [] d deep all one = omega arith
items-shallow (x ∷ ds) d deep all one = omega (arith, items-shallow ds d deep (omega arith) one)

items-long : (ds : List Data) (d : Data) → length (items_text true (items_of (ds ++ d ∷ [])))
    ≡ length (items_text true (items_of ds)) + (length (compact_text d) + 1)
items-long [] d = omega (arith, length-append (compact_text d) (93 ∷ []))
items-long (x ∷ ds) d = omega (
  arith,
  items-long ds d,
  length-append (compact_text x) (items_text true (items_of (ds ++ d ∷ []))),
  length-append (compact_text x) (items_text true (items_of ds)),
)

-- no items
pub none-written : (test : Data → Bool) (deep long : ℕ) → AreWritten test deep long []
none-written test deep long = record {
  tested = refl;
  whole = refl;
  shallow = omega arith;
  short = omega arith;
}

more-short : (m n k text more : ℕ) → text ≤ (m + 1) * n + 1 → more ≤ m → k ≡ n + 1
    → text + (more + 1) ≤ (m + 1) * k + 1
more-short m n k text more all one next =
    let times : (m + 1) * (n + 1) ≡ (m + 1) * n + (m + 1) = omega arith in
    rw next (omega (arith, times))

-- one item more
pub more-written : (test : Data → Bool) (deep long : ℕ) (ds : List Data) (d : Data)
    → AreWritten test deep long ds → IsWritten test deep long d → AreWritten test deep long (ds ++ d ∷ [])
more-written test deep long ds d all one = record {
  tested = list_all-append test ds (d ∷ []) ∙ ap (λ (b : Bool). b && (test d && true)) all.tested
      ∙ ap (λ (b : Bool). b && true) one.tested;
  whole = items-whole ds d all.whole one.whole;
  shallow = items-shallow ds d deep all.shallow one.shallow;
  short = rw (items-long ds d)
      (more-short long (length ds) (length (ds ++ d ∷ [])) _ _ all.short one.short (length-append ds (d ∷ [])));
}

-- ---- a list

items-listed : (ds : List Data) → list_of_items (items_of ds) ≡ ds
items-listed [] = refl
items-listed (d ∷ ds) = ap (λ (l : List Data). d ∷ l) (items-listed ds)

-- the items of a list
pub list-listed : (ds : List Data) → list_in (array (items_of ds)) ≡ Some ds
list-listed ds = ap Some (items-listed ds)

first-long : (ds : List Data) → length (items_text false (items_of ds)) ≤ length (items_text true (items_of ds))
first-long [] = omega arith
first-long (d ∷ ds) = omega arith

-- the test of a list of so many items, each of which passes a test
abbrev pub is_list : (Data → Bool) → ℕ → Data → Bool
is_list test count d = passes (λ ds. (length ds == count) && list_all test ds) (list_in d)

-- a list of written items
pub list-written : (test : Data → Bool) (deep long count : ℕ) (ds : List Data) → length ds ≡ count
    → AreWritten test deep long ds
    → IsWritten (is_list test count) (suc deep) (list_long count long) (array (items_of ds))
list-written test deep long count ds counted all = record {
  tested = ap (passes (λ ds. (length ds == count) && list_all test ds)) (list-listed ds)
      ∙ ap (λ (b : Bool). b && list_all test ds) (eq-eqb (length ds) count counted) ∙ all.tested;
  whole = all.whole;
  shallow = omega (arith, all.shallow);
  short = rw (sym counted) (omega (arith, all.short, first-long ds));
}
