-- Bits of words of 64, and the search for one in a row of words.
--
-- The key idea: an index is a word and a place in it, as a cell is a row and a column. A search that has passed some
-- words knows that no index before them passes; in the first word that has a bit left, the lowest one is the answer.
use Rattle.std.proofs.Common.{◌≡◌, ℕ, zero, suc, ◌+◌, ◌-◌, ◌*◌, ◌/◌, ◌%◌}
use Rattle.std.proofs.Common.{◌^◌, ◌<◌, ◌≤◌, Bool, true, false, not, ◌&&◌, ◌||◌}
use Rattle.std.proofs.Common.{◌==◌, nat_le, min, max, List, get_or, bit_and, bit_or, Some}
use Rattle.std.proofs.Common.{None, refl, sym, ap, ap₂, ◌∙◌, arith, inl, inr, true≢false}
use Rattle.std.proofs.Common.{eq-eqb, ne_eqb, leb-true, le-leb, lit<, ◌⊎◌}
use Rattle.std.specs.Int.{bit_at, bit_not, w64, trailing_zeros}
use Rattle.std.specs.List.{find, range_with_len}
use Rattle.std.proofs.lemmas.Bool.{cases_Bool, cases_eq, cases_lt, and_parts, not-true, lt-leb}
use Rattle.std.proofs.lemmas.Bool.Decides.{nat_tests}
use Rattle.std.proofs.lemmas.Nat.{div-mul-add, mod-mul-add, div-add-mod', mod_below, one_shl}
use Rattle.std.proofs.lemmas.Nat.Bits.{bit_at_and, bit_at_or, bit_at-zero, bit_at_not, bit_at-lt, bit_at-pow_same}
use Rattle.std.proofs.lemmas.Nat.Bits.{bit_at-pow_other, bit_at_ones, bit_at_ones_above, ones_shl, ones_shr}
use Rattle.std.proofs.lemmas.Nat.Bits.{bit_at_mask_inside, bit_at_mask_below, bit_at-trailing_zeros}
use Rattle.sz_cells.specs.declared.Run.{Run}
use Rattle.sz_cells.specs.Runs.{is_in}
use Rattle.sz_cells.specs.Words.{is_one, has_bit}

-- ---- one word

-- a bit is 0 or 1
bit-cases : (n i : ℕ) → (bit_at n i ≡ 0) ⊎ (bit_at n i ≡ 1)
bit-cases n i =
    elim (cases_eq (bit_at n i) 0) [ inl none ↦ inl none | inr some ↦ inr (omega (arith, bit_at-lt n i)) ]

-- what holds of 0 and 1 holds of two bits
of-bits : (P : ℕ → ℕ → Type 0) → P 0 0 → P 0 1 → P 1 0 → P 1 1 → (a b i : ℕ) → P (bit_at a i) (bit_at b i)
of-bits P none right left both a b i =
    elim (bit-cases a i) [
      | inl x ↦ elim (bit-cases b i) [ inl y ↦ rw (x, y) none | inr y ↦ rw (x, y) right ]
      | inr x ↦ elim (bit-cases b i) [ inl y ↦ rw (x, y) left | inr y ↦ rw (x, y) both ]
    ]

pub one-or : (a b i : ℕ) → is_one (bit_or a b) i ≡ (is_one a i || is_one b i)
unfolding is_one
one-or a b i =
    rw bit_at_or (of-bits (λ x y. (max x y == 1) ≡ ((x == 1) || (y == 1))) refl refl refl refl a b i)

pub one-and : (a b i : ℕ) → is_one (bit_and a b) i ≡ (is_one a i && is_one b i)
unfolding is_one
one-and a b i =
    rw bit_at_and (of-bits (λ x y. (min x y == 1) ≡ ((x == 1) && (y == 1))) refl refl refl refl a b i)

pub one-not : (n i : ℕ) → n < 2 ^ 64 → i < 64 → is_one (bit_not w64 n) i ≡ not (is_one n i)
unfolding is_one
one-not n i small low =
    rw (bit_at_not w64 n i small low) (elim (bit-cases n i) [ inl x ↦ rw x refl | inr x ↦ rw x refl ])

pub one-zero : (i : ℕ) → is_one 0 i ≡ false
unfolding is_one
one-zero i = rw bit_at-zero refl

-- `1 << k` has one bit
pub one-single : (k i : ℕ) → k < 64 → is_one (1 * 2 ^ k % 2 ^ 64) i ≡ (i == k)
unfolding is_one
one-single k i low =
    rw (one_shl k 64 low)
    (elim (cases_eq i k) [
      | inl same ↦ rw (same, bit_at-pow_same k, eq-eqb k k refl) refl
      | inr other ↦ rw (bit_at-pow_other k i other, ne_eqb i k other) refl
    ])

-- `MAX`, `MAX << k` and `MAX >> k`
pub one-ones : (i : ℕ) → i < 64 → is_one (2 ^ 64 - 1) i ≡ true
unfolding is_one
one-ones i low = rw (bit_at_ones 64 i low) refl

pub one-ones_from : (k i : ℕ) → k < 64 → i < 64 → is_one ((2 ^ 64 - 1) * 2 ^ k % 2 ^ 64) i ≡ nat_le k i
unfolding is_one
one-ones_from k i small low =
    rw (ones_shl 64 k (omega arith))
    (elim (cases_lt i k) [
      | inl under ↦ rw (bit_at_mask_below k 64 i under, lt-leb k i under) refl
      | inr over ↦ rw (bit_at_mask_inside k 64 i over low, le-leb k i over) refl
    ])

pub one-ones_upto : (k i : ℕ) → k < 64 → is_one ((2 ^ 64 - 1) / 2 ^ (63 - k)) i ≡ nat_le i k
unfolding is_one
one-ones_upto k i small =
    let long : 64 - (63 - k) ≡ k + 1 = omega arith in
    rw (ones_shr 64 (63 - k) (omega arith), long)
    (elim (cases_lt k i) [
      | inl past ↦ rw (bit_at_ones_above (k + 1) i (omega arith), lt-leb i k past) refl
      | inr within ↦ rw (bit_at_ones (k + 1) i (omega arith), le-leb i k within) refl
    ])

-- ---- words in a row

-- an index as a word and a place in it
pub has_bit-at : (words : List ℕ) (word place : ℕ) → place < 64 → has_bit words (word * 64 + place)
    ≡ is_one (get_or words word 0) place
unfolding has_bit
has_bit-at words word place low = rw (div-mul-add word 64 place low, mod-mul-add word 64 place low) refl

-- the word and the place of an index
pub index-place : (k : ℕ) → (k / 64 * 64 + k % 64 ≡ k) × (k % 64 < 64)
index-place k = (div-add-mod' k 64, mod_below k 64 (lit< tt))

-- in the word of an index, a place is not before the index's where its own index is not before it
pub place-from : (word k place : ℕ) → word ≡ k / 64 → nat_le (k % 64) place ≡ nat_le k (word * 64 + place)
place-from word k place same =
    let at : word * 64 + k % 64 ≡ k = ap (λ (q : ℕ). q * 64 + k % 64) same ∙ (index-place k).0 in
    grind (arith, nat_tests)

pub place-upto : (word k place : ℕ) → word ≡ k / 64 → nat_le place (k % 64) ≡ nat_le (word * 64 + place) k
place-upto word k place same =
    let at : word * 64 + k % 64 ≡ k = ap (λ (q : ℕ). q * 64 + k % 64) same ∙ (index-place k).0 in
    grind (arith, nat_tests)

-- the bits of a later or an earlier word are all after an index, or before it
pub later-word : (word k place : ℕ) → k / 64 ≤ word → (word ≡ k / 64 → ⊥)
    → true ≡ nat_le k (word * 64 + place)
later-word word k place low other =
    let at = index-place k in
    let next : k / 64 + 1 ≤ word = omega arith in
    sym (le-leb k (word * 64 + place) (omega arith))

pub earlier-word : (word k place : ℕ) → word ≤ k / 64 → (word ≡ k / 64 → ⊥) → place < 64
    → true ≡ nat_le (word * 64 + place) k
earlier-word word k place low other inside =
    let at = index-place k in
    let next : word + 1 ≤ k / 64 = omega arith in
    sym (le-leb (word * 64 + place) k (omega arith))

-- the bits of a word that are not before an index of it
pub bits-from : (bits word from : ℕ) → word ≡ from / 64 → (place : ℕ) → place < 64
    → is_one (bit_and bits ((2 ^ 64 - 1) * 2 ^ (from % 64) % 2 ^ 64)) place
    ≡ (is_one bits place && nat_le from (word * 64 + place))
bits-from bits word from same place low =
    one-and bits ((2 ^ 64 - 1) * 2 ^ (from % 64) % 2 ^ 64) place
    ∙ ap (λ b. is_one bits place && b) (one-ones_from (from % 64) place (index-place from).1 low
    ∙ place-from word from place same)

-- the bits of a word that are the indexes of a run, from the parts of the two ends
pub bits-of_run : (r : Run) (word from upto : ℕ) → r.first / 64 ≤ word → word ≤ r.last / 64
    → (word ≡ r.first / 64 → from ≡ (2 ^ 64 - 1) * 2 ^ (r.first % 64) % 2 ^ 64)
    → ((word ≡ r.first / 64 → ⊥) → from ≡ 2 ^ 64 - 1)
    → (word ≡ r.last / 64 → upto ≡ (2 ^ 64 - 1) / 2 ^ (63 - r.last % 64)) → ((word ≡ r.last / 64 → ⊥)
    → upto ≡ 2 ^ 64 - 1)
    → (place : ℕ) → place < 64 → is_one (bit_and from upto) place ≡ is_in r (word * 64 + place)
bits-of_run r word from upto low high at_first past_first at_last before_last place inside =
    one-and from upto place
    ∙ ap₂ (λ (x y : Bool). x && y)
    (elim (cases_eq word (r.first / 64)) [
      | inl same ↦
          ap (λ (b : ℕ). is_one b place) (at_first same) ∙ one-ones_from (r.first % 64) place
          (index-place r.first).1 inside ∙ place-from word r.first place same
      | inr other ↦ ap (λ (b : ℕ). is_one b place) (past_first other) ∙ one-ones place inside
          ∙ later-word word r.first place low other
    ])
    (elim (cases_eq word (r.last / 64)) [
      | inl same ↦
          ap (λ (b : ℕ). is_one b place) (at_last same) ∙ one-ones_upto (r.last % 64) place (index-place r.last).1
          ∙ place-upto word r.last place same
      | inr other ↦ ap (λ (b : ℕ). is_one b place) (before_last other) ∙ one-ones place inside
          ∙ earlier-word word r.last place high other inside
    ])

-- the bits of a word that are those of its indexes that pass a test and are not before a number
abbrev pub AreBitsOf : ℕ → (ℕ → Bool) → ℕ → ℕ → Type 0
AreBitsOf bits test word from = (place : ℕ) → place < 64 → is_one bits place ≡ (test (word * 64 + place)
    && nat_le from (word * 64 + place))

-- no index of so many words, from a number on, passes
abbrev pub NonePasses : (ℕ → Bool) → ℕ → ℕ → Type 0
NonePasses test from bound = (k : ℕ) → from ≤ k → k < bound → test k ≡ false

-- an index of a word, from a number on, passes where its bit is 1
at-place : (bits : ℕ) (test : ℕ → Bool) (word from k : ℕ) → AreBitsOf bits test word from → from ≤ k
    → word * 64 ≤ k → k < word * 64 + 64
    → test k ≡ is_one bits (k - word * 64)
at-place bits test word from k are low above below =
    let at : word * 64 + (k - word * 64) ≡ k = omega arith in
    let said = rw at at (are (k - word * 64) (omega arith)) in
    sym (said ∙ (rw (le-leb from k low) (elim (cases_Bool (test k)) [ inl t ↦ rw t refl | inr f ↦ rw f refl ])))

-- a word with no bit left is passed
pub past-word : (bits : ℕ) (test : ℕ → Bool) (word from : ℕ) → AreBitsOf bits test word from → bits ≡ 0
    → NonePasses test from (word * 64)
    → NonePasses test from ((word + 1) * 64)
past-word bits test word from are none before k low below =
    elim (cases_lt k (word * 64)) [
      | inl under ↦ before k low under
      | inr over ↦ at-place bits test word from k are low over (omega arith)
          ∙ ap (λ (b : ℕ). is_one b (k - word * 64)) none ∙ one-zero (k - word * 64)
    ]

-- the lowest bit of a word that has one left is the first index that passes
pub record IsFirst (test : ℕ → Bool) (from i : ℕ) : Type 0 where
  pub low : from ≤ i
  pub passes : test i ≡ true
  pub before : NonePasses test from i

pub in-word : (bits : ℕ) (test : ℕ → Bool) (word from : ℕ) → AreBitsOf bits test word from → 0 < bits
    → bits < 2 ^ 64
    → NonePasses test from (word * 64) → (trailing_zeros w64 bits < 64)
    × IsFirst test from (word * 64 + trailing_zeros w64 bits)
unfolding is_one
in-word bits test word from are some small before =
    let place = trailing_zeros w64 bits in
    let lowest = bit_at-trailing_zeros w64 bits some small in
    let one : is_one bits place ≡ true = eq-eqb (bit_at bits place) 1 lowest.1 in
    let both = sym (are place lowest.0) ∙ one in
    let parts = and_parts (test (word * 64 + place)) (nat_le from (word * 64 + place)) both in (
      lowest.0,
      record {
        low = leb-true from (word * 64 + place) parts.1;
        passes = parts.0;
        before = λ k low below.
            elim (cases_lt k (word * 64)) [
              | inl under ↦ before k low under
              | inr over ↦
                  at-place bits test word from k are low over (omega (arith, lowest.0))
                  ∙ (rw (lowest.2 (k - word * 64) (omega arith)) refl)
            ];
      },
    )

-- the bits that are left of a word of the row, and of such a word turned
pub bits-left : (words : List ℕ) (bits word from : ℕ)
    → ((place : ℕ) → place < 64 → is_one bits place ≡ (is_one (get_or words word 0) place && nat_le from
    (word * 64 + place))) → AreBitsOf bits (has_bit words) word from
bits-left words bits word from said place low =
    said place low ∙ ap (λ b. b && nat_le from (word * 64 + place)) (sym (has_bit-at words word place low))

pub bits-left_turned : (words : List ℕ) (bits word from : ℕ) → get_or words word 0 < 2 ^ 64
    → ((place : ℕ) → place < 64 → is_one bits place ≡ (is_one (bit_not w64 (get_or words word 0)) place
    && nat_le from (word * 64 + place)))
    → AreBitsOf bits (λ k. not (has_bit words k)) word from
bits-left_turned words bits word from small said place low =
    said place low
    ∙ ap (λ b. b && nat_le from (word * 64 + place)) (one-not (get_or words word 0) place small low
    ∙ ap not (sym (has_bit-at words word place low)))

-- a number that passes is not the first one that does not
pub first-after : (test : ℕ → Bool) (from i : ℕ) → IsFirst (λ k. not (test k)) from i → test from ≡ true
    → from < i
first-after test from i first passes =
    elim (cases_eq from i) [
      | inl same ↦ absurd (true≢false (sym passes ∙ ap test same ∙ not-true (test i) first.passes))
      | inr other ↦ omega (arith, first.low)
    ]

-- ---- the first number of a range that passes

pub find-first : (test : ℕ → Bool) (n a i : ℕ) → IsFirst test a i → i < a + n
    → find test (range_with_len a n) ≡ Some i
find-first test zero a i first high = absurd (omega (arith, first.low))
find-first test (suc n) a i first high =
    elim (cases_eq a i) [
      | inl same ↦ let here : test a ≡ true = ap test same ∙ first.passes in rw here (ap Some same)
      | inr other ↦
          let more : a + 1 ≤ i = omega (arith, first.low) in
          rw (first.before a (omega arith) (omega arith))
          (find-first test n (a + 1) i (record {
            low = more;
            passes = first.passes;
            before =
                λ k low below. first.before k (omega arith) below;
          }) (omega arith))
    ]

pub find-none : (test : ℕ → Bool) (n a : ℕ) → NonePasses test a (a + n) → find test (range_with_len a n)
    ≡ None
find-none test zero a none = refl
find-none test (suc n) a none =
    rw (none a (omega arith) (omega arith)) (find-none test n (a + 1) (λ k low high. none k (omega arith)
    (omega arith)))
