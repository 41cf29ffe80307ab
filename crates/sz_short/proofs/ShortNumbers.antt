-- What follows of short numbers: they are read back, do not begin one another, and are the only short spellings.
--
-- The key idea: a number is its lowest seven bits and the rest, and the first byte says whether there is a rest. So
-- each fact goes down by one byte at a time.
use Rattle.std.proofs.Common.{◌≡◌, ℕ, zero, suc, ◌+◌, ◌-◌, ◌*◌, ◌/◌, ◌%◌, ◌^◌, ◌<◌, ◌≤◌, List, [], ◌∷◌, ◌++◌, length}
use Rattle.std.proofs.Common.{drop, length-append, length-drop}
use Rattle.std.proofs.Common.{get_or, refl, sym, ap, ap₂, subst, ◌∙◌, arith, inl, inr, lt-ltb, append_assoc}
use Rattle.std.proofs.Math.Nat.{pow-suc, one-le-pow}
use Rattle.std.proofs.lemmas.Bool.{cases_lt, le-ltb}
use Rattle.sz_region.specs.Counted.{IsAt}
use Rattle.sz_region.specs.Stores.{NoneAt}
use Rattle.sz_region.proofs.Spans.{IsPrefixFree, at-byte, at-both}
use Rattle.sz_short.specs.ShortNumber.{short_within, short_number, IsWithin, IsSmall, number_spelled}
use Rattle.sz_short.specs.ShortNumber.{IsShortTail, IsShortSpelling}
use Rattle.sz_short.specs.Laws.{NumbersHaveShortSpellings, ShortSpellingsAreNumbers, BytesAreOneShortNumber}

-- ---- the first byte

-- a number of one byte
pub within-one : (more n : ℕ) → n < 128 → short_within more n ≡ n ∷ []
unfolding short_within
within-one zero n low = refl
within-one (suc more) n low = rw (lt-ltb n 128 low) refl

-- a number of more
pub within-more : (more n : ℕ) → 128 ≤ n → short_within (suc more) n ≡ (n % 128 + 128) ∷ short_within more (n / 128)
unfolding short_within
within-more more n high = rw (le-ltb n 128 high) refl

within-last : (n : ℕ) → short_within zero n ≡ n ∷ []
unfolding short_within
within-last n = refl

-- a number of the rest and of seven bits
pub within-up : (more high low : ℕ) → 0 < high → low < 128
    → short_within (suc more) (high * 128 + low) ≡ (low + 128) ∷ short_within more high
within-up more high low some few =
    let rest : (high * 128 + low) / 128 ≡ high = omega arith in
    let bits : (high * 128 + low) % 128 ≡ low = omega arith in
    within-more more (high * 128 + low) (omega arith)
    ∙ ap₂ (λ (b m : ℕ). (b + 128) ∷ short_within more m) bits rest

-- there is a byte
within-some : (more n : ℕ) → 0 < length (short_within more n)
within-some zero n = rw within-last (omega arith)
within-some (suc more) n = elim (cases_lt n 128) [
  | inl low ↦ omega (arith, ap length (within-one (suc more) n low))
  | inr high ↦ omega (arith, ap length (within-more more n high))
]

pub number-some : (n : ℕ) → 0 < length (short_number n)
unfolding short_number
number-some n = within-some 4 n

-- ---- how large

pub fits-one : (more n : ℕ) → n < 128 → IsWithin more n
fits-one more n low = record {
  small = omega arith;
  low = omega (arith, pow-suc 128 more, one-le-pow more 128 (omega arith));
}

pub fits-rest : (more n : ℕ) → IsWithin (suc more) n → IsWithin more (n / 128)
fits-rest more n is =
    let bound : n < 128 ^ suc more * 128 = subst (λ (k : ℕ). n < k) (pow-suc 128 (suc more)) is.low in
    record { small = omega (arith, is.small); low = omega arith }

pub fits-up : (more high low : ℕ) → IsWithin more high → high < 33554432 → low < 128
    → IsWithin (suc more) (high * 128 + low)
fits-up more high low is small few =
    record { small = omega arith; low = omega (arith, pow-suc 128 (suc more), is.low) }

fits-last : (n : ℕ) → IsWithin zero n → n < 128
fits-last n is = is.low

pub fits-four : (n : ℕ) → IsSmall n → IsWithin 4 n
fits-four n small = record { small = small; low = omega arith }

-- ---- no spelling begins another

pub within-free : (more : ℕ) → IsPrefixFree (IsWithin more) (short_within more)
within-free zero m n x y is are same =
    let whole : m ∷ x ≡ n ∷ y =
    ap (λ (w : List ℕ). w ++ x) (sym (within-last m)) ∙ same ∙ ap (λ (w : List ℕ). w ++ y) (within-last n) in
    let head : m ≡ n = cc in
    let tail : x ≡ y = cc in
    (head, tail)
within-free (suc more) m n x y is are same =
    elim (cases_lt m 128) [
      | inl low ↦ elim (cases_lt n 128) [
        | inl less ↦
            let whole : m ∷ x ≡ n ∷ y = ap (λ (w : List ℕ). w ++ x) (sym (within-one (suc more) m low)) ∙ same
            ∙ ap (λ (w : List ℕ). w ++ y) (within-one (suc more) n less) in
            let head : m ≡ n = cc in
            let tail : x ≡ y = cc in
            (head, tail)
        | inr great ↦
            let whole : m ∷ x ≡ (n % 128 + 128) ∷ (short_within more (n / 128) ++ y) =
            ap (λ (w : List ℕ). w ++ x) (sym (within-one (suc more) m low)) ∙ same
            ∙ ap (λ (w : List ℕ). w ++ y) (within-more more n great) in
            let head : m ≡ n % 128 + 128 = cc in
            absurd (omega arith)
      ]
      | inr high ↦ elim (cases_lt n 128) [
        | inl less ↦
            let whole : (m % 128 + 128) ∷ (short_within more (m / 128) ++ x) ≡ n ∷ y =
            ap (λ (w : List ℕ). w ++ x) (sym (within-more more m high)) ∙ same
            ∙ ap (λ (w : List ℕ). w ++ y) (within-one (suc more) n less) in
            let head : m % 128 + 128 ≡ n = cc in
            absurd (omega arith)
        | inr great ↦
            let whole : (m % 128 + 128) ∷ (short_within more (m / 128) ++ x)
            ≡ (n % 128 + 128) ∷ (short_within more (n / 128) ++ y) =
            ap (λ (w : List ℕ). w ++ x) (sym (within-more more m high)) ∙ same
            ∙ ap (λ (w : List ℕ). w ++ y) (within-more more n great) in
            let head : m % 128 + 128 ≡ n % 128 + 128 = cc in
            let tail : short_within more (m / 128) ++ x ≡ short_within more (n / 128) ++ y = cc in
            let rest = within-free more (m / 128) (n / 128) x y (fits-rest more m is) (fits-rest more n are) tail in
            (omega (arith, rest.0), rest.1)
      ]
    ]

pub short-free : IsPrefixFree IsSmall short_number
unfolding short_number
short-free m n x y small little same =
    within-free 4 m n x y (fits-four m small) (fits-four n little) same

-- ---- reading

-- what stands at a place begins with its byte
at-first : (bytes : List ℕ) (at n : ℕ) (word rest : List ℕ) → at < length bytes → drop at bytes ≡ (n ∷ word) ++ rest
    → (get_or bytes at 0 ≡ n) × (drop (at + 1) bytes ≡ word ++ rest)
at-first bytes at n word rest inside spelled =
    let whole : get_or bytes at 0 ∷ drop (at + 1) bytes ≡ n ∷ (word ++ rest) =
    sym (at-byte bytes at inside).spelled ∙ spelled in
    let head : get_or bytes at 0 ≡ n = cc in
    let tail : drop (at + 1) bytes ≡ word ++ rest = cc in
    (head, tail)

-- there is no byte
pub none-past : (more : ℕ) (bytes : List ℕ) (at : ℕ) → length bytes ≤ at
    → NoneAt (IsWithin more) (short_within more) bytes at
none-past more bytes at past n rest is spelled =
    omega (
      arith,
      ap length spelled,
      length-drop at bytes,
      length-append (short_within more n) rest,
      within-some more n,
    )

-- a byte of seven bits is a number
pub reads-one : (more : ℕ) (bytes : List ℕ) (at : ℕ) → at < length bytes → get_or bytes at 0 < 128
    → IsAt bytes at (at + 1) (short_within more (get_or bytes at 0))
reads-one more bytes at inside low =
    subst (IsAt bytes at (at + 1)) (sym (within-one more (get_or bytes at 0) low)) (at-byte bytes at inside)

-- the number of a byte with its top bit set has a rest behind it
rest-of : (more : ℕ) (bytes : List ℕ) (at n : ℕ) (rest : List ℕ) → at < length bytes → 128 ≤ get_or bytes at 0
    → IsWithin (suc more) n → drop at bytes ≡ short_within (suc more) n ++ rest
    → (128 ≤ n) × (drop (at + 1) bytes ≡ short_within more (n / 128) ++ rest)
rest-of more bytes at n rest inside top is spelled =
    elim (cases_lt n 128) [
      | inl low ↦
          let first = at-first bytes at n [] rest inside
          (spelled ∙ ap (λ (w : List ℕ). w ++ rest) (within-one (suc more) n low)) in
          absurd (omega (arith, first.0))
      | inr high ↦
          let first = at-first bytes at (n % 128 + 128) (short_within more (n / 128)) rest inside
          (spelled ∙ ap (λ (w : List ℕ). w ++ rest) (within-more more n high)) in
          (high, first.1)
    ]

-- there may be no rest
pub none-long : (bytes : List ℕ) (at : ℕ) → at < length bytes → 128 ≤ get_or bytes at 0
    → NoneAt (IsWithin zero) (short_within zero) bytes at
none-long bytes at inside top n rest is spelled =
    let first = at-first bytes at n [] rest inside (spelled ∙ ap (λ (w : List ℕ). w ++ rest) (within-last n)) in
    omega (arith, first.0, fits-last n is)

-- there is no rest
pub none-behind : (more : ℕ) (bytes : List ℕ) (at : ℕ) → at < length bytes → 128 ≤ get_or bytes at 0
    → NoneAt (IsWithin more) (short_within more) bytes (at + 1)
    → NoneAt (IsWithin (suc more)) (short_within (suc more)) bytes at
none-behind more bytes at inside top none n rest is spelled =
    none (n / 128) rest (fits-rest more n is) (rest-of more bytes at n rest inside top is spelled).1

-- the rest is 0, or too large
pub none-other : (more : ℕ) (bytes : List ℕ) (at next high : ℕ) → at < length bytes → 128 ≤ get_or bytes at 0
    → IsWithin more high → IsAt bytes (at + 1) next (short_within more high) → (0 < high → 33554432 ≤ high)
    → NoneAt (IsWithin (suc more)) (short_within (suc more)) bytes at
none-other more bytes at next high inside top fits read wrong n rest is spelled =
    let behind = rest-of more bytes at n rest inside top is spelled in
    let same = within-free more high (n / 128) (drop next bytes) rest fits (fits-rest more n is)
    (sym read.spelled ∙ behind.1) in
    let some : 0 < high = omega (arith, behind.0, same.0) in
    omega (arith, same.0, wrong some, is.small)

-- there is a rest
pub reads-more : (more : ℕ) (bytes : List ℕ) (at next high : ℕ) → at < length bytes → 128 ≤ get_or bytes at 0
    → get_or bytes at 0 < 256 → IsAt bytes (at + 1) next (short_within more high) → 0 < high
    → IsAt bytes at next (short_within (suc more) (high * 128 + (get_or bytes at 0 - 128)))
reads-more more bytes at next high inside top byte read some =
    let b = get_or bytes at 0 in
    let low : b - 128 + 128 ≡ b = omega arith in
    subst (IsAt bytes at next) (ap (λ (k : ℕ). k ∷ short_within more high) (sym low)
    ∙ sym (within-up more high (b - 128) some (omega arith)))
    (at-both bytes at (at + 1) next (b ∷ []) (short_within more high) (at-byte bytes at inside) read)

-- ---- writing

-- so much of a number was written, and what is left is this
pub record IsLeft (number : ℕ) (done : List ℕ) (rest : ℕ) : Type 0 where
  pub more : ℕ
  pub fits : IsWithin more rest
  pub spelled : done ++ short_within more rest ≡ short_number number

pub left-all : (number : ℕ) → IsSmall number → IsLeft number [] number
unfolding short_number
left-all number small = record { more = 4; fits = fits-four number small; spelled = refl }

pub left-last : (number : ℕ) (done : List ℕ) (rest : ℕ) → IsLeft number done rest → rest < 128
    → done ++ rest ∷ [] ≡ short_number number
left-last number done rest left low =
    ap (λ (w : List ℕ). done ++ w) (sym (within-one left.more rest low)) ∙ left.spelled

left-step : (number : ℕ) (done : List ℕ) (rest more : ℕ) → IsWithin more rest
    → done ++ short_within more rest ≡ short_number number → 128 ≤ rest
    → IsLeft number (done ++ (rest % 128 + 128) ∷ []) (rest / 128)
left-step number done rest zero fits spelled high = absurd (omega (arith, fits-last rest fits))
left-step number done rest (suc more) fits spelled high = record {
  more = more;
  fits = fits-rest more rest fits;
  spelled = append_assoc done ((rest % 128 + 128) ∷ []) (short_within more (rest / 128))
      ∙ ap (λ (w : List ℕ). done ++ w) (sym (within-more more rest high)) ∙ spelled;
}

pub left-less : (number : ℕ) (done : List ℕ) (rest : ℕ) → IsLeft number done rest → 128 ≤ rest
    → IsLeft number (done ++ (rest % 128 + 128) ∷ []) (rest / 128)
left-less number done rest left high = left-step number done rest left.more left.fits left.spelled high

-- ---- the laws

tail-more : (b : ℕ) (bytes : List ℕ) → 128 ≤ b → b < 256 → IsShortTail bytes → IsShortTail (b ∷ bytes)
tail-more b [] top byte tail = elim tail [ ]
tail-more b (c ∷ bytes) top byte tail = (top, byte, tail)

spelling-more : (b : ℕ) (bytes : List ℕ) → 128 ≤ b → b < 256 → IsShortTail bytes → IsShortSpelling (b ∷ bytes)
spelling-more b [] top byte tail = elim tail [ ]
spelling-more b (c ∷ bytes) top byte tail = (top, byte, tail)

-- the bytes of what is left are a tail
within-tail : (more n : ℕ) → 0 < n → IsWithin more n → IsShortTail (short_within more n)
within-tail zero n some is = subst IsShortTail (sym (within-last n)) (some, fits-last n is)
within-tail (suc more) n some is = elim (cases_lt n 128) [
  | inl low ↦ subst IsShortTail (sym (within-one (suc more) n low)) (some, low)
  | inr high ↦
      subst IsShortTail (sym (within-more more n high))
      (tail-more (n % 128 + 128) (short_within more (n / 128)) (omega arith) (omega arith)
      (within-tail more (n / 128) (omega arith) (fits-rest more n is)))
]

within-spelling : (more n : ℕ) → IsWithin (suc more) n → IsShortSpelling (short_within (suc more) n)
within-spelling more n is = elim (cases_lt n 128) [
  | inl low ↦ subst IsShortSpelling (sym (within-one (suc more) n low)) low
  | inr high ↦
      subst IsShortSpelling (sym (within-more more n high))
      (spelling-more (n % 128 + 128) (short_within more (n / 128)) (omega arith) (omega arith)
      (within-tail more (n / 128) (omega arith) (fits-rest more n is)))
]

-- and spell the number
within-number : (more n : ℕ) → IsWithin more n → number_spelled (short_within more n) ≡ n
within-number zero n is = ap number_spelled (within-last n) ∙ omega (arith, fits-last n is)
within-number (suc more) n is = elim (cases_lt n 128) [
  | inl low ↦ ap number_spelled (within-one (suc more) n low) ∙ omega arith
  | inr high ↦
      let rest = within-number more (n / 128) (fits-rest more n is) in
      ap number_spelled (within-more more n high)
      ∙ ap (λ (m : ℕ). (n % 128 + 128) % 128 + 128 * m) rest ∙ omega arith
]

within-length : (more n : ℕ) → length (short_within more n) ≤ more + 1
within-length zero n = omega (arith, ap length (within-last n))
within-length (suc more) n = elim (cases_lt n 128) [
  | inl low ↦ omega (arith, ap length (within-one (suc more) n low))
  | inr high ↦ omega (arith, ap length (within-more more n high), within-length more (n / 128))
]

pub numbers-spelled : NumbersHaveShortSpellings
unfolding short_number
numbers-spelled n small =
    (within-spelling 3 n (fits-four n small), within-number 4 n (fits-four n small), within-length 4 n)

-- a byte before a tail
spelled-up : (more b : ℕ) (bytes : List ℕ) → 128 ≤ b → b < 256 → 0 < number_spelled bytes
    → bytes ≡ short_within more (number_spelled bytes)
    → b ∷ bytes ≡ short_within (suc more) (number_spelled (b ∷ bytes))
spelled-up more b bytes top byte some is =
    let m = number_spelled bytes in
    let first : b ≡ b % 128 + 128 = omega arith in
    let whole : m * 128 + b % 128 ≡ b % 128 + 128 * m = omega arith in
    ap₂ (λ (c : ℕ) (w : List ℕ). c ∷ w) first is ∙ sym (within-up more m (b % 128) some (omega arith))
    ∙ ap (short_within (suc more)) whole

tail-some : (bytes : List ℕ) → IsShortTail bytes → 0 < number_spelled bytes
tail-some [] tail = elim tail [ ]
tail-some (b ∷ []) tail = omega (arith, tail.0, tail.1)
tail-some (b ∷ c ∷ bytes) tail = omega (arith, tail-some (c ∷ bytes) tail.2)

tail-within : (more : ℕ) (bytes : List ℕ) → IsShortTail bytes → number_spelled bytes < 128 ^ suc more
    → bytes ≡ short_within more (number_spelled bytes)
tail-within more [] tail low = elim tail [ ]
tail-within more (b ∷ []) tail low =
    let one : b ≡ b % 128 + 128 * 0 = omega (arith, tail.1) in
    sym (within-one more b tail.1) ∙ ap (short_within more) one
tail-within zero (b ∷ c ∷ bytes) tail low = absurd (omega (arith, tail-some (c ∷ bytes) tail.2))
tail-within (suc more) (b ∷ c ∷ bytes) tail low =
    let bound = pow-suc 128 (suc more) in
    spelled-up more b (c ∷ bytes) tail.0 tail.1 (tail-some (c ∷ bytes) tail.2)
    (tail-within more (c ∷ bytes) tail.2 (omega (arith, bound)))

pub spellings-numbers : ShortSpellingsAreNumbers
unfolding short_number
spellings-numbers [] is small = elim is [ ]
spellings-numbers (b ∷ []) is small =
    let one : b ≡ b % 128 + 128 * 0 = omega (arith, is) in
    sym (within-one 4 b is) ∙ ap (short_within 4) one
spellings-numbers (b ∷ c ∷ bytes) is small =
    spelled-up 3 b (c ∷ bytes) is.0 is.1 (tail-some (c ∷ bytes) is.2)
    (tail-within 3 (c ∷ bytes) is.2 (omega arith))

pub numbers-one : BytesAreOneShortNumber
numbers-one m n x y small little same = short-free m n x y small little same
