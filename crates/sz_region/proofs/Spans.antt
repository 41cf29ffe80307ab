-- Reading things one after another.
--
-- The key idea: where no word of a kind begins another, what bytes begin with can be said in one way only. So what was
-- read so far is how any list of such things begins, and where the next one is not there, no list goes on.
use Rattle.std.proofs.Common.{◌≡◌, ℕ, suc, ◌+◌, ◌^◌, ◌<◌, ◌≤◌, List, [], ◌∷◌, ◌++◌, length, drop, get_or, refl}
use Rattle.std.proofs.Common.{true}
use Rattle.std.proofs.Common.{sym, ap, ap₂, subst, ◌∙◌, arith, append_assoc, length-append, length-drop, drop-cons}
use Rattle.std.specs.List.{All, flat_map}
use Rattle.std.specs.Int.{w32, from_be_bytes}
use Rattle.std.proofs.Math.Seq.{drop-drop, drop-append_seam}
use Rattle.std.proofs.lemmas.Nat.{from_be_bytes-to_be_bytes_4}
use Rattle.std.proofs.lemmas.List.{append-nil}
use Rattle.std.proofs.lemmas.List.Concat.{flat_map-append}
use Rattle.std.proofs.lemmas.List.Elements.{All-head, All-tail, All-get_or}
use Rattle.std.proofs.lemmas.Option.{unwrap_or-slice_get}
use Rattle.sz_cells.specs.Extent.{Extent, is_extent}
use Rattle.sz_cells.specs.Cells.{Cells}
use Rattle.sz_cells.specs.SetBytes.{four_bytes, set_bytes, BeginsSet, IsSetOf}
use Rattle.sz_cells.proofs.LawsOfSets.{split-same, bytes-one}
use Rattle.sz_spec.specs.Values.{extent_at, no_extent}
use Rattle.sz_region.specs.declared.set_bytes.Take.{Take}
use Rattle.sz_region.specs.declared.set_bytes.Take.TheVariants.{Bad, NoMemory}
use Rattle.sz_region.specs.Counted.{counted, IsAt}
use Rattle.sz_region.specs.FullBytes.{Listed, IsListed, listed_bytes}
use Rattle.sz_region.specs.Taking.{NoneBegins, SaysNoneBegins}
use Rattle.sz_region.specs.Stores.{OnBad, NoneAt, AreFew}

-- ---- where bytes stand

pub at-nothing : (bytes : List ℕ) (at : ℕ) → at ≤ length bytes → IsAt bytes at at []
at-nothing bytes at inside = record { spelled = refl; within = inside }

pub at-both : (bytes : List ℕ) (a b c : ℕ) (u v : List ℕ) → IsAt bytes a b u → IsAt bytes b c v
    → IsAt bytes a c (u ++ v)
at-both bytes a b c u v first second = record {
  spelled = first.spelled ∙ ap (λ (xs : List ℕ). u ++ xs) second.spelled ∙ sym (append_assoc u v (drop c bytes));
  within = second.within;
}

-- one more of some things
pub at-more : {X : Type 0} (word : X → List ℕ) (bytes : List ℕ) (a b c : ℕ) (xs : List X) (x : X)
    → IsAt bytes a b (flat_map word xs) → IsAt bytes b c (word x) → IsAt bytes a c (flat_map word (xs ++ x ∷ []))
at-more word bytes a b c xs x first second =
    subst (IsAt bytes a c) (ap (λ (ys : List ℕ). flat_map word xs ++ ys) (sym (append-nil (word x)))
    ∙ sym (flat_map-append word xs (x ∷ []))) (at-both bytes a b c (flat_map word xs) (word x) first second)

-- a byte at its place
pub at-byte : (bytes : List ℕ) (at : ℕ) → at < length bytes → IsAt bytes at (at + 1) (get_or bytes at 0 ∷ [])
at-byte bytes at inside =
    let one : suc at ≡ at + 1 = omega arith in
    record {
      spelled = drop-cons bytes at 0 inside ∙ ap (λ (n : ℕ). get_or bytes at 0 ∷ drop n bytes) one;
      within = omega arith;
    }

-- a set that begins and ends within the bytes
pub at-set : (e : Extent) (bytes : List ℕ) (at next : ℕ) (set : Cells) → BeginsSet e bytes at next set
    → next ≤ length bytes → IsAt bytes at next (set_bytes set)
at-set e bytes at next set begins inside = record {
  spelled = begins.spelled ∙ ap (λ (xs : List ℕ). set_bytes set ++ xs) (sym begins.ends);
  within = inside;
}

-- ---- things whose words do not begin one another

-- a number of four bytes is known by them, whatever follows
four-same : (m n : ℕ) (x y : List ℕ) → m < 2 ^ 32 → n < 2 ^ 32 → four_bytes m ++ x ≡ four_bytes n ++ y
    → (m ≡ n) × (x ≡ y)
four-same m n x y small little same =
    let parts = split-same (four_bytes m) (four_bytes n) x y refl same in (
      sym (from_be_bytes-to_be_bytes_4 m small) ∙ ap (from_be_bytes w32) parts.0
          ∙ from_be_bytes-to_be_bytes_4 n little,
      parts.1,
    )

-- a word of a kind is known from what begins with it, and so is what follows it
abbrev pub IsPrefixFree : {X : Type 0} → (X → Type 0) → (X → List ℕ) → Type 0
IsPrefixFree {X} IsOne word =
    (x y : X) (a b : List ℕ) → IsOne x → IsOne y → word x ++ a ≡ word y ++ b → (x ≡ y) × (a ≡ b)

-- the first of some things, and the rest
abbrev pub GoesOn : {X : Type 0} → (X → Type 0) → (X → List ℕ) → List X → List X → List ℕ → List ℕ → Type 0
GoesOn {X} IsOne word xs ys a b = (zs : List X) × (ys ≡ xs ++ zs) × All IsOne zs × (a ≡ flat_map word zs ++ b)

pub goes-on : {X : Type 0} (IsOne : X → Type 0) (word : X → List ℕ) (free : IsPrefixFree IsOne word) (xs ys : List X)
    (a b : List ℕ) → All IsOne xs → All IsOne ys → length xs ≤ length ys
    → flat_map word xs ++ a ≡ flat_map word ys ++ b → GoesOn IsOne word xs ys a b
goes-on IsOne word free [] ys a b each all few same = (ys, refl, all, same)
goes-on IsOne word free (x ∷ xs) [] a b each all few same = absurd (omega arith)
goes-on {X} IsOne word free (x ∷ xs) (y ∷ ys) a b each all few same =
    let one = free x y (flat_map word xs ++ a) (flat_map word ys ++ b) (All-head IsOne x xs each)
    (All-head IsOne y ys all)
    (sym (append_assoc (word x) (flat_map word xs) a) ∙ same ∙ append_assoc (word y) (flat_map word ys) b) in
    let rest = goes-on IsOne word free xs ys a b (All-tail IsOne x xs each) (All-tail IsOne y ys all) (omega arith)
    one.1 in
    (rest.0, ap₂ (λ (z : X) (zs : List X). z ∷ zs) (sym one.0) rest.1, rest.2, rest.3)

pub same-things : {X : Type 0} (IsOne : X → Type 0) (word : X → List ℕ) (free : IsPrefixFree IsOne word)
    (xs ys : List X)
    (a b : List ℕ) → All IsOne xs → All IsOne ys → length xs ≡ length ys
    → flat_map word xs ++ a ≡ flat_map word ys ++ b → (xs ≡ ys) × (a ≡ b)
same-things IsOne word free [] [] a b each all few same = (refl, same)
same-things IsOne word free [] (y ∷ ys) a b each all few same = absurd (omega arith)
same-things IsOne word free (x ∷ xs) [] a b each all few same = absurd (omega arith)
same-things {X} IsOne word free (x ∷ xs) (y ∷ ys) a b each all few same =
    let one = free x y (flat_map word xs ++ a) (flat_map word ys ++ b) (All-head IsOne x xs each)
    (All-head IsOne y ys all)
    (sym (append_assoc (word x) (flat_map word xs) a) ∙ same ∙ append_assoc (word y) (flat_map word ys) b) in
    let rest = same-things IsOne word free xs ys a b (All-tail IsOne x xs each) (All-tail IsOne y ys all) (omega arith)
    one.1 in
    (ap₂ (λ (z : X) (zs : List X). z ∷ zs) one.0 rest.0, rest.1)

-- a table of things whose words do not begin one another is one too
pub counted-free : {X : Type 0} (IsOne : X → Type 0) (word : X → List ℕ) (free : IsPrefixFree IsOne word)
    → IsPrefixFree (AreFew IsOne) (counted word)
counted-free IsOne word free xs ys a b each all same =
    let count = four-same (length xs) (length ys) (flat_map word xs ++ a) (flat_map word ys ++ b) each.1 all.1 same in
    same-things IsOne word free xs ys a b each.0 all.0 count.0 count.1

-- numbers of four bytes
abbrev pub IsSmall : ℕ → Type 0
IsSmall n = n < 2 ^ 32

pub number-free : IsPrefixFree IsSmall four_bytes
number-free m n a b small little same = four-same m n a b small little same

-- ---- where none begins

pub on_bad-weaker : {P Q : Type 0} (e : Take) → (P → Q) → OnBad e P → OnBad e Q
on_bad-weaker (Bad place) so is = so is
on_bad-weaker NoMemory so is = tt

pub on_bad-memory : (P : Type 0) (e : Take) → e ≡ NoMemory → OnBad e P
on_bad-memory P (Bad place) is = cc
on_bad-memory P NoMemory is = tt

-- there are no four bytes
pub no-number : (bytes : List ℕ) (at n : ℕ) (rest : List ℕ) → length bytes < at + 4 → drop at bytes
    ≡ four_bytes n ++ rest → ⊥
no-number bytes at n rest short is = omega (arith, ap length is, length-drop at bytes)

-- a number that was read is the one that the bytes begin with
pub number-read : (bytes : List ℕ) (at m n : ℕ) (rest : List ℕ) → IsAt bytes at (at + 4) (four_bytes m) → IsSmall m
    → IsSmall n → drop at bytes ≡ four_bytes n ++ rest → (m ≡ n) × (drop (at + 4) bytes ≡ rest)
number-read bytes at m n rest read small little is =
    four-same m n (drop (at + 4) bytes) rest small little (sym read.spelled ∙ is)

-- where the next thing is not there, no list of so many begins
pub no-list : {X : Type 0} (IsOne : X → Type 0) (word : X → List ℕ) (free : IsPrefixFree IsOne word) (bytes : List ℕ)
    (at place : ℕ) (xs ys : List X) (rest : List ℕ) → All IsOne xs → IsAt bytes at place (flat_map word xs)
    → NoneAt IsOne word bytes place → All IsOne ys → length xs < length ys
    → drop at bytes ≡ flat_map word ys ++ rest → ⊥
no-list {X} IsOne word free bytes at place xs ys rest each read none all few is =
    let on = goes-on IsOne word free xs ys (drop place bytes) rest each all (omega arith) (sym read.spelled ∙ is) in
    let next : (zs : List X) → ys ≡ xs ++ zs → All IsOne zs → drop place bytes ≡ flat_map word zs ++ rest → ⊥ = elim [
      | [] ↦ λ same good spelled. omega (arith, ap length same, length-append xs [])
      | z ∷ zs ↦ λ same good spelled.
          none z (flat_map word zs ++ rest) (All-head IsOne z zs good)
          (spelled ∙ append_assoc (word z) (flat_map word zs) rest)
    ] in
    next on.0 on.1 on.2 on.3

-- nor does a table of as many as its number says
pub no-table : {X : Type 0} (IsOne : X → Type 0) (word : X → List ℕ) (free : IsPrefixFree IsOne word) (bytes : List ℕ)
    (at count place : ℕ) (xs : List X) → IsAt bytes at (at + 4) (four_bytes count) → IsSmall count → All IsOne xs
    → IsAt bytes (at + 4) place (flat_map word xs) → NoneAt IsOne word bytes place → length xs < count
    → NoneAt (AreFew IsOne) (counted word) bytes at
no-table IsOne word free bytes at count place xs number small each read none few ys rest all is =
    let count_is = number-read bytes at count (length ys) (flat_map word ys ++ rest) number small all.1 is in
    no-list IsOne word free bytes (at + 4) place xs ys rest each read none all.0 (omega arith) count_is.1

-- two parts, of which the first is not there
pub no-first : {X : Type 0} (IsOne : X → Type 0) (word : X → List ℕ) (bytes : List ℕ) (at : ℕ)
    → NoneAt IsOne word bytes at → (x : X) (tail rest : List ℕ) → IsOne x → drop at bytes ≡ word x ++ tail ++ rest → ⊥
no-first IsOne word bytes at none x tail rest is spelled =
    none x (tail ++ rest) is (spelled ∙ append_assoc (word x) tail rest)

-- a part that was read is the one that the bytes begin with
pub first-read : {X : Type 0} (IsOne : X → Type 0) (word : X → List ℕ) (free : IsPrefixFree IsOne word) (bytes : List ℕ)
    (at place : ℕ) (x y : X) (tail rest : List ℕ) → IsOne x → IsAt bytes at place (word x) → IsOne y
    → drop at bytes ≡ word y ++ tail ++ rest → (x ≡ y) × (drop place bytes ≡ tail ++ rest)
first-read IsOne word free bytes at place x y tail rest is read other spelled =
    free x y (drop place bytes) (tail ++ rest) is other
    (sym read.spelled ∙ spelled ∙ append_assoc (word y) tail rest)

-- ---- a set with its array

-- where no set of the array's shape begins behind its byte, no set with its array begins
pub no-listed : (out : Extent) (ins : List Extent) (e : Extent) (array : ℕ) (bytes : List ℕ) (at : ℕ)
    → IsAt bytes at (at + 1) (array ∷ []) → e ≡ extent_at (out ∷ ins) array → NoneBegins e bytes (at + 1)
    → NoneAt (IsListed out ins) listed_bytes bytes at
no-listed out ins e array bytes at byte shape none l rest is spelled =
    let split = split-same (array ∷ []) (l.array ∷ []) (drop (at + 1) bytes) (set_bytes l.set ++ rest) refl
    (sym byte.spelled ∙ spelled) in
    let same : array ≡ l.array = ap (λ (xs : List ℕ). get_or xs 0 0) split.0 in
    let next = at + 1 + length (set_bytes l.set) in
    none next l.set (record {
      is_set = subst (λ (x : Extent). IsSetOf x l.set) (ap (extent_at (out ∷ ins)) (sym same) ∙ sym shape) is.set;
      rest = rest;
      spelled = split.1;
      ends = sym (drop-drop (length (set_bytes l.set)) (at + 1) bytes)
          ∙ ap (drop (length (set_bytes l.set))) split.1 ∙ drop-append_seam (set_bytes l.set) rest;
    })

-- what reading a set says, without the place
pub on_bad-set : (e : Extent) (bytes : List ℕ) (at : ℕ) (fault : Take) → SaysNoneBegins e bytes at fault
    → OnBad fault (NoneBegins e bytes at)
on_bad-set e bytes at (Bad place) says = says.1
on_bad-set e bytes at NoMemory says = tt

-- sets with their arrays do not begin one another
pub listed-free : (out : Extent) (ins : List Extent) → All (λ e. is_extent e ≡ true) (out ∷ ins)
    → IsPrefixFree (IsListed out ins) listed_bytes
listed-free out ins right x y a b one other same =
    let split = split-same (x.array ∷ []) (y.array ∷ []) (set_bytes x.set ++ a) (set_bytes y.set ++ b) refl same in
    let array : x.array ≡ y.array = ap (λ (xs : List ℕ). get_or xs 0 0) split.0 in
    let e = extent_at (out ∷ ins) x.array in
    let within : is_extent e ≡ true =
    subst (λ (s : Extent). is_extent s ≡ true) (sym (unwrap_or-slice_get (out ∷ ins) x.array no_extent))
    (All-get_or (λ s. is_extent s ≡ true) (out ∷ ins) x.array no_extent (omega (arith, one.array)) right) in
    let sets = bytes-one e x.set y.set a b within one.set
    (subst (λ (k : ℕ). IsSetOf (extent_at (out ∷ ins) k) y.set) (sym array) other.set) split.1 in
    let make : ℕ → Cells → Listed = λ n s. record { array = n; set = s } in
    (ap₂ make array sets.0, sets.1)
