-- What follows of numbers that name cells.
--
-- The key ideas: a number outside the ends of a set's indexes names none of its cells. And the cells of an unbroken
-- range of indexes that pass are added at once, where it ends: what was added is what passes below the start of the
-- range.
use Rattle.std.proofs.Common.{◌≡◌, ℕ, ◌+◌, ◌-◌, ◌<◌, ◌≤◌, Bool, true, false, ◌&&◌, ◌||◌, ◌==◌, nat_le, nat_lt}
use Rattle.std.proofs.Common.{List, [], ◌∷◌, refl, sym, ap, ◌∙◌, arith, inl, inr, Option, Some, None}
use Rattle.std.proofs.Common.{ltb-true, lt-ltb, le-leb, leb-true, eqb-true, eq-eqb, true≢false}
use Rattle.std.proofs.Common.{min, max, ap₂, pos}
use Rattle.std.proofs.Common.{if◌then◌else◌, ℤ, negsuc, of_z, w64, FitsSigned}
use Rattle.std.proofs.Math.Bool.{and-false}
use Rattle.std.specs.List.{list_any}
use Rattle.std.proofs.lemmas.Bool.{and_parts, and_from, cases_Bool, cases_lt, or_cases, or_left, or_right}
use Rattle.std.proofs.lemmas.Bool.{false_from_ne_true}
use Rattle.std.proofs.lemmas.Bool.Decides.{nat_tests}
use Rattle.sz_cells.specs.declared.Cell.{Cell}
use Rattle.sz_cells.specs.declared.Run.{Run}
use Rattle.sz_cells.specs.Extent.{Extent, size_of, index_of}
use Rattle.sz_cells.specs.Cells.{Cells, has, cells_where, with_those}
use Rattle.sz_cells.specs.Runs.{run_cells}
use Rattle.sz_cells.proofs.Sets.{same_truth, index-below, any-range}
use Rattle.sz_frame.proofs.Added.{with-none, with-ext, with-more}
use Rattle.sz_refresh.specs.Names.{is_at, has_named, LieWithin}

-- no index is found where there is none to find
pub none-found : (ks : List ℕ) → list_any (is_at None) ks ≡ false
none-found [] = refl
none-found (k ∷ ks) = none-found ks

-- ---- numbers

-- of numbers that are kept between two ends those alone stay that lie there
pub between-ends : (least last n : ℕ) → least ≤ last → (min (max n least) last == n) ≡ true
    → (least ≤ n) × (n ≤ last)
between-ends least last n order same =
    let at : min (max n least) last ≡ n = eqb-true (min (max n least) last) n same in
    (grind (arith, nat_tests, at, order), grind (arith, nat_tests, at, order))

pub ends-between : (least last n : ℕ) → (min (max n least) last == n) ≡ false → least ≤ n → n ≤ last → ⊥
ends-between least last n other low high =
    let at : min (max n least) last ≡ n = grind (arith, nat_tests, low, high) in
    absurd (true≢false (sym (eq-eqb (min (max n least) last) n at) ∙ other))

-- a number that is counted from a first one names the cell of its index
pub number-in : (first n : ℕ) (set : Cells) → first ≤ n → n - first < size_of set.extent
    → has_named first (Some (pos n)) set ≡ list_any (λ i. i == n - first) set.indexes
number-in first n set low few =
    let some : Option ℕ = Some (n - first) in
    let none : Option ℕ = None in
    ap (λ (o : Option ℕ). list_any (is_at o) set.indexes)
    (ap₂ (λ (a b : Bool). if a && b then some else none) (le-leb first n low)
    (lt-ltb (n - first) (size_of set.extent) few))

-- and one that lies outside the ends of a set's indexes names none of its cells
pub number-out : (first least last n : ℕ) (set : Cells) → LieWithin least last set
    → (first + least ≤ n → n ≤ first + last → ⊥) → has_named first (Some (pos n)) set ≡ false
number-out first least last n set within out =
    let some : Option ℕ = Some (n - first) in
    let none : Option ℕ = None in
    let pick : Bool → Option ℕ = λ b. if b then some else none in
    let test : Bool = nat_le first n && nat_lt (n - first) (size_of set.extent) in
    elim (cases_Bool test) [
      | inl there ↦
          ap (λ (b : Bool). list_any (is_at (pick b)) set.indexes) there
          ∙ false_from_ne_true (list_any (λ i. i == n - first) set.indexes)
          (λ h.
          let both = and_parts (nat_le first n) (nat_lt (n - first) (size_of set.extent)) there in
          let low : first ≤ n = leb-true first n both.0 in
          let ends = within (n - first) h in
          absurd (out (omega (arith, low, ends.0)) (omega (arith, low, ends.1))))
      | inr apart ↦
          ap (λ (b : Bool). list_any (is_at (pick b)) set.indexes) apart ∙ none-found set.indexes
    ]

-- a number below 0, told as one from 0 on, is above all indexes
number-false : (first n : ℕ) (set : Cells) → first + size_of set.extent ≤ n
    → has_named first (Some (pos n)) set ≡ false
number-false first n set high =
    let some : Option ℕ = Some (n - first) in
    let none : Option ℕ = None in
    let few : nat_lt (n - first) (size_of set.extent) ≡ false = grind (arith, nat_tests, high) in
    ap (λ (b : Bool). list_any (is_at (if nat_le first n && b then some else none)) set.indexes) few
    ∙ ap (λ (b : Bool). list_any (is_at (if b then some else none)) set.indexes) (and-false (nat_le first n))
    ∙ none-found set.indexes

pub number-unsigned : (first : ℕ) (z : ℤ) (set : Cells) → first ≤ 1 → size_of set.extent ≤ 1048576
    → FitsSigned w64 z → has_named first (Some (pos (of_z w64 z))) set ≡ has_named first (Some z) set
number-unsigned first (pos n) set low few fits = refl
number-unsigned first (negsuc n) set low few fits =
    number-false first (of_z w64 (negsuc n)) set (omega (arith, low, few, fits.sfits)) ∙ sym (none-found set.indexes)

-- ---- ranges of indexes

-- the index of a cell is in a range
abbrev pub is_between : ℕ → ℕ → Extent → Cell → Bool
is_between start end e o = nat_le start (index_of e o) && nat_lt (index_of e o) end

-- the index of a cell is below a number, and passes
abbrev pub is_below : (ℕ → Bool) → ℕ → Extent → Cell → Bool
is_below test n e o = nat_lt (index_of e o) n && test (index_of e o)

between-none : (start end i : ℕ) → end ≤ start → (nat_le start i && nat_lt i end) ≡ false
between-none start end i low =
    false_from_ne_true (nat_le start i && nat_lt i end)
    (λ h.
    let both = and_parts (nat_le start i) (nat_lt i end) h in
    let first : start ≤ i = grind (arith, nat_tests, both.0) in
    let last : i < end = ltb-true i end both.1 in
    absurd (omega (arith, first, last, low)))

pub between-run : (to : Cells) (start end : ℕ) → start < end
    → with_those to (has (run_cells to.extent (record { first = start; last = end - 1 })))
    ≡ with_those to (is_between start end to.extent)
between-run to start end some =
    let e : Extent = to.extent in
    let r : Run = record { first = start; last = end - 1 } in
    let last : start + ((end - 1) - start + 1) ≡ end = omega (arith, some) in
    with-ext to (has (run_cells e r)) (is_between start end e)
    (λ o held.
    ap (λ (b : Bool). b && list_any (λ k. k == index_of e o) (run_cells e r).indexes) held
    ∙ any-range (index_of e o) start ((end - 1) - start + 1)
    ∙ ap (λ (m : ℕ). nat_le start (index_of e o) && nat_lt (index_of e o) m) last)

pub between-empty : (to : Cells) (start end : ℕ) → end ≤ start → to ≡ cells_where to.extent (has to)
    → to ≡ with_those to (is_between start end to.extent)
between-empty to start end low own =
    with-none to (is_between start end to.extent) own
    (λ o held. between-none start end (index_of to.extent o) low)

-- ---- what was added

-- where nothing passes below a number, nothing was added
pub below-none : (to : Cells) (test : ℕ → Bool) (n : ℕ) → to ≡ cells_where to.extent (has to)
    → ((k : ℕ) → k < n → test k ≡ false) → to ≡ with_those to (is_below test n to.extent)
below-none to test n own fails =
    with-none to (is_below test n to.extent) own
    (λ o held.
    false_from_ne_true (nat_lt (index_of to.extent o) n && test (index_of to.extent o))
    (λ h.
    let both = and_parts (nat_lt (index_of to.extent o) n) (test (index_of to.extent o)) h in
    absurd (true≢false (sym both.1 ∙ fails (index_of to.extent o) (ltb-true (index_of to.extent o) n both.0)))))

joined : (test : ℕ → Bool) (start n i : ℕ) → start ≤ n → ((k : ℕ) → start ≤ k → k < n → test k ≡ true)
    → ((nat_lt i start && test i) || (nat_le start i && nat_lt i n)) ≡ (nat_lt i n && test i)
joined test start n i order pass =
    same_truth ((nat_lt i start && test i) || (nat_le start i && nat_lt i n)) (nat_lt i n && test i)
    (λ h.
    elim (or_cases (nat_lt i start && test i) (nat_le start i && nat_lt i n) h) [
      | inl before ↦
          let both = and_parts (nat_lt i start) (test i) before in
          let low : i < start = ltb-true i start both.0 in
          and_from (nat_lt i n) (test i) (lt-ltb i n (omega (arith, low, order))) both.1
      | inr within ↦
          let both = and_parts (nat_le start i) (nat_lt i n) within in
          let first : start ≤ i = grind (arith, nat_tests, both.0) in
          and_from (nat_lt i n) (test i) both.1 (pass i first (ltb-true i n both.1))
    ])
    (λ h.
    let both = and_parts (nat_lt i n) (test i) h in
    elim (cases_Bool (nat_lt i start)) [
      | inl low ↦
          or_left (nat_lt i start && test i) (nat_le start i && nat_lt i n)
          (and_from (nat_lt i start) (test i) low both.1)
      | inr high ↦
          let first : nat_le start i ≡ true = grind (arith, nat_tests, high) in
          or_right (nat_lt i start && test i) (nat_le start i && nat_lt i n)
          (and_from (nat_le start i) (nat_lt i n) first both.0)
    ])

-- a range of indexes that pass more
pub below-more : (to so_far new : Cells) (test : ℕ → Bool) (start n : ℕ) → start ≤ n
    → ((k : ℕ) → start ≤ k → k < n → test k ≡ true)
    → so_far ≡ with_those to (is_below test start to.extent)
    → new ≡ with_those so_far (is_between start n so_far.extent)
    → new ≡ with_those to (is_below test n to.extent)
below-more to so_far new test start n order pass is more =
    more
    ∙ ap (λ (z : Cells). with_those z (is_between start n z.extent)) is
    ∙ with-more to (is_below test start to.extent) (is_between start n to.extent) (is_below test n to.extent)
    (λ o held. joined test start n (index_of to.extent o) order pass)

skipped : (test : ℕ → Bool) (n i : ℕ) → test n ≡ false → (nat_lt i n && test i) ≡ (nat_lt i (n + 1) && test i)
skipped test n i fails =
    same_truth (nat_lt i n && test i) (nat_lt i (n + 1) && test i)
    (λ h.
    let both = and_parts (nat_lt i n) (test i) h in
    let low : i < n = ltb-true i n both.0 in
    and_from (nat_lt i (n + 1)) (test i) (lt-ltb i (n + 1) (omega (arith, low))) both.1)
    (λ h.
    let both = and_parts (nat_lt i (n + 1)) (test i) h in
    let low : i < n + 1 = ltb-true i (n + 1) both.0 in
    let apart : i ≡ n → ⊥ = λ same. true≢false (sym both.1 ∙ ap test same ∙ fails) in
    and_from (nat_lt i n) (test i) (lt-ltb i n (omega (arith, low, apart))) both.1)

-- an index that fails
pub below-skip : (to so_far : Cells) (test : ℕ → Bool) (n : ℕ) → test n ≡ false
    → so_far ≡ with_those to (is_below test n to.extent) → so_far ≡ with_those to (is_below test (n + 1) to.extent)
below-skip to so_far test n fails is =
    is
    ∙ with-ext to (is_below test n to.extent) (is_below test (n + 1) to.extent)
    (λ o held. skipped test n (index_of to.extent o) fails)

-- all indexes
pub below-all : (to : Cells) (test : ℕ → Bool) (n : ℕ) → n ≡ size_of to.extent
    → with_those to (is_below test n to.extent) ≡ with_those to (λ o. test (index_of to.extent o))
below-all to test n all =
    with-ext to (is_below test n to.extent) (λ o. test (index_of to.extent o))
    (λ o held.
    ap (λ (b : Bool). b && test (index_of to.extent o))
    (lt-ltb (index_of to.extent o) n (omega (arith, index-below to.extent o held, all))))

-- where no index passes from a number on
pub below-rest : (to : Cells) (test : ℕ → Bool) (n : ℕ)
    → ((k : ℕ) → n ≤ k → k < size_of to.extent → test k ≡ false)
    → with_those to (is_below test n to.extent) ≡ with_those to (λ o. test (index_of to.extent o))
below-rest to test n fails =
    with-ext to (is_below test n to.extent) (λ o. test (index_of to.extent o))
    (λ o held.
    let i : ℕ = index_of to.extent o in
    elim (cases_lt i n) [
      | inl low ↦ ap (λ (b : Bool). b && test i) (lt-ltb i n low)
      | inr high ↦
          let none : test i ≡ false = fails i high (index-below to.extent o held) in
          ap (λ (b : Bool). nat_lt i n && b) none ∙ and-false (nat_lt i n) ∙ sym none
    ])

-- one index more that is told as those before it
pub one-more : (test : ℕ → Bool) (told : Bool) (start n : ℕ) → ((k : ℕ) → start ≤ k → k < n → test k ≡ told)
    → test n ≡ told → (k : ℕ) → start ≤ k → k < n + 1 → test k ≡ told
one-more test told start n before here k low high =
    elim (cases_Bool (k == n)) [
      | inl same ↦ ap test (eqb-true k n same) ∙ here
      | inr other ↦
          let apart : k ≡ n → ⊥ = λ same. true≢false (sym (eq-eqb k n same) ∙ other) in
          before k low (omega (arith, high, apart))
    ]
