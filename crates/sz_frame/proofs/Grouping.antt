-- What follows of cells that are kept together.
--
-- The key idea: being kept together goes both ways and onward, so of the cells of a kind exactly the first leads, and
-- its group is the only one that each of them is in. What is looked for among the leaders at a cell is then looked for
-- at the one that leads it, and what is the same for all of a kind is found at the cell itself.
use Rattle.std.proofs.Common.{inl, inr, true≢false, ◌≡◌, ℕ, zero, suc, ◌+◌, ◌-◌, ◌<◌, ◌≤◌, ◌==◌, Bool}
use Rattle.std.proofs.Common.{true, false, not, ◌&&◌, ◌||◌, nat_le, List, [], ◌∷◌, length, map, take, get_or}
use Rattle.std.proofs.Common.{◌++◌, refl, sym, ap, ap₂, subst, ◌∙◌, arith, eqb-true, eq-eqb, le-leb, lt-ltb, ltb-true}
use Rattle.std.specs.Prelude.{◌⊎◌, nat_lt}
use Rattle.std.specs.List.{All, filter, flat_map, list_any, range_with_len}
use Rattle.std.proofs.Math.Bool.{or-true, or-false}
use Rattle.std.proofs.lemmas.Bool.{cases_Bool, and_parts, and_from, or_cases, leb-true, false_from_ne_true}
use Rattle.std.proofs.lemmas.Bool.Decides.{nat_tests}
use Rattle.std.proofs.lemmas.List.{get_or-take, length-take}
use Rattle.std.proofs.lemmas.List.Folds.{list_any_at}
use Rattle.std.proofs.lemmas.List.FromFn.{get_or-map-range_with_len, length-map-range_with_len}
use Rattle.std.proofs.lemmas.List.FromFn.{map-range_with_len_more}
use Rattle.sz_cells.specs.declared.Cell.{Cell}
use Rattle.sz_cells.specs.declared.Run.{Run}
use Rattle.sz_cells.specs.Extent.{Extent, size_of, index_of, cell_of}
use Rattle.sz_cells.specs.Cells.{Cells}
use Rattle.sz_cells.specs.Runs.{AreRunsFrom, covers, indexes_of, is_in}
use Rattle.sz_cells.proofs.Rising.{filter-false}
use Rattle.sz_cells.proofs.Runs.{in-one, runs-filter}
use Rattle.sz_cells.proofs.Sets.{filter-range_ext, index-cell, same_truth}
use Rattle.sz_frame.specs.declared.groups.Keeping.{Keeping}
use Rattle.sz_frame.specs.declared.groups.Keeping.TheVariants.{Nothing, Alone, Kind}
use Rattle.sz_frame.specs.Groups.{is_kind, are_together, is_first, keeping_at, leads, is_with, group_at}
use Rattle.sz_frame.specs.Written.{keepings, leaders_below}
use Rattle.sz_frame.proofs.Added.{any-filter}

-- ---- filtered ranges

-- a number that is found in a filtered range is of the range and passes both tests
pub later-passes : (p q : ℕ → Bool) (a n : ℕ) → list_any q (filter p (range_with_len a n)) ≡ true
    → (r : ℕ) × (a ≤ r) × (r < a + n) × (p r ≡ true) × (q r ≡ true)
later-passes p q a zero met = absurd (true≢false (sym met))
later-passes p q a (suc n) met =
    let later : list_any q (filter p (range_with_len (a + 1) n)) ≡ true
    → (r : ℕ) × (a ≤ r) × (r < a + suc n) × (p r ≡ true) × (q r ≡ true) = λ found.
    let one = later-passes p q (a + 1) n found in
    (one.0, omega (arith, one.1), omega (arith, one.2), one.3, one.4) in
    elim (cases_Bool (p a)) [
      | inl passes ↦
          elim (or_cases (q a) (list_any q (filter p (range_with_len (a + 1) n))) (rw passes at met)) [
            | inl here ↦ (a, omega arith, omega arith, passes, here)
            | inr rest ↦ later rest
          ]
      | inr fails ↦ later (rw fails at met)
    ]

above : (a r : ℕ) → a ≤ r → (a == r) ≡ false → a + 1 ≤ r
above a r low other =
    let high : nat_lt a r ≡ true = grind (arith, nat_tests) in omega (arith, ltb-true a r high)

passes-range : (t : ℕ → Bool) (r a n : ℕ) → a ≤ r → r < a + n → t r ≡ true → list_any t (range_with_len a n) ≡ true
passes-range t r a zero low high passes = absurd (omega arith)
passes-range t r a (suc n) low high passes =
    elim (cases_Bool (a == r)) [
      | inl same ↦ rw (ap t (eqb-true a r same) ∙ passes) refl
      | inr other ↦
          let apart : a + 1 ≤ r = above a r low other in
          rw (passes-range t r (a + 1) n apart (omega arith) passes) (or-true (t a))
    ]

-- a number of the range that passes both is found
passes-from : (p q : ℕ → Bool) (r n : ℕ) → r < n → p r ≡ true → q r ≡ true
    → list_any q (filter p (range_with_len 0 n)) ≡ true
passes-from p q r n below first second =
    any-filter p q (range_with_len 0 n)
    ∙ passes-range (λ j. p j && q j) r 0 n (omega arith) (omega arith) (and_from (p r) (q r) first second)

-- ---- how cells are kept

-- the cell is kept
abbrev pub is_kept : Keeping → Bool
is_kept Nothing = false
is_kept Alone = true
is_kept (Kind n) = true

together-kept : (a b : Keeping) → are_together a b ≡ true → is_kept b ≡ true
together-kept Nothing b h = absurd (true≢false (sym h))
together-kept Alone b h = absurd (true≢false (sym h))
together-kept (Kind n) Nothing h = absurd (true≢false (sym h))
together-kept (Kind n) Alone h = absurd (true≢false (sym h))
together-kept (Kind n) (Kind m) h = refl

together-flip : (a b : Keeping) → are_together a b ≡ true → are_together b a ≡ true
together-flip Nothing b h = absurd (true≢false (sym h))
together-flip Alone b h = absurd (true≢false (sym h))
together-flip (Kind n) Nothing h = absurd (true≢false (sym h))
together-flip (Kind n) Alone h = absurd (true≢false (sym h))
together-flip (Kind n) (Kind m) h = eq-eqb n m (sym (eqb-true m n h))

together-onward : (a b c : Keeping) → are_together a b ≡ true → are_together b c ≡ true → are_together a c ≡ true
together-onward Nothing b c h k = absurd (true≢false (sym h))
together-onward Alone b c h k = absurd (true≢false (sym h))
together-onward (Kind n) Nothing c h k = absurd (true≢false (sym h))
together-onward (Kind n) Alone c h k = absurd (true≢false (sym h))
together-onward (Kind n) (Kind m) Nothing h k = absurd (true≢false (sym k))
together-onward (Kind n) (Kind m) Alone h k = absurd (true≢false (sym k))
together-onward (Kind n) (Kind m) (Kind l) h k = eq-eqb l n (eqb-true l m k ∙ eqb-true m n h)

-- a cell that is kept has a place
kept-within : (kept : List Keeping) (p : ℕ) → is_kept (keeping_at kept p) ≡ true → p < length kept
kept-within [] p h = absurd (true≢false (sym h))
kept-within (a ∷ kept) zero h = omega arith
kept-within (a ∷ kept) (suc p) h = omega (arith, kept-within kept p h)

-- ---- who leads

lead-kept : (a : Keeping) (before : List Keeping) → is_first a before ≡ true → is_kept a ≡ true
lead-kept Nothing before h = h
lead-kept Alone before h = refl
lead-kept (Kind n) before h = refl

-- no cell before the first one is kept with it
lead-first : (a : Keeping) (before : List Keeping) (r : ℕ) → is_first a before ≡ true → r < length before
    → are_together a (get_or before r Nothing) ≡ true → ⊥
lead-first Nothing before r h below with = true≢false (sym h)
lead-first Alone before r h below with = true≢false (sym with)
lead-first (Kind n) before r h below with =
    true≢false (sym h ∙ ap not (list_any_at (is_kind n) before r Nothing below with))

none-any : (f : Keeping → Bool) (xs : List Keeping) → ((r : ℕ) → r < length xs → f (get_or xs r Nothing) ≡ false)
    → list_any f xs ≡ false
none-any f [] none = refl
none-any f (x ∷ xs) none = rw (none 0 (omega arith)) (none-any f xs (λ r below. none (suc r) (omega arith)))

first-from : (a : Keeping) (before : List Keeping) → is_kept a ≡ true
    → ((r : ℕ) → r < length before → are_together a (get_or before r Nothing) ≡ false) → is_first a before ≡ true
first-from Nothing before h none = h
first-from Alone before h none = refl
first-from (Kind n) before h none = ap not (none-any (is_kind n) before none)

pub leads-kept : (kept : List Keeping) (p : ℕ) → leads kept p ≡ true → is_kept (keeping_at kept p) ≡ true
leads-kept kept p h = lead-kept (keeping_at kept p) (take p kept) h

pub leads-first : (kept : List Keeping) (p r : ℕ) → leads kept p ≡ true → p < length kept → r < p
    → are_together (keeping_at kept p) (keeping_at kept r) ≡ true → ⊥
leads-first kept p r h inside low with =
    lead-first (keeping_at kept p) (take p kept) r h (omega (arith, length-take p kept))
    (ap (are_together (keeping_at kept p)) (get_or-take p kept r Nothing low) ∙ with)

leads-from : (kept : List Keeping) (p : ℕ) → is_kept (keeping_at kept p) ≡ true
    → ((r : ℕ) → r < p → are_together (keeping_at kept p) (keeping_at kept r) ≡ false) → leads kept p ≡ true
leads-from kept p h none =
    first-from (keeping_at kept p) (take p kept) h
    (λ r below. let low : r < p = omega (arith, length-take p kept) in
    ap (are_together (keeping_at kept p)) (get_or-take p kept r Nothing low) ∙ none r low)

-- ---- the least number that passes

record Least (t : ℕ → Bool) (most : ℕ) : Type 0 where
  number : ℕ
  within : number ≤ most
  passes : t number ≡ true
  none : (r : ℕ) → r < number → t r ≡ false

least-from : (t : ℕ → Bool) (m a : ℕ) → t (a + m) ≡ true → ((r : ℕ) → r < a → t r ≡ false) → Least t (a + m)
least-from t zero a h none =
    let same : a + 0 ≡ a = omega arith in
    record { number = a; within = omega arith; passes = ap t (sym same) ∙ h; none = none }
least-from t (suc m) a h none =
    elim (cases_Bool (t a)) [
      | inl here ↦ record { number = a; within = omega arith; passes = here; none = none }
      | inr away ↦
          let same : a + suc m ≡ (a + 1) + m = omega arith in
          let rest = least-from t m (a + 1) (ap t (sym same) ∙ h)
          (λ r low. elim (cases_Bool (r == a)) [
            | inl is ↦ ap t (eqb-true r a is) ∙ away
            | inr other ↦ none r (grind (arith, nat_tests))
          ]) in
          record {
            number = rest.number;
            within = omega (arith, rest.within);
            passes = rest.passes;
            none = rest.none;
          }
    ]

least : (t : ℕ → Bool) (n : ℕ) → t n ≡ true → Least t n
least t n h =
    let same : 0 + n ≡ n = omega arith in
    subst (Least t) same (least-from t n 0 (ap t same ∙ h) (λ r low. absurd (omega arith)))

-- ---- which cells are in a group

-- a cell of a group is that at the place, or is kept with it
with-cases : (start : ℕ) (kept : List Keeping) (p k : ℕ) → is_with start kept p k ≡ true
    → (start + p ≡ k) ⊎ ((start ≤ k) × (are_together (keeping_at kept p) (keeping_at kept (k - start)) ≡ true))
with-cases start kept p k h =
    elim (or_cases (start + p == k)
    (nat_le start k && are_together (keeping_at kept p) (keeping_at kept (k - start))) h) [
      | inl same ↦ inl (eqb-true (start + p) k same)
      | inr other ↦
          let both =
          and_parts (nat_le start k) (are_together (keeping_at kept p) (keeping_at kept (k - start))) other in
          inr (leb-true start k both.0, both.1)
    ]

-- it is one of the piece
pub with-inside : (start : ℕ) (kept : List Keeping) (p k : ℕ) → p < length kept → is_with start kept p k ≡ true
    → (start ≤ k) × (k < start + length kept)
with-inside start kept p k inside h =
    elim (with-cases start kept p k h) [
      | inl same ↦ (omega arith, omega arith)
      | inr other ↦
          let there = kept-within kept (k - start) (together-kept (keeping_at kept p) (keeping_at kept (k - start))
          other.1) in
          (other.0, omega (arith, there, other.0))
    ]

-- the cells at two places of a piece
pub with-place : (start : ℕ) (kept : List Keeping) (p q : ℕ)
    → is_with start kept p (start + q) ≡ ((p == q) || are_together (keeping_at kept p) (keeping_at kept q))
with-place start kept p q =
    let same : (start + p == start + q) ≡ (p == q) = grind (arith, nat_tests) in
    let from : nat_le start (start + q) ≡ true = le-leb start (start + q) (omega arith) in
    let back : start + q - start ≡ q = omega arith in
    rw (same, from, back) refl

-- no cell is in the groups of two that lead
pub leaders-apart : (start : ℕ) (kept : List Keeping) (p r k : ℕ) → p < r → r < length kept → leads kept r ≡ true
    → is_with start kept p k ≡ true → is_with start kept r k ≡ true → ⊥
leaders-apart start kept p r k low inside h first second =
    let at = keeping_at kept in
    elim (with-cases start kept p k first) [
      | inl same ↦
          elim (with-cases start kept r k second) [
            | inl also ↦ absurd (omega arith)
            | inr other ↦
                let back : k - start ≡ p = omega arith in
                leads-first kept r p h inside low (ap (λ (i : ℕ). are_together (at r) (at i)) (sym back) ∙ other.1)
          ]
      | inr one ↦
          elim (with-cases start kept r k second) [
            | inl also ↦
                let back : k - start ≡ r = omega arith in
                leads-first kept r p h inside low
                (together-flip (at p) (at r) (ap (λ (i : ℕ). are_together (at p) (at i)) (sym back) ∙ one.1))
            | inr other ↦
                leads-first kept r p h inside low
                (together-onward (at r) (at (k - start)) (at p) other.1 (together-flip (at p) (at (k - start)) one.1))
          ]
    ]

-- ---- the runs of a group

-- of the cells of a group those before a place: the first one, and those behind it
abbrev pub with_below : ℕ → List Keeping → ℕ → ℕ → ℕ → Bool
with_below start kept p next k = (start + p == k)
    || (nat_lt (start + p) k && (nat_lt k (start + next)
    && are_together (keeping_at kept p) (keeping_at kept (k - start))))

and-no : (b : Bool) → (b && false) ≡ false
and-no true = refl
and-no false = refl

-- numbers behind i and below j that pass, with one more
below-add : (i j k : ℕ) (t : ℕ → Bool) → i < j → t j ≡ true
    → (((i == k) || (nat_lt i k && (nat_lt k j && t k))) || (nat_le j k && nat_le k j))
    ≡ ((i == k) || (nat_lt i k && (nat_lt k (j + 1) && t k)))
below-add i j k t order passes =
    elim (cases_Bool (k == j)) [
      | inl same ↦
          let is = eqb-true k j same in
          let goal : ℕ → Type 0 = λ n. (((i == n) || (nat_lt i n && (nat_lt n j && t n))) || (nat_le j n && nat_le n j))
          ≡ ((i == n) || (nat_lt i n && (nat_lt n (j + 1) && t n))) in
          let low : nat_lt i j ≡ true = lt-ltb i j order in
          let high : nat_lt j (j + 1) ≡ true = lt-ltb j (j + 1) (omega arith) in
          let self : nat_le j j ≡ true = le-leb j j (omega arith) in
          subst goal (sym is) (rw (self, low, high, passes) (or-true _ ∙ sym (or-true (i == j))))
      | inr other ↦
          let upto : nat_lt k (j + 1) ≡ nat_lt k j = grind (arith, nat_tests) in
          let away : (nat_le j k && nat_le k j) ≡ false = grind (arith, nat_tests) in
          rw (upto, away) (or-false _)
    ]

below-skip : (i j k : ℕ) (t : ℕ → Bool) → t j ≡ false
    → ((i == k) || (nat_lt i k && (nat_lt k j && t k))) ≡ ((i == k) || (nat_lt i k && (nat_lt k (j + 1) && t k)))
below-skip i j k t fails =
    elim (cases_Bool (k == j)) [
      | inl same ↦
          let is = eqb-true k j same in
          let goal : ℕ → Type 0 = λ n. ((i == n) || (nat_lt i n && (nat_lt n j && t n)))
          ≡ ((i == n) || (nat_lt i n && (nat_lt n (j + 1) && t n))) in
          subst goal (sym is) (rw fails
          (ap (λ (b : Bool). (i == j) || (nat_lt i j && b)) (and-no (nat_lt j j) ∙ sym (and-no (nat_lt j (j + 1))))))
      | inr other ↦
          let upto : nat_lt k (j + 1) ≡ nat_lt k j = grind (arith, nat_tests) in rw upto refl
    ]

-- the runs so far are the longest ones of the cells of a group before a place
pub record HasRuns (e : Extent) (start : ℕ) (kept : List Keeping) (p next : ℕ) (runs : List Run) : Type 0 where
  pub longest : AreRunsFrom 0 (size_of e) runs
  pub begun : All (λ r. r.first < start + next) runs
  pub covered : (k : ℕ) → covers runs k ≡ with_below start kept p next k

-- at first the cell at the place alone
pub runs-first : (e : Extent) (start : ℕ) (kept : List Keeping) (p : ℕ) (old new : List Run) (r : Run)
    → p < length kept → start + length kept ≤ size_of e → old ≡ [] → r ≡ record { first = start + p; last = start + p }
    → ((bound : ℕ) → AreRunsFrom 0 bound old → r.last < bound → AreRunsFrom 0 bound new)
    → All (λ x. x.first ≤ r.first) new → ((k : ℕ) → covers new k ≡ (covers old k || is_in r k))
    → HasRuns e start kept p (p + 1) new
runs-first e start kept p old new r inside few none is longest begun added =
    let i = start + p in
    let first : r.first ≡ i = ap (λ (x : Run). x.first) is in
    let last : r.last ≡ i = ap (λ (x : Run). x.last) is in
    record {
      longest = longest (size_of e) (rw none tt) (omega arith);
      begun = λ n d there. omega (arith, begun n d there);
      covered = λ k.
          let t = are_together (keeping_at kept p) (keeping_at kept (k - start)) in
          let beyond : (nat_lt i k && (nat_lt k (start + (p + 1)) && t)) ≡ false =
          elim (cases_Bool (nat_lt i k)) [
            | inl above ↦
                let past : nat_lt k (start + (p + 1)) ≡ false = grind (arith, nat_tests) in
                rw past (and-no (nat_lt i k))
            | inr below ↦ rw below refl
          ] in
          added k ∙ ap₂ (λ (xs : List Run) (x : Run). covers xs k || is_in x k) none is ∙ in-one i k
          ∙ sym (or-false (i == k)) ∙ ap (λ (b : Bool). (i == k) || b) (sym beyond);
    }

-- then one more that is kept with it, or one that is not
pub runs-more : (e : Extent) (start : ℕ) (kept : List Keeping) (p next : ℕ) (old new : List Run) (r : Run) → p < next
    → next < length kept → start + length kept ≤ size_of e → HasRuns e start kept p next old
    → are_together (keeping_at kept p) (keeping_at kept next) ≡ true
    → r ≡ record { first = start + next; last = start + next }
    → ((bound : ℕ) → AreRunsFrom 0 bound old → r.last < bound → AreRunsFrom 0 bound new)
    → All (λ x. x.first ≤ r.first) new → ((k : ℕ) → covers new k ≡ (covers old k || is_in r k))
    → HasRuns e start kept p (next + 1) new
runs-more e start kept p next old new r order inside few has with is longest begun added =
    let t : ℕ → Bool = λ j. are_together (keeping_at kept p) (keeping_at kept (j - start)) in
    let back : start + next - start ≡ next = omega arith in
    let more : start + next + 1 ≡ start + (next + 1) = omega arith in
    let first : r.first ≡ start + next = ap (λ (x : Run). x.first) is in
    let last : r.last ≡ start + next = ap (λ (x : Run). x.last) is in
    record {
      longest = longest (size_of e) has.longest (omega arith);
      begun = λ n d there. omega (arith, begun n d there);
      covered = λ k.
          added k ∙ ap₂ (λ (b : Bool) (x : Run). b || is_in x k) (has.covered k) is
          ∙ below-add (start + p) (start + next) k t (omega arith)
          (ap (λ (j : ℕ). are_together (keeping_at kept p) (keeping_at kept j)) back ∙ with)
          ∙ ap (λ (j : ℕ). (start + p == k) || (nat_lt (start + p) k && (nat_lt k j && t k))) more;
    }

pub runs-same : (e : Extent) (start : ℕ) (kept : List Keeping) (p next : ℕ) (runs : List Run)
    → HasRuns e start kept p next runs → are_together (keeping_at kept p) (keeping_at kept next) ≡ false
    → HasRuns e start kept p (next + 1) runs
runs-same e start kept p next runs has apart =
    let t : ℕ → Bool = λ j. are_together (keeping_at kept p) (keeping_at kept (j - start)) in
    let back : start + next - start ≡ next = omega arith in
    let more : start + next + 1 ≡ start + (next + 1) = omega arith in
    record {
      longest = has.longest;
      begun = λ n d there. omega (arith, has.begun n d there);
      covered = λ k.
          has.covered k
          ∙ below-skip (start + p) (start + next) k t
          (ap (λ (j : ℕ). are_together (keeping_at kept p) (keeping_at kept j)) back ∙ apart)
          ∙ ap (λ (j : ℕ). (start + p == k) || (nat_lt (start + p) k && (nat_lt k j && t k))) more;
    }

-- what is kept as one of a kind is kept with a cell of that kind
pub kind-together : (a : Keeping) (n : ℕ) (b : Keeping) (t : Bool) → a ≡ Kind n → t ≡ is_kind n b
    → are_together a b ≡ t
kind-together a n b t is told = ap (λ (x : Keeping). are_together x b) is ∙ sym told

before : (start p k : ℕ) → nat_lt (start + p) k ≡ false → (start + p == k) ≡ false → start ≤ k → k - start < p
before start p k under apart from =
    let low : nat_lt (k - start) p ≡ true = grind (arith, nat_tests) in ltb-true (k - start) p low

-- a cell of no kind is by itself
no-kind : (a b : Keeping) → ((n : ℕ) → a ≡ Kind n → ⊥) → are_together a b ≡ false
no-kind Nothing b none = refl
no-kind Alone b none = refl
no-kind (Kind n) b none = absurd (none n refl)

pub runs-alone : (e : Extent) (start : ℕ) (kept : List Keeping) (p k : ℕ) (runs : List Run)
    → HasRuns e start kept p (p + 1) runs → ((n : ℕ) → keeping_at kept p ≡ Kind n → ⊥)
    → covers runs k ≡ is_with start kept p k
runs-alone e start kept p k runs has none =
    let t = no-kind (keeping_at kept p) (keeping_at kept (k - start)) none in
    has.covered k
    ∙ (rw t (ap (λ (b : Bool). (start + p == k) || b) (ap (λ (b : Bool). nat_lt (start + p) k && b)
    (and-no (nat_lt k (start + (p + 1)))) ∙ and-no (nat_lt (start + p) k) ∙ sym (and-no (nat_le start k)))))

-- the set of the runs of a group
pub group-made : (e : Extent) (start : ℕ) (kept : List Keeping) (p : ℕ) (runs : List Run)
    → AreRunsFrom 0 (size_of e) runs → ((k : ℕ) → covers runs k ≡ is_with start kept p k)
    → record { extent = e; indexes = flat_map indexes_of runs } ≡ group_at e start kept p
group-made e start kept p runs longest covered =
    let make : List ℕ → Cells = λ xs. record { extent = e; indexes = xs } in
    ap make (runs-filter (size_of e) runs longest
    ∙ filter-range_ext (covers runs) (λ k. is_with start kept p (index_of e (cell_of e k))) 0 (size_of e)
    (λ k low high. covered k ∙ ap (is_with start kept p) (sym (index-cell e k))))

-- of a place that leads they are all of its group, since none before it is of its kind
pub runs-all : (start : ℕ) (kept : List Keeping) (p n k : ℕ) → n ≡ length kept → leads kept p ≡ true → p < length kept
    → with_below start kept p n k ≡ is_with start kept p k
runs-all start kept p n k all_of h inside =
    let t = are_together (keeping_at kept p) (keeping_at kept (k - start)) in
    let some : Bool = nat_lt (start + p) k && (nat_lt k (start + length kept) && t) in
    ap (λ (m : ℕ). with_below start kept p m k) all_of
    ∙ same_truth (with_below start kept p (length kept) k) (is_with start kept p k)
    (λ all. elim (or_cases (start + p == k) some all) [
      | inl same ↦ rw same refl
      | inr other ↦
          let one = and_parts (nat_lt (start + p) k) (nat_lt k (start + length kept) && t) other in
          let two = and_parts (nat_lt k (start + length kept)) t one.1 in
          let low = ltb-true (start + p) k one.0 in
          rw (le-leb start k (omega (arith, low)), two.1) (or-true (start + p == k))
    ])
    (λ all. elim (with-cases start kept p k all) [
      | inl same ↦ rw (eq-eqb (start + p) k same) refl
      | inr other ↦
          let below = kept-within kept (k - start)
          (together-kept (keeping_at kept p) (keeping_at kept (k - start)) other.1) in
          elim (cases_Bool (nat_lt (start + p) k)) [
            | inl above ↦
                rw (above, lt-ltb k (start + length kept) (omega (arith, below, other.0)), other.1)
                (or-true (start + p == k))
            | inr under ↦
                elim (cases_Bool (start + p == k)) [
                  | inl same ↦ rw same refl
                  | inr apart ↦
                      let low : k - start < p = before start p k under apart other.0 in
                      absurd (leads-first kept p (k - start) h inside low other.1)
                ]
          ]
    ])

-- ---- what is looked for among those that lead

-- what is the same for all cells of a kind is found at the cell itself, where that is kept
pub led : (start : ℕ) (kept : List Keeping) (q : ℕ) (found : ℕ → Bool) → q < length kept
    → ((p : ℕ) → p < length kept → are_together (keeping_at kept p) (keeping_at kept q) ≡ true → found p ≡ found q)
    → list_any (λ p. is_with start kept p (start + q) && found p) (leaders_below kept (length kept))
    ≡ (is_kept (keeping_at kept q) && found q)
led start kept q found inside agree =
    let at = keeping_at kept in
    let n = length kept in
    let test : ℕ → Bool = λ p. is_with start kept p (start + q) && found p in
    same_truth (list_any test (leaders_below kept n)) (is_kept (at q) && found q)
    (λ met.
    let one = later-passes (leads kept) test 0 n met in
    let p = one.0 in
    let both = and_parts (is_with start kept p (start + q)) (found p) one.4 in
    elim (or_cases (p == q) (are_together (at p) (at q)) (sym (with-place start kept p q) ∙ both.0)) [
      | inl same ↦
          let is = eqb-true p q same in
          and_from (is_kept (at q)) (found q)
          (ap (λ (i : ℕ). is_kept (at i)) (sym is) ∙ leads-kept kept p one.3) (ap found (sym is) ∙ both.1)
      | inr with ↦
          and_from (is_kept (at q)) (found q) (together-kept (at p) (at q) with)
          (sym (agree p (omega (arith, one.2)) with) ∙ both.1)
    ])
    (λ there.
    let both = and_parts (is_kept (at q)) (found q) there in
    let same : ℕ → Bool = λ p. (p == q) || are_together (at p) (at q) in
    let first = least same q (ap (λ (b : Bool). b || are_together (at q) (at q)) (eq-eqb q q refl)) in
    let p = first.number in
    let low : p ≤ q = first.within in
    let none : (r : ℕ) → r < p → are_together (at r) (at q) ≡ false = λ r below.
    false_from_ne_true (are_together (at r) (at q))
    (λ with. true≢false (sym (rw with (or-true (r == q))) ∙ first.none r below)) in
    elim (or_cases (p == q) (are_together (at p) (at q)) first.passes) [
      | inl is ↦
          let here = eqb-true p q is in
          passes-from (leads kept) test p n (omega arith)
          (leads-from kept p (ap (λ (i : ℕ). is_kept (at i)) here ∙ both.0)
          (λ r below. false_from_ne_true (are_together (at p) (at r))
          (λ with. true≢false (sym (together-flip (at q) (at r) (ap (λ (i : ℕ). are_together (at i) (at r)) (sym here)
          ∙ with)) ∙ none r below))))
          (and_from (is_with start kept p (start + q)) (found p) (with-place start kept p q ∙ first.passes)
          (ap found here ∙ both.1))
      | inr with ↦
          passes-from (leads kept) test p n (omega arith)
          (leads-from kept p (together-kept (at q) (at p) (together-flip (at p) (at q) with))
          (λ r below. false_from_ne_true (are_together (at p) (at r))
          (λ also. true≢false (sym (together-onward (at r) (at p) (at q) (together-flip (at p) (at r) also) with)
          ∙ none r below))))
          (and_from (is_with start kept p (start + q)) (found p) (with-place start kept p q ∙ first.passes)
          (agree p (omega arith) with ∙ both.1))
    ])

-- ---- how the cells of a range are kept

pub keepings-length : (e : Extent) (keep : Cell → Keeping) (start n : ℕ) (kept : List Keeping)
    → kept ≡ keepings e keep start n → length kept ≡ n
keepings-length e keep start n kept is = ap length is ∙ length-map-range_with_len (λ k. keep (cell_of e k)) start n

pub keepings-at : (e : Extent) (keep : Cell → Keeping) (start n : ℕ) (kept : List Keeping) (p : ℕ)
    → kept ≡ keepings e keep start n → p < n → keeping_at kept p ≡ keep (cell_of e (start + p))
keepings-at e keep start n kept p is below =
    ap (λ (xs : List Keeping). get_or xs p Nothing) is
    ∙ get_or-map-range_with_len (λ k. keep (cell_of e k)) start n p (start + p) Nothing below refl

-- with one cell more
pub keepings-next : (e : Extent) (keep : Cell → Keeping) (start i : ℕ) (cell : Cell) (old new : List Keeping)
    (keeping : Keeping) → start ≤ i → old ≡ keepings e keep start (i - start) → cell ≡ cell_of e i
    → keeping ≡ keep cell → new ≡ old ++ keeping ∷ [] → new ≡ keepings e keep start (i + 1 - start)
keepings-next e keep start i cell old new keeping low is at kept more =
    let one : i + 1 - start ≡ i - start + 1 = omega arith in
    more ∙ ap₂ (λ (xs : List Keeping) (x : Keeping). xs ++ x ∷ []) is (kept ∙ ap keep at)
    ∙ sym (map-range_with_len_more (λ k. keep (cell_of e k)) start (i - start) i (omega arith))
    ∙ sym (ap (keepings e keep start) one)

-- where no cell is kept, none leads
pub leaders-none : (kept : List Keeping) (n : ℕ) → ((p : ℕ) → p < n → keeping_at kept p ≡ Nothing)
    → leaders_below kept n ≡ []
leaders-none kept n none =
    filter-range_ext (leads kept) (λ p. false) 0 n
    (λ p low high. ap (λ (a : Keeping). is_first a (take p kept)) (none p (omega arith)))
    ∙ filter-false (range_with_len 0 n)
