-- Sets of the cells of which the indexes pass a test, as bitmaps have them.
--
-- The key idea: what is added to a bitmap is again such a set, and the union of two of them has the indexes that pass
-- either test. So each step of a loop widens one test, and the set that it began with is never looked into.
use Rattle.std.proofs.Common.{◌≡◌, ℕ, ◌+◌, ◌-◌, ◌*◌, ◌/◌, ◌%◌, ◌^◌, ◌<◌}
use Rattle.std.proofs.Common.{◌≤◌, min, max, Bool, true, false, ◌&&◌, ◌||◌, ◌==◌, nat_lt, nat_le}
use Rattle.std.proofs.Common.{List, [], ◌∷◌, length, get_or, set, take, replicate, bit_and, bit_or}
use Rattle.std.proofs.Common.{is_some, Option, Some, None, refl, sym, ap, ap₂, subst, ◌∙◌, arith, inl, inr}
use Rattle.std.proofs.Common.{eq-eqb, ne_eqb, lt-ltb, le-ltb, le-leb, append-nil, length-set, get_or-set_same}
use Rattle.std.proofs.Common.{get_or-set_other, true≢false}
use Rattle.std.specs.List.{filter, find, list_any, range_with_len}
use Rattle.std.proofs.Math.Bool.{or_assoc, or-false}
use Rattle.std.proofs.lemmas.Bool.{cases_Bool, cases_eq, cases_lt, and_from, and_left, and_right, lt-leb}
use Rattle.std.proofs.lemmas.List.{get_or_past, get_or-replicate, length-replicate}
use Rattle.std.proofs.lemmas.List.Folds.{list_any_more}
use Rattle.std.proofs.lemmas.Nat.Bits.{shr_and_one}
use Rattle.sz_cells.specs.declared.Cell.{Cell}
use Rattle.sz_cells.specs.declared.Run.{Run}
use Rattle.sz_cells.specs.Extent.{Extent, size_of, holds, index_of, cell_of}
use Rattle.sz_cells.specs.Cells.{Cells, is_same, has, cells_where, no_cells, with_cell, union_of}
use Rattle.sz_cells.specs.Runs.{indexes_of, is_in, covers, AreRunsFrom, Spells, run_cells}
use Rattle.sz_cells.specs.Words.{is_one, has_bit, is_in_word, words_for, cells_at, AreWordsOf}
use Rattle.sz_cells.proofs.Sets.{index-below, cell-index, cell-held, index-cell, filter-range_ext, any-filter_range_at}
use Rattle.sz_cells.proofs.Sets.{has-cells_where, cells_where-ext, index-is_same, is_same-flip}
use Rattle.sz_cells.proofs.Rising.{filter-false}
use Rattle.sz_cells.proofs.Runs.{runs-filter}
use Rattle.sz_cells.proofs.WordBits.{one-or, one-zero, one-single, index-place, find-first}
use Rattle.sz_cells.proofs.WordBits.{find-none}
use Rattle.sz_cells.proofs.WordRuns.{find-some, find-nothing}

-- ---- sets by a test of indexes

-- two tests that agree below the size make one set
pub cells_at-ext : (e : Extent) (p q : ℕ → Bool) → ((k : ℕ) → k < size_of e → p k ≡ q k) → cells_at e p
    ≡ cells_at e q
cells_at-ext e p q same =
    let make : List ℕ → Cells = λ xs. record { extent = e; indexes = xs } in
    ap make (filter-range_ext p q 0 (size_of e) (λ k low high. same k (omega arith)))

-- a cell of the shape is in such a set where its index passes
pub has-cells_at : (e : Extent) (p : ℕ → Bool) (c : Cell) → holds e c ≡ true → has (cells_at e p) c
    ≡ p (index_of e c)
has-cells_at e p c held = rw held (any-filter_range_at p (index_of e c) (size_of e) (index-below e c held))

-- an index is in such a set where it passes
pub any-cells_at : (e : Extent) (p : ℕ → Bool) (k : ℕ) → k < size_of e → list_any (λ x. x == k)
    (cells_at e p).indexes ≡ p k
any-cells_at e p k below = any-filter_range_at p k (size_of e) below

-- such a set is the set of its cells
pub cells_at-has : (e : Extent) (p : ℕ → Bool) → cells_at e p ≡ cells_where e (has (cells_at e p))
cells_at-has e p =
    let make : List ℕ → Cells = λ xs. record { extent = e; indexes = xs } in
    ap make
    (filter-range_ext p (λ k. has (cells_at e p) (cell_of e k)) 0 (size_of e)
    (λ k low high.
    sym (has-cells_at e p (cell_of e k) (cell-held e k (omega arith)) ∙ ap p (index-cell e k))))

-- where no index passes, it is the set of no cell
pub cells_at-none : (e : Extent) (p : ℕ → Bool) → ((k : ℕ) → k < size_of e → p k ≡ false)
    → cells_at e p ≡ no_cells e
cells_at-none e p none =
    let make : List ℕ → Cells = λ xs. record { extent = e; indexes = xs } in
    ap make (filter-range_ext p (λ _. false) 0 (size_of e) (λ k low high. none k (omega arith))
    ∙ filter-false (range_with_len 0 (size_of e)))

-- the cells of a run are the indexes in it
pub run_cells-at : (e : Extent) (r : Run) → r.first ≤ r.last → r.last < size_of e → run_cells e r
    ≡ cells_at e (is_in r)
run_cells-at e r order within =
    let make : List ℕ → Cells = λ xs. record { extent = e; indexes = xs } in
    let one : AreRunsFrom 0 (size_of e) (r ∷ []) = (omega arith, order, within, tt) in
    ap make
    (sym (append-nil (indexes_of r))
    ∙ runs-filter (size_of e) (r ∷ []) one
    ∙ filter-range_ext (covers (r ∷ [])) (is_in r) 0 (size_of e) (λ k low high. or-false (is_in r k)))

-- ---- unions with such sets

-- a set was added and another is; what both have, one set has
pub union-step : (a b c d : Cells) → ((x : Cell) → holds a.extent x ≡ true → (has b x || has c x) ≡ has d x)
    → union_of (union_of a b) c ≡ union_of a d
union-step a b c d wide =
    cells_where-ext a.extent (λ x. has (union_of a b) x || has c x) (λ x. has a x || has d x)
    (λ x held.
    ap (λ y. y || has c x) (has-cells_where a.extent (λ z. has a z || has b z) x held)
    ∙ or_assoc (has a x) (has b x) (has c x)
    ∙ ap (λ y. has a x || y) (wide x held))

-- one more such set: its test widens the one before
pub union-more : (a : Cells) (p q r : ℕ → Bool) → ((k : ℕ) → k < size_of a.extent → (p k || q k) ≡ r k)
    → union_of (union_of a (cells_at a.extent p)) (cells_at a.extent q) ≡ union_of a (cells_at a.extent r)
union-more a p q r wide =
    let e : Extent = a.extent in
    union-step a (cells_at e p) (cells_at e q) (cells_at e r)
    (λ c held.
    ap₂ (λ (x y : Bool). x || y) (has-cells_at e p c held) (has-cells_at e q c held)
    ∙ wide (index_of e c) (index-below e c held)
    ∙ sym (has-cells_at e r c held))

-- a set of its cells, and none besides
pub union-none : (a : Cells) (p : ℕ → Bool) → a ≡ cells_where a.extent (has a)
    → ((k : ℕ) → k < size_of a.extent → p k ≡ false)
    → a ≡ union_of a (cells_at a.extent p)
union-none a p own none =
    let e : Extent = a.extent in
    own
    ∙ cells_where-ext e (has a) (λ c. has a c || has (cells_at e p) c)
    (λ c held. sym (ap (λ b. has a c || b) (has-cells_at e p c held ∙ none (index_of e c) (index-below e c held))
    ∙ or-false (has a c)))

-- a view of such a form is the set of its cells
pub own-cells : (a : Cells) (e : Extent) (p : ℕ → Bool) → cells_at e p ≡ a → a ≡ cells_where a.extent
    (has a)
own-cells a e p view = subst (λ (b : Cells). b ≡ cells_where b.extent (has b)) view (cells_at-has e p)

-- two tests that agree below the size add the same cells
pub union-ext : (a : Cells) (p q : ℕ → Bool) → ((k : ℕ) → k < size_of a.extent → p k ≡ q k)
    → union_of a (cells_at a.extent p) ≡ union_of a (cells_at a.extent q)
union-ext a p q same = ap (union_of a) (cells_at-ext a.extent p q same)

-- the union of two such sets has the indexes that pass either test
pub union-at : (e : Extent) (p q r : ℕ → Bool) → ((k : ℕ) → k < size_of e → (p k || q k) ≡ r k)
    → union_of (cells_at e p) (cells_at e q) ≡ cells_at e r
union-at e p q r wide =
    cells_where-ext e (λ c. has (cells_at e p) c || has (cells_at e q) c) (has (cells_at e r))
    (λ c held.
    ap₂ (λ (x y : Bool). x || y) (has-cells_at e p c held) (has-cells_at e q c held)
    ∙ wide (index_of e c) (index-below e c held) ∙ sym (has-cells_at e r c held))
    ∙ sym (cells_at-has e r)

-- ---- words

-- what is added to one word is added to its indexes
pub has_bit-or : (words : List ℕ) (word bits k : ℕ) → word < length words
    → has_bit (set words word (bit_or (get_or words word 0) bits)) k ≡ (has_bit words k || is_in_word word bits k)
unfolding has_bit is_in_word
has_bit-or words word bits k inside =
    elim (cases_eq (k / 64) word) [
      | inl same ↦ rw (
        same,
        get_or-set_same words word (bit_or (get_or words word 0) bits) 0 inside,
        eq-eqb word word refl,
      ) (one-or (get_or words word 0) bits (k % 64))
      | inr other ↦ rw (
        get_or-set_other words word (k / 64) (bit_or (get_or words word 0) bits) 0 other,
        ne_eqb (k / 64) word other,
      ) (sym (or-false _))
    ]

-- the word of an index between its ends
in-word_of : (word k : ℕ) → word * 64 ≤ k → k < (word + 1) * 64 → k / 64 ≡ word
in-word_of word k low high = let at = index-place k in omega arith

-- where a word is 0, no index of it has a bit
pub has_bit-zero : (words : List ℕ) (word k : ℕ) → word < length words → k / 64 ≡ word
    → has_bit (set words word 0) k ≡ false
unfolding has_bit
has_bit-zero words word k inside same = rw (same, get_or-set_same words word 0 0 inside) (one-zero (k % 64))

pub has_bit-other : (words : List ℕ) (word bits k : ℕ) → (k / 64 ≡ word → ⊥)
    → has_bit (set words word bits) k ≡ has_bit words k
unfolding has_bit
has_bit-other words word bits k other = rw (get_or-set_other words word (k / 64) bits 0 other) refl

-- one more word of 0, behind words without a bit
pub clear-more : (words : List ℕ) (word : ℕ) → word < length words
    → ((k : ℕ) → k < word * 64 → has_bit words k ≡ false)
    → (k : ℕ) → k < (word + 1) * 64 → has_bit (set words word 0) k ≡ false
clear-more words word inside before k low =
    elim (cases_eq (k / 64) word) [
      | inl same ↦ has_bit-zero words word k inside same
      | inr other ↦
          let at = index-place k in
          has_bit-other words word 0 k other
          ∙ before k (elim (cases_lt k (word * 64)) [
            | inl under ↦ under
            | inr over ↦
                absurd (other (in-word_of word k over low))
          ])
    ]

-- a word of 0 takes no bit in
pub clear-kept : (words : List ℕ) (word k : ℕ) → word < length words → has_bit words k ≡ false
    → has_bit (set words word 0) k ≡ false
clear-kept words word k inside none =
    elim (cases_eq (k / 64) word) [
      | inl same ↦ has_bit-zero words word k inside same
      | inr other ↦
          has_bit-other words word 0 k other ∙ none
    ]

pub has_bit-none : (n k : ℕ) → has_bit (replicate n 0) k ≡ false
unfolding has_bit
has_bit-none n k =
    elim (cases_lt (k / 64) n) [
      | inl inside ↦ rw (get_or-replicate {A = ℕ} n (k / 64) 0 0 inside) (one-zero (k % 64))
      | inr past ↦ rw (get_or_past {X = ℕ} (replicate n 0) (k / 64) 0
          (omega (arith, length-replicate {A = ℕ} n 0))) (one-zero (k % 64))
    ]

-- an index of another word is in no bit of a word
pub not-in_word : (word bits k : ℕ) → (k / 64 ≡ word → ⊥) → is_in_word word bits k ≡ false
unfolding is_in_word
not-in_word word bits k other = rw (ne_eqb (k / 64) word other) refl

-- the bits of one index
pub single-in_word : (i k : ℕ) → is_in_word (i / 64) (1 * 2 ^ (i % 64) % 2 ^ 64) k ≡ (k == i)
unfolding is_in_word
single-in_word i k =
    let at_i = index-place i in
    let at_k = index-place k in
    rw (one-single (i % 64) (k % 64) at_i.1)
    (elim (cases_eq k i) [
      | inl same ↦ rw (same, eq-eqb (i / 64) (i / 64) refl, eq-eqb (i % 64) (i % 64) refl, eq-eqb i i refl) refl
      | inr other ↦
          rw (ne_eqb k i other)
          (elim (cases_eq (k / 64) (i / 64)) [
            | inl row ↦
                let apart : k % 64 ≡ i % 64 → ⊥ = λ col. other (sym at_k.0
                ∙ ap₂ (λ (a b : ℕ). a * 64 + b) row col ∙ at_i.0) in
                rw (eq-eqb (k / 64) (i / 64) row, ne_eqb (k % 64) (i % 64) apart) refl
            | inr row ↦ rw (ne_eqb (k / 64) (i / 64) row) refl
          ])
    ])

-- the cells of the words, with the bits of one word added
pub word-added : (e : Extent) (words : List ℕ) (a : Cells) (word bits old : ℕ) → cells_at e (has_bit words) ≡ a
    → word < length words → old ≡ get_or words word 0
    → cells_at e (has_bit (set words word (bit_or old bits))) ≡ union_of a
    (cells_at a.extent (is_in_word word bits))
word-added e words a word bits old view inside at =
    subst (λ (b : Cells). cells_at e (has_bit (set words word (bit_or old bits))) ≡ union_of b
    (cells_at b.extent (is_in_word word bits))) view
    (rw at
    (sym
    (union-at e (has_bit words) (is_in_word word bits) (has_bit (set words word (bit_or (get_or words word 0) bits)))
    (λ k below. sym (has_bit-or words word bits k inside)))))

-- the words stay those of the shape where bits of one word are added
pub words-or : (e : Extent) (words : List ℕ) (first end word bits old : ℕ) → AreWordsOf e words first end
    → word < length words → old ≡ get_or words word 0
    → ((k : ℕ) → size_of e ≤ k → is_in_word word bits k ≡ false)
    → AreWordsOf e (set words word (bit_or old bits)) (min first word) (max end (word + 1))
words-or e words first end word bits old are there at held =
    let said : (k : ℕ) → has_bit words k ≡ false → is_in_word word bits k ≡ false
    → has_bit (set words word (bit_or old bits)) k ≡ false =
    λ k was new. rw at (has_bit-or words word bits k there ∙ (rw (was, new) refl)) in
    record {
      few = are.few;
      enough = length-set words word (bit_or old bits) ∙ are.enough;
      start = omega (arith, length-set words word (bit_or old bits), are.start);
      within = omega (arith, length-set words word (bit_or old bits), are.within);
      before = λ k low. let at = index-place k in said k (are.before k (omega arith))
          (not-in_word word bits k (λ same. omega (arith, at.0, at.1, ap (λ (q : ℕ). q * 64) same)));
      after = λ k high. let at = index-place k in said k (are.after k (omega arith))
          (not-in_word word bits k (λ same. omega (arith, at.0, at.1, ap (λ (q : ℕ). q * 64) same)));
      no_more = λ k past. said k (are.no_more k past) (held k past);
    }

-- words of which no bit is 1
pub words-none : (e : Extent) (words : List ℕ) → size_of e ≤ 1048576 → length words ≡ words_for e
    → ((k : ℕ) → has_bit words k ≡ false) → AreWordsOf e words (length words) 0
words-none e words few long none = record {
  few = few;
  enough = long;
  start = omega arith;
  within = omega arith;
  before = λ k low. none k;
  after = λ k high. none k;
  no_more = λ k past. none k;
}

-- ---- one cell

-- the cells of one index are the cell of it
pub with_cell-at : (a : Cells) (cell : Cell) (p : ℕ → Bool) → holds a.extent cell ≡ true
    → ((k : ℕ) → p k ≡ (k == index_of a.extent cell))
    → union_of a (cells_at a.extent p) ≡ with_cell a cell
with_cell-at a cell p held one =
    let e : Extent = a.extent in
    cells_where-ext e (λ c. has a c || has (cells_at e p) c) (λ c. has a c || is_same c cell)
    (λ c here.
    ap (λ b. has a c || b)
    (has-cells_at e p c here
    ∙ one (index_of e c)
    ∙ index-is_same e c (index_of e cell) here
    ∙ ap (λ (d : Cell). is_same d c) (cell-index e cell held)
    ∙ is_same-flip cell c))

-- ---- words added one after another

-- the bits of a word, where they are those of its indexes that pass
pub in-word-at : (word bits : ℕ) (test : ℕ → Bool) → ((place : ℕ) → place < 64 → is_one bits place
    ≡ test (word * 64 + place))
    → (k : ℕ) → is_in_word word bits k ≡ ((k / 64 == word) && test k)
unfolding is_in_word
in-word-at word bits test are k =
    let at = index-place k in
    elim (cases_eq (k / 64) word) [
      | inl same ↦
          rw (eq-eqb (k / 64) word same)
          (are (k % 64) at.1 ∙ ap test (ap (λ (q : ℕ). q * 64 + k % 64) (sym same) ∙ at.0))
      | inr other ↦ rw (ne_eqb (k / 64) word other) refl
    ]

-- an index of a word before another, or of the word, is one of a word before the next
word-more : (test : ℕ → Bool) (word k : ℕ) → ((test k && nat_lt k (word * 64)) || ((k / 64 == word) && test k))
    ≡ (test k && nat_lt k ((word + 1) * 64))
word-more test word k =
    let at = index-place k in
    elim (cases_lt k (word * 64)) [
      | inl under ↦
          let other : k / 64 ≡ word → ⊥ = λ same. omega (arith, at.0, ap (λ (q : ℕ). q * 64) same) in
          rw (lt-ltb k (word * 64) under, ne_eqb (k / 64) word other, lt-ltb k ((word + 1) * 64) (omega arith))
          (or-false (test k && true))
      | inr over ↦
          elim (cases_lt k ((word + 1) * 64)) [
            | inl inside ↦
                rw (
                  le-ltb k (word * 64) over,
                  eq-eqb (k / 64) word (in-word_of word k over inside),
                  lt-ltb k ((word + 1) * 64) inside,
                )
                (elim (cases_Bool (test k)) [ inl t ↦ rw t refl | inr f ↦ rw f refl ])
            | inr past ↦
                let other : k / 64 ≡ word → ⊥ = λ same. omega (
                  arith,
                  at.0,
                  at.1,
                  ap (λ (q : ℕ). q * 64)
                      same,
                ) in
                rw (le-ltb k (word * 64) over, ne_eqb (k / 64) word other, le-ltb k ((word + 1) * 64) past)
                (elim (cases_Bool (test k)) [ inl t ↦ rw t refl | inr f ↦ rw f refl ])
          ]
    ]

-- so far the cells of the words before one were added
abbrev pub AddedTo : Cells → (ℕ → Bool) → ℕ → Cells → Type 0
AddedTo a test word so_far = so_far ≡ union_of a (cells_at a.extent (λ k. test k && nat_lt k (word * 64)))

pub words-start : (a : Cells) (test : ℕ → Bool) (word : ℕ) → a ≡ cells_where a.extent (has a)
    → ((k : ℕ) → k < word * 64 → test k ≡ false) → AddedTo a test word a
words-start a test word own before =
    union-none a (λ k. test k && nat_lt k (word * 64)) own
    (λ k below.
    elim (cases_lt k (word * 64)) [
      | inl under ↦ rw (before k under) refl
      | inr over ↦ rw (le-ltb k (word * 64) over) (elim (cases_Bool (test k)) [
        | inl t ↦ rw t refl
        | inr f ↦
            rw f refl
      ])
    ])

pub words-step : (a so_far new : Cells) (test : ℕ → Bool) (word bits : ℕ) → AddedTo a test word so_far
    → ((place : ℕ) → place < 64 → is_one bits place ≡ test (word * 64 + place)) → new ≡ union_of so_far
    (cells_at so_far.extent (is_in_word word bits))
    → AddedTo a test (word + 1) new
words-step a so_far new test word bits before are added =
    added
    ∙ ap (λ (s : Cells). union_of s (cells_at s.extent (is_in_word word bits))) before
    ∙ union-more a (λ k. test k && nat_lt k (word * 64)) (is_in_word word bits)
    (λ k. test k && nat_lt k ((word + 1) * 64))
    (λ k below. ap (λ b. (test k && nat_lt k (word * 64)) || b) (in-word-at word bits test are k)
    ∙ word-more test word k)

pub words-end : (a so_far : Cells) (test : ℕ → Bool) (word : ℕ) → AddedTo a test word so_far
    → ((k : ℕ) → word * 64 ≤ k → test k ≡ false)
    → so_far ≡ union_of a (cells_at a.extent test)
words-end a so_far test word before after =
    before
    ∙ union-ext a (λ k. test k && nat_lt k (word * 64)) test
    (λ k below.
    elim (cases_lt k (word * 64)) [
      | inl under ↦ rw (lt-ltb k (word * 64) under) (elim (cases_Bool (test k)) [
        | inl t ↦ rw t refl
        | inr f ↦
            rw f refl
      ])
      | inr over ↦ rw (after k over) refl
    ])

-- no index past the size is in a word of which the bits are indexes that pass, where none past the size passes
pub words-held : (word bits size : ℕ) (test : ℕ → Bool) → ((place : ℕ) → place < 64 → is_one bits place
    ≡ test (word * 64 + place))
    → ((k : ℕ) → size ≤ k → test k ≡ false) → (k : ℕ) → size ≤ k → is_in_word word bits k
    ≡ false
words-held word bits size test are none k past =
    in-word-at word bits test are k ∙ (rw (none k past) (elim (cases_Bool (k / 64 == word))
    [ inl t ↦ rw t refl | inr f ↦ rw f refl ]))

-- the extent stays
pub added-extent : (a so_far : Cells) (p : ℕ → Bool) → so_far ≡ union_of a (cells_at a.extent p)
    → so_far.extent ≡ a.extent
added-extent a so_far p is = ap (λ (s : Cells). s.extent) is

-- ---- runs and other sets added

-- an index before a run, or after it, is not in it
pub run-before : (r : Run) (k : ℕ) → k < r.first / 64 * 64 → is_in r k ≡ false
run-before r k low = let at = index-place r.first in rw (lt-leb r.first k (omega arith)) refl

pub run-after : (r : Run) (word k : ℕ) → r.last / 64 + 1 ≤ word → word * 64 ≤ k → is_in r k ≡ false
run-after r word k past high =
    let at = index-place r.last in
    rw (lt-leb k r.last (omega arith)) (elim (cases_Bool (nat_le r.first k)) [
      | inl t ↦ rw t refl
      | inr f ↦
          rw f refl
    ])

pub run-past : (r : Run) (size k : ℕ) → r.last < size → size ≤ k → is_in r k ≡ false
run-past r size k within past =
    rw (lt-leb k r.last (omega arith)) (elim (cases_Bool (nat_le r.first k)) [
      | inl t ↦ rw t refl
      | inr f ↦
          rw f refl
    ])

-- a view, at an equal extent
pub view-at : (e : Extent) (p : ℕ → Bool) (b : Cells) → cells_at e p ≡ b → (f : Extent) → b.extent ≡ f
    → cells_at f p ≡ b
view-at e p b view f same = subst (λ (x : Extent). cells_at x p ≡ b) (ap (λ (s : Cells). s.extent) view ∙ same)
    view

-- a set that runs spell, as the indexes that they cover
pub spelled-at : (runs : List Run) (s : Cells) → Spells runs s → cells_at s.extent (covers runs) ≡ s
spelled-at runs s spells =
    let make : List ℕ → Cells = λ xs. record { extent = s.extent; indexes = xs } in
    ap make (sym (runs-filter (size_of s.extent) runs spells.longest) ∙ spells.spelled)

-- before any run is added, and one run more
pub runs-start : (a : Cells) → a ≡ cells_where a.extent (has a) → a ≡ union_of a (cells_at a.extent (covers []))
runs-start a own = union-none a (covers []) own (λ k below. refl)

pub runs-step : (a so_far new : Cells) (runs : List Run) (i : ℕ) (d : Run) → i < length runs
    → so_far ≡ union_of a (cells_at a.extent (covers (take i runs)))
    → (get_or runs i d).first ≤ (get_or runs i d).last → (get_or runs i d).last < size_of so_far.extent
    → new ≡ union_of so_far (run_cells so_far.extent (get_or runs i d))
    → new ≡ union_of a (cells_at a.extent (covers (take (i + 1) runs)))
runs-step a so_far new runs i d inside before order within added =
    let r : Run = get_or runs i d in
    added
    ∙ ap (union_of so_far) (run_cells-at so_far.extent r order within)
    ∙ ap (λ (s : Cells). union_of s (cells_at s.extent (is_in r))) before
    ∙ union-more a (covers (take i runs)) (is_in r) (covers (take (i + 1) runs))
    (λ k below. sym (list_any_more (λ x. is_in x k) runs i d inside))

-- ---- the search for the next index

-- a search in a filter is a search for what passes both tests
find-filter : (p q : ℕ → Bool) (xs : List ℕ) → find p (filter q xs) ≡ find (λ x. q x && p x) xs
find-filter p q [] = refl
find-filter p q (x ∷ xs) =
    elim (cases_Bool (q x)) [
      | inl keeps ↦ rw keeps (elim (cases_Bool (p x)) [
        | inl passes ↦ rw passes refl
        | inr fails ↦
            rw fails (find-filter p q xs)
      ])
      | inr drops ↦ rw drops (find-filter p q xs)
    ]

-- an index below the start, or at which a test fails, is none at or above the start that passes
none-from : (test : ℕ → Bool) (from k : ℕ) → (from ≤ k → test k ≡ false) → (test k && nat_le from k) ≡ false
none-from test from k off =
    elim (cases_lt k from) [
      | inl under ↦ and_right (test k) (nat_le from k) (lt-leb from k under)
      | inr over ↦ and_left (test k) (nat_le from k) (off over)
    ]

-- the next index of a bitmap is the next bit that is 1, in the range of words that may have one
pub next-bit : (test : ℕ → Bool) (size low from end : ℕ) (r : Option ℕ)
    → ((k : ℕ) → k < low → test k ≡ false) → ((k : ℕ) → end ≤ k → test k ≡ false)
    → ((k : ℕ) → size ≤ k → test k ≡ false)
    → r ≡ find test (range_with_len (max from low) (end - max from low))
    → r ≡ find (nat_le from) (filter test (range_with_len 0 size))
next-bit test size low from end None before after past found =
    let none = find-nothing test (end - max from low) (max from low) (sym found) in
    sym
    (find-filter (nat_le from) test (range_with_len 0 size)
    ∙ find-none (λ k. test k && nat_le from k) size 0
    (λ k start high. none-from test from k (λ over.
    elim (cases_lt k low) [
      | inl early ↦ before k early
      | inr later ↦ elim (cases_lt k end) [
        | inl inside ↦ none k (omega arith) (omega arith)
        | inr out ↦
            after k out
      ]
    ])))
next-bit test size low from end (Some i) before after past found =
    let first = find-some test (end - max from low) (max from low) i (sym found) in
    let inside : i < size = elim (cases_lt i size) [
      | inl under ↦ under
      | inr over ↦
          absurd (true≢false (sym first.0.passes ∙ past i over))
    ] in
    sym
    (find-filter (nat_le from) test (range_with_len 0 size)
    ∙ find-first (λ k. test k && nat_le from k) size 0 i
    (record {
      low = omega arith;
      passes = and_from (test i) (nat_le from i) first.0.passes (le-leb from i (omega (arith, first.0.low)));
      before = λ k start below. none-from test from k (λ over.
          elim (cases_lt k low) [
            | inl early ↦ before k early
            | inr later ↦ first.0.before k (omega arith) below
          ]);
    })
    (omega arith))

cons-nil : (x : ℕ) (xs : List ℕ) → x ∷ xs ≡ [] → ⊥
cons-nil x xs same = cc

-- a list has a number at or above 0 exactly where it is not empty
pub none-from_0 : (xs : List ℕ) → (is_some (find (nat_le 0) xs) ≡ false → xs ≡ [])
    × (xs ≡ [] → is_some (find (nat_le 0) xs) ≡ false)
none-from_0 [] = (λ _. refl, λ _. refl)
none-from_0 (x ∷ xs) =
    let some : is_some (find (nat_le 0) (x ∷ xs)) ≡ true = rw (le-leb 0 x (omega arith)) refl in
    (λ none. absurd (true≢false (sym some ∙ none)), λ empty. absurd (cons-nil x xs empty))

-- the test of one bit
pub bit-test : (words : List ℕ) (k word : ℕ) → word ≡ get_or words (k / 64) 0
    → (bit_and (word / 2 ^ (k % 64)) 1 == 1) ≡ has_bit words k
unfolding has_bit is_one
bit-test words k word at = rw (shr_and_one, at) refl
