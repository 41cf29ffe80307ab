-- The laws of sets: unions, the next index, bounds and bytes.
--
-- The key idea: each law goes by induction over the rising indexes, which are all below the size, so each of them is
-- the
-- index of a cell of the shape.
use Rattle.std.proofs.Common.{◌≡◌, ℕ, ◌+◌, ◌<◌, ◌≤◌}
use Rattle.std.proofs.Common.{Bool, true, false, ◌||◌, ◌==◌, nat_le, List, [], ◌∷◌, ◌++◌, length}
use Rattle.std.proofs.Common.{fold, Some, None, refl, sym, ap, ap₂, subst, ◌∙◌, arith, inl, inr}
use Rattle.std.proofs.Common.{true≢false, eq-eqb, eqb-true, leb-true, append_assoc, length-append, length-drop}
use Rattle.std.proofs.Common.{◌^◌}
use Rattle.std.specs.List.{find, list_any, flat_map}
use Rattle.std.specs.Int.{w32, from_be_bytes}
use Rattle.std.proofs.lemmas.Bool.{cases_Bool, cases_lt, or_cases, or_from, or_left, or_right, and_parts, leb-false}
use Rattle.std.proofs.lemmas.Bool.{false_from_ne_true}
use Rattle.std.proofs.lemmas.Nat.{from_be_bytes-to_be_bytes_4}
use Rattle.std.proofs.lemmas.Option.{same_Some}
use Rattle.sz_cells.specs.declared.Bounds.{Bounds}
use Rattle.sz_cells.specs.declared.Cell.{Cell}
use Rattle.sz_cells.specs.declared.Run.{Run}
use Rattle.sz_cells.specs.Extent.{Extent, size_of, holds, index_of, cell_of}
use Rattle.sz_cells.specs.Cells.{Cells, cells_where, is_same, has}
use Rattle.sz_cells.specs.Rising.{AreRising}
use Rattle.sz_cells.specs.Runs.{AreRunsFrom, indexes_of, runs_of, bounds_of_cell, bounds_with}
use Rattle.sz_cells.specs.Runs.{bounds_of_indexes}
use Rattle.sz_cells.specs.SetBytes.{four_bytes, run_bytes, set_bytes}
use Rattle.sz_cells.specs.Laws.{RisingIndexesAreSets, SetsHaveRisingIndexes, UnionsHaveTheCellsOfBoth, OneMoreCell}
use Rattle.sz_cells.specs.Laws.{NextIsLeast, NoneIsNext, RunsSpellSets, RunsAreOne, IsInBounds, BoundsHaveEachCell}
use Rattle.sz_cells.specs.Laws.{BoundsAreSmallest, NoBoundsOfNoCell, BytesAreOneSet, OneSetBegins}
use Rattle.sz_cells.proofs.Shapes.{sides}
use Rattle.sz_cells.proofs.Sets.{is_same-true, filter-range_ext, has-cells_where_any, has-index}
use Rattle.sz_cells.proofs.Sets.{cell-index}
use Rattle.sz_cells.proofs.Rising.{rising-filter, any-rising_below, rising-below, filter-rising}
use Rattle.sz_cells.proofs.Runs.{runs-length, runs_of-longest, runs_of-spelled, spelled-runs_of}

-- ---- what sets have

pub rising-sets : RisingIndexesAreSets
rising-sets set rises =
    let e : Extent = set.extent in
    let make : List ℕ → Cells = λ xs. record { extent = e; indexes = xs } in
    ap make
    (sym (rising-filter (size_of e) 0 (size_of e) set.indexes (omega arith) rises)
    ∙ filter-range_ext (λ k. list_any (λ x. x == k) set.indexes) (λ k. has set (cell_of e k)) 0 (size_of e)
    (λ k low high. sym (has-index set e k refl (omega arith))))

pub sets-rising : SetsHaveRisingIndexes
sets-rising e test = filter-rising (λ k. test (cell_of e k)) (size_of e) 0 (size_of e) (omega arith)

-- a cell that the shape does not hold is in no set of it
has-outside : (set : Cells) (c : Cell) → holds set.extent c ≡ false → has set c ≡ false
has-outside set c out = rw out refl

-- a set by a test that no cell outside of its shape passes has the cells that pass it
has-passing : (e : Extent) (p : Cell → Bool) (c : Cell) → (holds e c ≡ false → p c ≡ false)
    → has (cells_where e p) c ≡ p c
has-passing e p c outside =
    has-cells_where_any e p c
    ∙ (elim (cases_Bool (holds e c)) [ inl held ↦ rw held refl | inr out ↦ rw (out, outside out) refl ])

pub union-has : UnionsHaveTheCellsOfBoth
union-has a b c same =
    has-passing a.extent (λ d. has a d || has b d) c
    (λ out. or_from (has a c) (has b c) (has-outside a c out)
    (has-outside b c (subst (λ (e : Extent). holds e c ≡ false) (sym same) out)))

-- a cell outside of a shape is no cell of it
same-outside : (e : Extent) (c cell : Cell) → holds e cell ≡ true → holds e c ≡ false → is_same c cell
    ≡ false
same-outside e c cell held out =
    false_from_ne_true (is_same c cell) (λ same. true≢false (sym held
    ∙ ap (holds e) (sym (is_same-true c cell same)) ∙ out))

pub with_cell-has : OneMoreCell
with_cell-has set cell c held =
    has-passing set.extent (λ d. has set d || is_same d cell) c
    (λ out. or_from (has set c) (is_same c cell) (has-outside set c out) (same-outside set.extent c cell held out))

-- ---- the next index

-- the first of rising numbers that is not below a number is the least of them
next-of : (from i : ℕ) (xs : List ℕ) (least bound : ℕ) → AreRising least bound xs → find (nat_le from) xs
    ≡ Some i
    → (from ≤ i) × (list_any (λ x. x == i) xs ≡ true)
    × ((k : ℕ) → from ≤ k → list_any (λ x. x == k) xs ≡ true → i ≤ k)
next-of from i [] least bound rises found = cc
next-of from i (x ∷ xs) least bound rises found =
    elim (cases_Bool (nat_le from x)) [
      | inl passes ↦
          let same : x ≡ i = same_Some x i (rw passes at found) in (
            omega (arith, leb-true from x passes),
            or_left (x == i) (list_any (λ y. y == i) xs) (eq-eqb x i same),
            λ k low there.
                elim (or_cases (x == k) (list_any (λ y. y == k) xs) there) [
                  | inl here ↦ omega (arith, eqb-true x k here)
                  | inr later ↦
                      elim (cases_lt k (x + 1)) [
                        | inl under ↦ absurd (true≢false (sym later ∙ any-rising_below (x + 1) bound k xs rises.2
                            under))
                        | inr over ↦ omega arith
                      ]
                ],
          )
      | inr fails ↦
          let rest = next-of from i xs (x + 1) bound rises.2 (rw fails at found) in (
            rest.0,
            or_right (x == i) (list_any (λ y. y == i) xs) rest.1,
            λ k low there.
                elim (or_cases (x == k) (list_any (λ y. y == k) xs) there) [
                  | inl here ↦ absurd (omega (arith, eqb-true x k here, leb-false from x fails))
                  | inr later ↦ rest.2 k low later
                ],
          )
    ]

-- where none is found, each number is below
none-of : (from k : ℕ) (xs : List ℕ) → find (nat_le from) xs ≡ None → list_any (λ x. x == k) xs ≡ true
    → k < from
none-of from k [] found there = absurd (true≢false (sym there))
none-of from k (x ∷ xs) found there =
    elim (cases_Bool (nat_le from x)) [
      | inl passes ↦ let never : Some x ≡ None = rw passes at found in cc
      | inr fails ↦
          elim (or_cases (x == k) (list_any (λ y. y == k) xs) there) [
            | inl here ↦ omega (arith, eqb-true x k here, leb-false from x fails)
            | inr later ↦ none-of from k xs (rw fails at found) later
          ]
    ]

pub next-least : NextIsLeast
next-least set from i rises found = next-of from i set.indexes 0 (size_of set.extent) rises found

pub none-next : NoneIsNext
none-next set from k found there = none-of from k set.indexes found there

-- ---- runs

pub runs-spell : RunsSpellSets
runs-spell set rises = record {
  longest = runs_of-longest 0 (size_of set.extent) set.indexes rises;
  spelled = spelled-runs_of 0 (size_of set.extent) set.indexes rises;
}

pub runs-one : RunsAreOne
runs-one set runs spells =
    sym (runs_of-spelled 0 (size_of set.extent) runs spells.longest) ∙ ap runs_of spells.spelled

-- ---- bounds

-- a cell that was within is within where a cell was added, and so is the one that was added
within-kept : (b : Bounds) (x c : Cell) → IsInBounds b c → IsInBounds (bounds_with b x) c
within-kept b x c h = (omega arith, omega arith, omega arith, omega arith)

within-added : (b : Bounds) (c : Cell) → IsInBounds (bounds_with b c) c
within-added b c = (omega arith, omega arith, omega arith, omega arith)

fold-kept : (e : Extent) (ks : List ℕ) (b : Bounds) (c : Cell) → IsInBounds b c
    → IsInBounds (fold (λ x k. bounds_with x (cell_of e k)) b ks) c
fold-kept e [] b c h = h
fold-kept e (k ∷ ks) b c h = fold-kept e ks (bounds_with b (cell_of e k)) c (within-kept b (cell_of e k) c h)

fold-has : (e : Extent) (ks : List ℕ) (b : Bounds) (i : ℕ) → list_any (λ x. x == i) ks ≡ true
    → IsInBounds (fold (λ x k. bounds_with x (cell_of e k)) b ks) (cell_of e i)
fold-has e [] b i there = absurd (true≢false (sym there))
fold-has e (k ∷ ks) b i there =
    elim (or_cases (k == i) (list_any (λ x. x == i) ks) there) [
      | inl here ↦
          fold-kept e ks (bounds_with b (cell_of e k)) (cell_of e i)
          (subst (λ (j : ℕ). IsInBounds (bounds_with b (cell_of e k)) (cell_of e j)) (eqb-true k i here)
          (within-added b (cell_of e k)))
      | inr later ↦ fold-has e ks (bounds_with b (cell_of e k)) i later
    ]

bounds-of_has : (e : Extent) (xs : List ℕ) (b : Bounds) (i : ℕ) → bounds_of_indexes e xs ≡ Some b
    → list_any (λ x. x == i) xs ≡ true → IsInBounds b (cell_of e i)
bounds-of_has e [] b i is there = absurd (true≢false (sym there))
bounds-of_has e (k ∷ ks) b i is there =
    let start : Bounds = bounds_of_cell (cell_of e k) in
    let all : Bounds = fold (λ x j. bounds_with x (cell_of e j)) start ks in
    subst (λ (r : Bounds). IsInBounds r (cell_of e i)) (same_Some all b is)
    (elim (or_cases (k == i) (list_any (λ x. x == i) ks) there) [
      | inl here ↦
          fold-kept e ks start (cell_of e i)
          (subst (λ (j : ℕ). IsInBounds start (cell_of e j)) (eqb-true k i here) (
            omega arith,
            omega arith,
            omega arith,
            omega arith,
          ))
      | inr later ↦ fold-has e ks start i later
    ])

pub bounds-have : BoundsHaveEachCell
bounds-have set b c is there =
    let both = and_parts (holds set.extent c) (list_any (λ k. k == index_of set.extent c) set.indexes) there in
    subst (IsInBounds b) (cell-index set.extent c both.0) (bounds-of_has set.extent set.indexes b
    (index_of set.extent c)
    is both.1)

-- one rectangle is in another
abbrev IsIn : Bounds → Bounds → Type 0
IsIn b other = (other.top ≤ b.top) × (other.left ≤ b.left) × (b.bottom ≤ other.bottom)
    × (b.right ≤ other.right)

fold-in : (e : Extent) (ks : List ℕ) (b other : Bounds) → IsIn b other
    → ((i : ℕ) → list_any (λ x. x == i) ks ≡ true → IsInBounds other (cell_of e i))
    → IsIn (fold (λ x k. bounds_with x (cell_of e k)) b ks) other
fold-in e [] b other h all = h
fold-in e (k ∷ ks) b other h all =
    let here = all k (or_left (k == k) (list_any (λ x. x == k) ks) (eq-eqb k k refl)) in
    fold-in e ks (bounds_with b (cell_of e k)) other (omega arith, omega arith, omega arith, omega arith)
    (λ i there. all i (or_right (k == i) (list_any (λ x. x == i) ks) there))

bounds-of_in : (e : Extent) (xs : List ℕ) (b other : Bounds) → bounds_of_indexes e xs ≡ Some b
    → ((i : ℕ) → list_any (λ x. x == i) xs ≡ true → IsInBounds other (cell_of e i)) → IsIn b other
bounds-of_in e [] b other is all = cc
bounds-of_in e (k ∷ ks) b other is all =
    let start : Bounds = bounds_of_cell (cell_of e k) in
    let whole : Bounds = fold (λ x j. bounds_with x (cell_of e j)) start ks in
    let here = all k (or_left (k == k) (list_any (λ x. x == k) ks) (eq-eqb k k refl)) in
    subst (λ (r : Bounds). IsIn r other) (same_Some whole b is)
    (fold-in e ks start other (here.0, here.1, here.2, here.3)
    (λ i there. all i (or_right (k == i) (list_any (λ x. x == i) ks) there)))

pub bounds-smallest : BoundsAreSmallest
bounds-smallest set b other rises is all =
    bounds-of_in set.extent set.indexes b other is
    (λ i there.
    all (cell_of set.extent i)
    (has-index set set.extent i refl (rising-below 0 (size_of set.extent) i set.indexes rises there) ∙ there))

bounds-of_none : (e : Extent) (xs : List ℕ) → bounds_of_indexes e xs ≡ None → xs ≡ []
bounds-of_none e [] is = refl
bounds-of_none e (k ∷ ks) is = cc

pub bounds-none : NoBoundsOfNoCell
bounds-none set is = bounds-of_none set.extent set.indexes is

-- ---- bytes

-- lists of one length that begin one list are one, and so is what follows them
pub split-same : (xs ys x y : List ℕ) → length xs ≡ length ys → xs ++ x ≡ ys ++ y → (xs ≡ ys) × (x ≡ y)
split-same [] [] x y long same = (refl, same)
split-same [] (b ∷ ys) x y long same = absurd (omega arith)
split-same (a ∷ xs) [] x y long same = absurd (omega arith)
split-same (a ∷ xs) (b ∷ ys) x y long same =
    let head : a ≡ b = cc in
    let tail : xs ++ x ≡ ys ++ y = cc in
    let rest = split-same xs ys x y (omega arith) tail in
    (ap₂ (λ (z : ℕ) (zs : List ℕ). z ∷ zs) head rest.0, rest.1)

-- a number of four bytes is known by them, whatever follows
four-same : (m n : ℕ) (x y : List ℕ) → m < 2 ^ 32 → n < 2 ^ 32 → four_bytes m ++ x ≡ four_bytes n ++ y
    → (m ≡ n) × (x ≡ y)
four-same m n x y small little same =
    let parts = split-same (four_bytes m) (four_bytes n) x y refl same in (
      sym (from_be_bytes-to_be_bytes_4 m small) ∙ ap (from_be_bytes w32) parts.0 ∙ from_be_bytes-to_be_bytes_4 n
          little,
      parts.1,
    )

-- so many runs are known by their bytes, whatever follows
runs-same : (least less bound : ℕ) (rs ss : List Run) (x y : List ℕ) → bound ≤ 1048576
    → AreRunsFrom least bound rs → AreRunsFrom less bound ss
    → length rs ≡ length ss → flat_map run_bytes rs ++ x ≡ flat_map run_bytes ss ++ y → (rs ≡ ss)
    × (x ≡ y)
runs-same least less bound [] [] x y few are be long same = (refl, same)
runs-same least less bound [] (s ∷ ss) x y few are be long same = absurd (omega arith)
runs-same least less bound (r ∷ rs) [] x y few are be long same = absurd (omega arith)
runs-same least less bound (r ∷ rs) (s ∷ ss) x y few are be long same =
    let whole : four_bytes r.first ++ (four_bytes r.last ++ (flat_map run_bytes rs ++ x)) ≡ four_bytes
    s.first ++ (four_bytes s.last ++ (flat_map run_bytes ss ++ y)) =
    simp append_assoc at same in
    let first = four-same r.first s.first _ _ (omega (arith, are.1, are.2)) (omega (arith, be.1, be.2)) whole in
    let last = four-same r.last s.last _ _ (omega (arith, are.2)) (omega (arith, be.2)) first.1 in
    let rest = runs-same (r.last + 2) (s.last + 2) bound rs ss x y few are.3 be.3 (omega arith) last.1 in
    let run : ℕ → ℕ → Run = λ f l. record { first = f; last = l } in
    (ap₂ (λ (z : Run) (zs : List Run). z ∷ zs) (ap₂ run first.0 last.0) rest.0, rest.1)

pub bytes-one : BytesAreOneSet
bytes-one e a b x y within is_a is_b same =
    let few = (sides e within).5 in
    let runs_a = runs_of-longest 0 (size_of e) a.indexes is_a.rising in
    let runs_b = runs_of-longest 0 (size_of e) b.indexes is_b.rising in
    let whole : four_bytes (length (runs_of a.indexes)) ++ (flat_map run_bytes (runs_of a.indexes) ++ x)
    ≡ four_bytes (length (runs_of b.indexes)) ++ (flat_map run_bytes (runs_of b.indexes) ++ y) =
    simp append_assoc at same in
    let count =
    four-same (length (runs_of a.indexes)) (length (runs_of b.indexes)) _ _
    (omega (arith, few, runs-length (size_of e) (runs_of a.indexes) runs_a))
    (omega (arith, few, runs-length (size_of e) (runs_of b.indexes) runs_b)) whole in
    let runs = runs-same 0 0 (size_of e) (runs_of a.indexes) (runs_of b.indexes) x y few runs_a runs_b count.0 count.1
    in
    let indexes : a.indexes ≡ b.indexes =
    sym (spelled-runs_of 0 (size_of e) a.indexes is_a.rising) ∙ ap (flat_map indexes_of) runs.0
    ∙ spelled-runs_of 0 (size_of e) b.indexes is_b.rising in
    let make : Extent → List ℕ → Cells = λ f xs. record { extent = f; indexes = xs } in
    (ap₂ make (is_a.extent ∙ sym is_b.extent) indexes, runs.1)

pub begins-one : OneSetBegins
begins-one e bytes at next other a b within begins_a begins_b inside there =
    let one = bytes-one e a b begins_a.rest begins_b.rest within begins_a.is_set begins_b.is_set (sym begins_a.spelled
    ∙ begins_b.spelled) in
    let long = ap length begins_a.spelled ∙ length-append (set_bytes a) begins_a.rest in
    let some : 4 ≤ length (set_bytes a) = rw (length-append (four_bytes (length (runs_of a.indexes)))
    (flat_map run_bytes (runs_of a.indexes))) (omega arith) in
    let end_a = ap length begins_a.ends in
    let end_b = ap length begins_b.ends in
    let rests = ap length one.1 in (
      one.0,
      omega (arith, length-drop next bytes, length-drop other bytes, end_a, end_b, rests),
      omega (arith, length-drop next bytes, length-drop at bytes, end_a, long, some),
    )
