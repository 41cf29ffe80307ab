-- Whether a set meets a bitmap, run by run, and whether no cell is in two entries, one after the other.
use Rattle.std.proofs.Common.{◌≡◌, ℕ, zero, suc, ◌+◌, ◌-◌, ◌<◌, ◌≤◌, Bool, true, false, ◌||◌, ◌&&◌, List, [], ◌∷◌, ◌++◌}
use Rattle.std.proofs.Common.{length, map, take, get_or, refl, sym, ap, ap₂, subst, ◌∙◌, arith, true≢false, inl, inr}
use Rattle.std.specs.List.{list_any, flat_map, range_with_len}
use Rattle.std.proofs.lemmas.List.{map-id, take_more}
use Rattle.std.proofs.lemmas.List.Concat.{flat_map-append}
use Rattle.std.proofs.lemmas.List.Folds.{list_any-append}
use Rattle.std.proofs.lemmas.List.FromFn.{map-range_with_len_more}
use Rattle.std.proofs.lemmas.Bool.{cases_Bool, or_cases, or_left, or_right, false_from_ne_true, and_parts}
use Rattle.sz_cells.specs.declared.Cell.{Cell}
use Rattle.sz_cells.specs.declared.Run.{Run}
use Rattle.sz_cells.specs.Extent.{Extent, size_of, holds, cell_of}
use Rattle.sz_cells.specs.Cells.{Cells, has, any_cell, cells_where, union_of, no_cells}
use Rattle.sz_cells.specs.Runs.{indexes_of}
use Rattle.sz_cells.proofs.Sets.{any_cell-true, any_cell-from}
use Rattle.sz_cells.proofs.LawsOfSets.{union-has}
use Rattle.sz_frame.specs.Parts.{Entry}
use Rattle.sz_frame.specs.Fits.{AreApart}
use Rattle.sz_frame.specs.Stands.{has_entry}

-- ---- ranges and runs

-- a number of a range passes a test
pub any-range_at : (p : ℕ → Bool) (i a n : ℕ) → a ≤ i → i < a + n → p i ≡ true → list_any p (range_with_len a n) ≡ true
any-range_at p i a zero low high passes = absurd (omega arith)
any-range_at p i a (suc n) low high passes =
    elim (cases_Bool (p a)) [
      | inl here ↦ or_left (p a) (list_any p (range_with_len (a + 1) n)) here
      | inr fails ↦
          or_right (p a) (list_any p (range_with_len (a + 1) n))
          (any-range_at p i (a + 1) n (low-next p i a low passes fails) (omega arith) passes)
    ]
  where
    low-next : (p : ℕ → Bool) (i a : ℕ) → a ≤ i → p i ≡ true → p a ≡ false → a + 1 ≤ i
    low-next p i a low passes fails =
        let other : (a ≡ i → ⊥) = λ same. true≢false (sym passes ∙ ap p (sym same) ∙ fails) in
        omega arith

-- one more number of a range
pub any-range_more : (p : ℕ → Bool) (a n : ℕ) → list_any p (range_with_len a (n + 1))
    ≡ (list_any p (range_with_len a n) || p (a + n))
any-range_more p a n =
    let more : range_with_len a (n + 1) ≡ range_with_len a n ++ (a + n) ∷ [] =
    sym (map-id (range_with_len a (n + 1))) ∙ map-range_with_len_more (λ (k : ℕ). k) a n (a + n) refl
    ∙ ap (λ (xs : List ℕ). xs ++ (a + n) ∷ []) (map-id (range_with_len a n)) in
    ap (list_any p) more ∙ list_any-append p (range_with_len a n) ((a + n) ∷ [])
    ∙ ap (λ (b : Bool). list_any p (range_with_len a n) || b) (or-none (p (a + n)))
  where
    or-none : (b : Bool) → (b || false) ≡ b
    or-none true = refl
    or-none false = refl

-- an index of a run passes a test
pub any-runs_at : (p : ℕ → Bool) (runs : List Run) (i : ℕ) (d : Run) → i < length runs
    → list_any p (indexes_of (get_or runs i d)) ≡ true → list_any p (flat_map indexes_of runs) ≡ true
any-runs_at p [] i d inside there = absurd (omega arith)
any-runs_at p (r ∷ runs) zero d inside there =
    list_any-append p (indexes_of r) (flat_map indexes_of runs)
    ∙ or_left (list_any p (indexes_of r)) (list_any p (flat_map indexes_of runs)) there
any-runs_at p (r ∷ runs) (suc i) d inside there =
    list_any-append p (indexes_of r) (flat_map indexes_of runs)
    ∙ or_right (list_any p (indexes_of r)) (list_any p (flat_map indexes_of runs))
    (any-runs_at p runs i d (omega arith) there)

-- ---- entries

-- one more entry
pub has-entry_more : (entries : List Entry) (e : Entry) (o : Cell)
    → has_entry (entries ++ e ∷ []) o ≡ (has_entry entries o || has e.out o)
has-entry_more entries e o =
    list_any-append (λ (x : Entry). has x.out o) entries (e ∷ [])
    ∙ ap (λ (b : Bool). has_entry entries o || b) (or-none (has e.out o))
  where
    or-none : (b : Bool) → (b || false) ≡ b
    or-none true = refl
    or-none false = refl

-- an entry behind others has none of their cells
pub apart-more : (entries : List Entry) (e : Entry) → AreApart entries
    → ((o : Cell) → has e.out o ≡ true → has_entry entries o ≡ false) → AreApart (entries ++ e ∷ [])
apart-more [] e apart none = (λ o there. refl, tt)
apart-more (x ∷ entries) e apart none = (
  λ o there.
      let later : has_entry entries o ≡ false = apart.0 o there in
      let other : has e.out o ≡ false =
      false_from_ne_true (has e.out o) (λ both. true≢false (sym (or_left (has x.out o) (has_entry entries o) there)
      ∙ none o both)) in
      has-entry_more entries e o ∙ ap₂ (λ (a b : Bool). a || b) later other,
  apart-more entries e apart.1
      (λ o there.
      false_from_ne_true (has_entry entries o) (λ both. true≢false (sym (or_right (has x.out o) (has_entry entries o)
      both) ∙ none o there))),
)

-- where an entry has a cell of one before it, they are not apart
pub not-apart : (entries : List Entry) (i : ℕ) (d : Entry) (o : Cell) → i < length entries
    → has (get_or entries i d).out o ≡ true → has_entry (take i entries) o ≡ true → AreApart entries → ⊥
not-apart [] i d o inside there before apart = omega arith
not-apart (e ∷ entries) zero d o inside there before apart = true≢false (sym before)
not-apart (e ∷ entries) (suc i) d o inside there before apart =
    elim (or_cases (has e.out o) (has_entry (take i entries) o) before) [
      | inl first ↦ true≢false (sym (entry-at entries i d o (omega arith) there) ∙ apart.0 o first)
      | inr later ↦ not-apart entries i d o (omega arith) there later apart.1
    ]
  where
    entry-at : (entries : List Entry) (i : ℕ) (d : Entry) (o : Cell) → i < length entries
        → has (get_or entries i d).out o ≡ true → has_entry entries o ≡ true
    entry-at [] i d o inside there = absurd (omega arith)
    entry-at (e ∷ entries) zero d o inside there = or_left (has e.out o) (has_entry entries o) there
    entry-at (e ∷ entries) (suc i) d o inside there =
        or_right (has e.out o) (has_entry entries o) (entry-at entries i d o (omega arith) there)

-- no cell is in the set of none
pub none-has : (e : Extent) (o : Cell) → has (no_cells e) o ≡ false
none-has e o = and-none (holds e o)
  where
    and-none : (b : Bool) → (b && false) ≡ false
    and-none true = refl
    and-none false = refl

-- where a set does not meet the cells so far, none of its cells is among them
pub meets-none : (seen set : Cells) (o : Cell) → set ≡ cells_where set.extent (has set)
    → any_cell (has seen) set ≡ false → has set o ≡ true → has seen o ≡ false
meets-none seen set o own none there =
    false_from_ne_true (has seen o) (λ both.
    let inside = and_parts (holds set.extent o) _ there in
    true≢false (sym (ap (any_cell (has seen)) own ∙ any_cell-from set.extent (has set) (has seen) o inside.0 there both)
    ∙ none))

-- where it does, one is
pub meets-some : (seen set : Cells) → set ≡ cells_where set.extent (has set) → any_cell (has seen) set ≡ true
    → (o : Cell) × (has set o ≡ true) × (has seen o ≡ true)
meets-some seen set own some =
    let found = any_cell-true set.extent (has set) (has seen) (sym (ap (any_cell (has seen)) own) ∙ some) in
    (found.0, found.2, found.3)
