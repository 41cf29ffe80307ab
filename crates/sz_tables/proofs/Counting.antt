-- Whether entries are apart, by counting.
--
-- The key idea: cells that are added to a set make it greater by as many as they are, unless one of them is there. So
-- the cells of all entries together are as many as those of each by itself where no cell is in two, and fewer where
-- one is.
use Rattle.std.proofs.Common.{◌≡◌, ℕ, ◌+◌, ◌<◌, ◌≤◌, Bool, true, false, ◌||◌, true≢false, List, [], ◌∷◌, ◌++◌}
use Rattle.std.proofs.Common.{length, take, drop, get_or, refl, sym, ap, ap₂, subst, ◌∙◌, arith, inl, inr}
use Rattle.std.specs.List.{filter, flat_map, list_any, range_with_len}
use Rattle.std.proofs.lemmas.Bool.{cases_Bool, false_from_ne_true, or_cases, or_left, or_right}
use Rattle.std.proofs.lemmas.List.{take-append-drop, take_more}
use Rattle.std.proofs.lemmas.List.FromFn.{length-range_with_len}
use Rattle.std.proofs.lemmas.Option.{unwrap_or-slice_get}
use Rattle.sz_cells.specs.declared.Cell.{Cell}
use Rattle.sz_cells.specs.declared.Run.{Run}
use Rattle.sz_cells.specs.Extent.{Extent, size_of, cell_of}
use Rattle.sz_cells.specs.Cells.{Cells, any_cell, cells_where, has, no_cells, union_of}
use Rattle.sz_cells.specs.Rising.{AreRising}
use Rattle.sz_cells.specs.Runs.{covers, indexes_of, runs_of}
use Rattle.sz_cells.specs.SetBytes.{IsSetOf}
use Rattle.sz_cells.specs.Words.{cells_at}
use Rattle.sz_cells.proofs.LawsOfSets.{rising-sets, union-has}
use Rattle.sz_frame.specs.Parts.{Entry}
use Rattle.sz_frame.specs.Fits.{AreApart}
use Rattle.sz_frame.specs.Stands.{has_entry}
use Rattle.sz_region.proofs.Meeting.{apart-more, has-entry_more, meets-none, meets-some, none-has}
use Rattle.sz_spec.specs.Values.{no_extent}
use Rattle.sz_tables.specs.Entries.{entry_at}
use Rattle.sz_tables.proofs.MetRuns.{runs-added, set-spelled}

-- ---- numbers that pass one of two tests

-- no more than pass either
count-most : (p q : ℕ → Bool) (xs : List ℕ)
    → length (filter (λ k. p k || q k) xs) ≤ length (filter p xs) + length (filter q xs)
count-most p q [] = omega arith
count-most p q (x ∷ xs) =
    let rest = count-most p q xs in
    elim (cases_Bool (p x)) [
      | inl t ↦ elim (cases_Bool (q x)) [
        | inl u ↦ rw (t, u) (omega (arith, rest))
        | inr v ↦ rw (t, v) (omega (arith, rest))
      ]
      | inr f ↦ elim (cases_Bool (q x)) [
        | inl u ↦ rw (f, u) (omega (arith, rest))
        | inr v ↦ rw (f, v) (omega (arith, rest))
      ]
    ]

-- as many where none passes both
count-apart : (p q : ℕ → Bool) (xs : List ℕ) → list_any p (filter q xs) ≡ false
    → length (filter (λ k. p k || q k) xs) ≡ length (filter p xs) + length (filter q xs)
count-apart p q [] none = refl
count-apart p q (x ∷ xs) none =
    elim (cases_Bool (q x)) [
      | inl u ↦
          let both : (p x || list_any p (filter q xs)) ≡ false = rw u at none in
          elim (cases_Bool (p x)) [
            | inl t ↦ absurd (true≢false (sym (or_left (p x) (list_any p (filter q xs)) t) ∙ both))
            | inr f ↦
                let rest : list_any p (filter q xs) ≡ false = rw f at both in
                rw (f, u) (omega (arith, count-apart p q xs rest))
          ]
      | inr v ↦
          let rest : list_any p (filter q xs) ≡ false = rw v at none in
          let later = count-apart p q xs rest in
          elim (cases_Bool (p x)) [
            | inl t ↦ rw (t, v) (omega (arith, later))
            | inr f ↦ rw (f, v) (omega (arith, later))
          ]
    ]

-- fewer where one passes both
count-met : (p q : ℕ → Bool) (xs : List ℕ) → list_any p (filter q xs) ≡ true
    → length (filter (λ k. p k || q k) xs) < length (filter p xs) + length (filter q xs)
count-met p q [] some = absurd (true≢false (sym some))
count-met p q (x ∷ xs) some =
    elim (cases_Bool (q x)) [
      | inl u ↦
          let both : (p x || list_any p (filter q xs)) ≡ true = rw u at some in
          elim (cases_Bool (p x)) [
            | inl t ↦ rw (t, u) (omega (arith, count-most p q xs))
            | inr f ↦
                let rest : list_any p (filter q xs) ≡ true = rw f at both in
                rw (f, u) (omega (arith, count-met p q xs rest))
          ]
      | inr v ↦
          let rest : list_any p (filter q xs) ≡ true = rw v at some in
          let later = count-met p q xs rest in
          elim (cases_Bool (p x)) [
            | inl t ↦ rw (t, v) (omega (arith, later))
            | inr f ↦ rw (f, v) (omega (arith, later))
          ]
    ]

filter-few : (p : ℕ → Bool) (xs : List ℕ) → length (filter p xs) ≤ length xs
filter-few p [] = omega arith
filter-few p (x ∷ xs) =
    let rest = filter-few p xs in
    elim (cases_Bool (p x)) [ inl t ↦ rw t (omega (arith, rest)) | inr f ↦ rw f (omega (arith, rest)) ]

-- ---- cells of sets

-- a set's indexes are those of its shape that pass its test
own-indexes : (s : Cells) (e : Extent) → s ≡ cells_where s.extent (has s) → s.extent ≡ e
    → s.indexes ≡ filter (λ k. has s (cell_of e k)) (range_with_len 0 (size_of e))
own-indexes s e own same =
    ap (λ (x : Cells). x.indexes) own
    ∙ ap (λ (x : Extent). filter (λ k. has s (cell_of x k)) (range_with_len 0 (size_of x))) same

any-own : (seen set : Cells) (e : Extent) → set ≡ cells_where set.extent (has set) → set.extent ≡ e
    → any_cell (has seen) set
    ≡ list_any (λ k. has seen (cell_of e k)) (filter (λ k. has set (cell_of e k)) (range_with_len 0 (size_of e)))
any-own seen set e own same =
    ap (λ (x : Extent). list_any (λ k. has seen (cell_of x k)) set.indexes) same
    ∙ ap (list_any (λ k. has seen (cell_of e k))) (own-indexes set e own same)

union-indexes : (seen set new : Cells) (e : Extent) → new ≡ union_of seen set → seen.extent ≡ e
    → new.indexes
    ≡ filter (λ k. has seen (cell_of e k) || has set (cell_of e k)) (range_with_len 0 (size_of e))
union-indexes seen set new e is same =
    ap (λ (x : Cells). x.indexes) is
    ∙ ap (λ (x : Extent). filter (λ k. has seen (cell_of x k) || has set (cell_of x k)) (range_with_len 0 (size_of x)))
    same

-- a set has no more cells than its shape
pub cells-few : (seen set new : Cells) (e : Extent) → new ≡ union_of seen set → seen.extent ≡ e
    → length new.indexes ≤ size_of e
cells-few seen set new e is same =
    omega (
      arith,
      ap length (union-indexes seen set new e is same),
      filter-few (λ k. has seen (cell_of e k) || has set (cell_of e k)) (range_with_len 0 (size_of e)),
      length-range_with_len 0 (size_of e),
    )

-- ---- entries that are apart

less : (a b : Bool) → (a ≡ true → b ≡ true) → b ≡ false → a ≡ false
less a b onward none = false_from_ne_true a (λ some. true≢false (sym (onward some) ∙ none))

wider : (es fs : List Entry) (o : Cell) → has_entry es o ≡ true → has_entry (es ++ fs) o ≡ true
wider [] fs o some = absurd (true≢false (sym some))
wider (e ∷ es) fs o some =
    elim (or_cases (has e.out o) (has_entry es o) some) [
      | inl here ↦ or_left (has e.out o) (has_entry (es ++ fs) o) here
      | inr rest ↦ or_right (has e.out o) (has_entry (es ++ fs) o) (wider es fs o rest)
    ]

-- those in front of others
pub apart-front : (es fs : List Entry) → AreApart (es ++ fs) → AreApart es
apart-front [] fs apart = tt
apart-front (e ∷ es) fs apart = (
  λ o there. less (has_entry es o) (has_entry (es ++ fs) o) (wider es fs o) (apart.0 o there),
  apart-front es fs apart.1,
)

-- a cell of those in front is not in the last one
apart-last : (es : List Entry) (x : Entry) (o : Cell) → AreApart (es ++ x ∷ []) → has_entry es o ≡ true
    → has x.out o ≡ true → ⊥
apart-last [] x o apart before there = true≢false (sym before)
apart-last (e ∷ es) x o apart before there =
    elim (or_cases (has e.out o) (has_entry es o) before) [
      | inl first ↦
          let both : has_entry (es ++ x ∷ []) o ≡ true =
          has-entry_more es x o ∙ or_right (has_entry es o) (has x.out o) there in
          true≢false (sym both ∙ apart.0 o first)
      | inr later ↦ apart-last es x o apart.1 later there
    ]

-- ---- counting

-- A set has the cells of some entries, whose sets have so many cells together: no fewer than it has, and as many where
-- the entries are apart, and only there.
pub record IsCounted (seen : Cells) (es : List Entry) (count : ℕ) : Type 0 where
  pub cells : (o : Cell) → has seen o ≡ has_entry es o
  pub most : length seen.indexes ≤ count
  pub apart : length seen.indexes ≡ count → AreApart es
  pub whole : AreApart es → length seen.indexes ≡ count

pub counted-none : (e : Extent) → IsCounted (no_cells e) [] 0
counted-none e = record {
  cells = λ o. none-has e o;
  most = omega arith;
  apart = λ same. tt;
  whole = λ apart. refl;
}

-- one entry more
pub counted-more : (e : Extent) (seen set new : Cells) (es : List Entry) (x : Entry) (count more : ℕ)
    → seen ≡ cells_where seen.extent (has seen) → seen.extent ≡ e → set ≡ cells_where set.extent (has set)
    → set.extent ≡ e → new ≡ union_of seen set → x.out ≡ set → more ≡ length set.indexes → IsCounted seen es count
    → IsCounted new (es ++ x ∷ []) (count + more)
counted-more e seen set new es x count more own same set_own set_same is at long so_far =
    let p : ℕ → Bool = λ k. has seen (cell_of e k) in
    let q : ℕ → Bool = λ k. has set (cell_of e k) in
    let range = range_with_len 0 (size_of e) in
    let first : length seen.indexes ≡ length (filter p range) = ap length (own-indexes seen e own same) in
    let second : length set.indexes ≡ length (filter q range) = ap length (own-indexes set e set_own set_same) in
    let all : length new.indexes ≡ length (filter (λ k. p k || q k) range) =
    ap length (union-indexes seen set new e is same) in
    let here : any_cell (has seen) set ≡ list_any p (filter q range) = any-own seen set e set_own set_same in
    let there : (o : Cell) → has x.out o ≡ has set o = λ o. ap (λ (s : Cells). has s o) at in
    let cells : (o : Cell) → has new o ≡ has_entry (es ++ x ∷ []) o =
    λ o. ap (λ (s : Cells). has s o) is ∙ union-has seen set o (set_same ∙ sym same)
    ∙ ap₂ (λ (a b : Bool). a || b) (so_far.cells o) (sym (there o)) ∙ sym (has-entry_more es x o) in
    elim (cases_Bool (any_cell (has seen) set)) [
      | inl met ↦
          let fewer = count-met p q range (sym here ∙ met) in
          let some = meets-some seen set set_own met in
          let most = so_far.most in
          record {
            cells = cells;
            most = omega (arith, first, second, all, fewer, long, most);
            apart = λ whole. absurd (omega (arith, first, second, all, fewer, long, most, whole));
            whole = λ apart. absurd (apart-last es x some.0 apart (sym (so_far.cells some.0) ∙ some.2)
                (there some.0 ∙ some.1));
          }
      | inr none ↦
          let both = count-apart p q range (sym here ∙ none) in
          let most = so_far.most in
          record {
            cells = cells;
            most = omega (arith, first, second, all, both, long, most);
            apart = λ whole. apart-more es x (so_far.apart (omega (arith, first, second, all, both, long, whole)))
                (λ o inside. sym (so_far.cells o) ∙ meets-none seen set o set_own none (sym (there o) ∙ inside));
            whole = λ apart.
                omega (arith, first, second, all, both, long, so_far.whole (apart-front es (x ∷ []) apart));
          }
    ]

-- a set of a shape is that of its cells
own-set : (e : Extent) (set : Cells) → IsSetOf e set → set ≡ cells_where set.extent (has set)
own-set e set is =
    rising-sets set (subst (λ (f : Extent). AreRising 0 (size_of f) set.indexes) (sym is.extent) is.rising)

-- the row of a table, by the runs of its set
pub counted-row : (e : Extent) (seen set new : Cells) (es : List Entry) (row count cells : ℕ) (runs : List Run)
    → row < length es → (entry_at es row).out ≡ set → IsSetOf e set → runs ≡ runs_of set.indexes
    → cells ≡ length (flat_map indexes_of runs) → seen ≡ cells_where seen.extent (has seen) → seen.extent ≡ e
    → new ≡ union_of seen (cells_at seen.extent (covers runs)) → IsCounted seen (take row es) count
    → IsCounted new (take (row + 1) es) (count + cells) × (length new.indexes ≤ size_of e) × (new.extent ≡ e)
counted-row e seen set new es row count cells runs inside named is at long own same added so_far =
    let d : Entry = record { out = no_cells no_extent; payload = [] } in
    let x = get_or es row d in
    let union : new ≡ union_of seen set = runs-added e set seen new runs is same at added in
    let here : x.out ≡ set = ap (λ (y : Entry). y.out) (sym (unwrap_or-slice_get es row d)) ∙ named in
    let size : cells ≡ length set.indexes =
    long ∙ ap (λ (rs : List Run). length (flat_map indexes_of rs)) at ∙ ap length (set-spelled e set is).spelled in (
      subst (λ (xs : List Entry). IsCounted new xs (count + cells)) (sym (take_more es row d inside))
          (counted-more e seen set new (take row es) x count cells own same (own-set e set is) is.extent union here
          size so_far),
      cells-few seen set new e union same,
      ap (λ (s : Cells). s.extent) union ∙ same,
    )

-- entries that have more cells each by itself than there are
pub too-many : (seen : Cells) (es : List Entry) (n count size : ℕ) → IsCounted seen (take n es) count
    → length seen.indexes ≤ size → size < count → AreApart es → ⊥
too-many seen es n count size counted few past apart =
    let whole = counted.whole (apart-front (take n es) (drop n es) (subst AreApart (sym (take-append-drop n es)) apart))
    in
    omega (arith, whole, few, past)
