-- The rows between those of a set's first and last cells have each of its cells.
--
-- The key idea: the indexes of a set lie between those of its first and its last cell, and a cell of a higher row has a
-- higher index.
use Rattle.std.proofs.Common.{◌≡◌, ℕ, zero, suc, ◌+◌, ◌-◌, ◌*◌, ◌<◌, ◌≤◌, ◌==◌, true, false, true≢false}
use Rattle.std.proofs.Common.{List, [], ◌∷◌, length, get_or, fold, sym, ap, subst, ◌∙◌, arith, inl, inr}
use Rattle.std.specs.List.{list_any, flat_map, range_with_len, All}
use Rattle.std.proofs.Math.Nat.{mul-le-mul_left}
use Rattle.std.proofs.lemmas.Bool.{and_parts, cases_eq, cases_lt, or_cases}
use Rattle.std.proofs.lemmas.Bool.Decides.{nat_tests}
use Rattle.std.proofs.lemmas.List.Elements.{All-head, All-tail}
use Rattle.sz_cells.specs.declared.Cell.{Cell}
use Rattle.sz_cells.specs.declared.Run.{Run}
use Rattle.sz_cells.specs.declared.Bounds.{Bounds}
use Rattle.sz_cells.specs.Extent.{Extent, holds, index_of, cell_of, size_of}
use Rattle.sz_cells.specs.Cells.{Cells, has}
use Rattle.sz_cells.specs.Laws.{IsInBounds}
use Rattle.sz_cells.specs.Runs.{AreRunsFrom, Spells, bounds_with, covers, is_in, indexes_of}
use Rattle.sz_cells.proofs.Runs.{any-covers}
use Rattle.sz_cells.proofs.Sets.{cell-index, row-held}
use Rattle.sz_tables.specs.Sets.{IsRound, IsRoundRun}
use Rattle.sz_tables.specs.Tables.{spelled}

-- ---- the indexes of runs

inside : (r : Run) (k : ℕ) → is_in r k ≡ true → (r.first ≤ k) × (k ≤ r.last)
inside r k there = grind (there, arith, nat_tests)

pub covered-above : (least bound : ℕ) (runs : List Run) (k : ℕ) → AreRunsFrom least bound runs
    → covers runs k ≡ true → least ≤ k
covered-above least bound [] k runs some = absurd (true≢false (sym some))
covered-above least bound (r ∷ rest) k runs some =
    elim (or_cases (is_in r k) (covers rest k) some) [
      | inl here ↦ omega (arith, inside r k here, runs.0)
      | inr there ↦ omega (arith, covered-above (r.last + 2) bound rest k runs.3 there, runs.0, runs.1)
    ]

end-above : (least bound : ℕ) (r : Run) (rest : List Run) (d : Run) → AreRunsFrom least bound (r ∷ rest)
    → r.last ≤ (get_or (r ∷ rest) (length rest) d).last
end-above least bound r [] d runs = omega arith
end-above least bound r (s ∷ rest) d runs =
    omega (arith, end-above (r.last + 2) bound s rest d runs.3, runs.3.0, runs.3.1)

covered-below : (least bound : ℕ) (r : Run) (rest : List Run) (d : Run) (k : ℕ) → AreRunsFrom least bound (r ∷ rest)
    → covers (r ∷ rest) k ≡ true → k ≤ (get_or (r ∷ rest) (length rest) d).last
covered-below least bound r [] d k runs some =
    elim (or_cases (is_in r k) false some) [
      | inl here ↦ (inside r k here).1
      | inr there ↦ absurd (true≢false (sym there))
    ]
covered-below least bound r (s ∷ rest) d k runs some =
    elim (or_cases (is_in r k) (covers (s ∷ rest) k) some) [
      | inl here ↦ omega (arith, (inside r k here).1, end-above least bound r (s ∷ rest) d runs)
      | inr there ↦ covered-below (r.last + 2) bound s rest d k runs.3 there
    ]

first-below : (least bound : ℕ) (r : Run) (rest : List Run) (k : ℕ) → AreRunsFrom least bound (r ∷ rest)
    → covers (r ∷ rest) k ≡ true → r.first ≤ k
first-below least bound r rest k runs some =
    elim (or_cases (is_in r k) (covers rest k) some) [
      | inl here ↦ (inside r k here).0
      | inr there ↦ omega (arith, covered-above (r.last + 2) bound rest k runs.3 there, runs.1)
    ]

-- the index of a covered cell lies between the first index and the last
pub covered-between : (bound : ℕ) (runs : List Run) (d : Run) (k : ℕ) → AreRunsFrom 0 bound runs → 0 < length runs
    → covers runs k ≡ true → ((get_or runs 0 d).first ≤ k) × (k ≤ (get_or runs (length runs - 1) d).last)
covered-between bound [] d k runs some there = absurd (omega arith)
covered-between bound (r ∷ rest) d k runs some there =
    let same : length rest ≡ length (r ∷ rest) - 1 = omega arith in (
      first-below 0 bound r rest k runs there,
      subst (λ (n : ℕ). k ≤ (get_or (r ∷ rest) n d).last) same (covered-below 0 bound r rest d k runs there),
    )

-- ---- rows

-- of two cells of a shape the one of the lower index is not in a lower row
row-order : (cols a x b y : ℕ) → x < cols → y < cols → a * cols + x ≤ b * cols + y → a ≤ b
row-order cols a x b y left right order =
    elim (cases_lt b a) [
      | inl lower ↦
          let step : cols * (b + 1) ≤ cols * a = mul-le-mul_left cols (omega arith) in
          absurd (omega (arith, step))
      | inr fine ↦ fine
    ]

pub cell-between : (set : Cells) (runs : List Run) (d : Run) (top bottom c : Cell) → Spells runs set
    → 0 < length runs → holds set.extent top ≡ true → holds set.extent bottom ≡ true
    → index_of set.extent top ≡ (get_or runs 0 d).first
    → index_of set.extent bottom ≡ (get_or runs (length runs - 1) d).last → has set c ≡ true
    → (top.row ≤ c.row) × (c.row ≤ bottom.row) × (c.col < set.extent.cols)
cell-between set runs d top bottom c spells some top_held bottom_held top_is bottom_is there =
    let e = set.extent in
    let k = index_of e c in
    let both = and_parts (holds e c) (list_any (λ x. x == k) set.indexes) there in
    let covered : covers runs k ≡ true =
    sym (any-covers 0 (size_of e) k runs spells.longest)
    ∙ ap (list_any (λ x. x == k)) spells.spelled ∙ both.1 in
    let between = covered-between (size_of e) runs d k spells.longest some covered in
    let own = row-held e c both.0 in
    let high = row-held e top top_held in
    let low = row-held e bottom bottom_held in (
      row-order e.cols top.row top.col c.row c.col high.1 own.1 (omega (arith, top_is, between.0)),
      row-order e.cols c.row c.col bottom.row bottom.col own.1 low.1 (omega (arith, bottom_is, between.1)),
      own.1,
    )

-- ---- the cells of a run

-- a rectangle made wider by the cells of some indexes
abbrev widened : Extent → Bounds → List ℕ → Bounds
widened e b ks = fold (λ b k. bounds_with b (cell_of e k)) b ks

-- it keeps what it has
pub kept-wider : (e : Extent) (b : Bounds) (ks : List ℕ) (c : Cell) → IsInBounds b c → IsInBounds (widened e b ks) c
kept-wider e b [] c there = there
kept-wider e b (k ∷ ks) c there =
    kept-wider e (bounds_with b (cell_of e k)) ks c
    (omega (arith, there.0), omega (arith, there.1), omega (arith, there.2), omega (arith, there.3))

-- a rectangle made wider by a cell has it
own-cell : (b : Bounds) (c : Cell) → IsInBounds (bounds_with b c) c
own-cell b c = (omega arith, omega arith, omega arith, omega arith)

-- and has the cell of each index
has-indexed : (e : Extent) (b : Bounds) (f n : ℕ) (c : Cell) → holds e c ≡ true → f ≤ index_of e c
    → index_of e c < f + n → IsInBounds (widened e b (range_with_len f n)) c
has-indexed e b f zero c held low high = absurd (omega (arith, low, high))
has-indexed e b f (suc n) c held low high =
    let wider = bounds_with b (cell_of e f) in
    elim (cases_eq f (index_of e c)) [
      | inl here ↦
          let same : cell_of e f ≡ c = ap (cell_of e) here ∙ cell-index e c held in
          kept-wider e wider (range_with_len (f + 1) n) c
          (subst (λ (x : Cell). IsInBounds wider x) same (own-cell b (cell_of e f)))
      | inr later ↦ has-indexed e wider (f + 1) n c held (omega (arith, low, later)) (omega (arith, high))
    ]

pub round-run : (e : Extent) (b : Bounds) (r : Run) → r.first ≤ r.last → IsRoundRun e (widened e b (indexes_of r)) r
round-run e b r order c held low high =
    has-indexed e b r.first (r.last - r.first + 1) c held low (omega (arith, order, high))

-- a rectangle round each run has the cells that they cover
pub covered-round : (e : Extent) (b : Bounds) (runs : List Run) (c : Cell) → All (IsRoundRun e b) runs
    → holds e c ≡ true → covers runs (index_of e c) ≡ true → IsInBounds b c
covered-round e b [] c round held some = absurd (true≢false (sym some))
covered-round e b (r ∷ rest) c round held some =
    elim (or_cases (is_in r (index_of e c)) (covers rest (index_of e c)) some) [
      | inl here ↦
          let between = inside r (index_of e c) here in
          All-head (IsRoundRun e b) r rest round c held between.0 between.1
      | inr there ↦ covered-round e b rest c (All-tail (IsRoundRun e b) r rest round) held there
    ]

-- so it is round the set that they spell
pub spelled-round : (e : Extent) (b : Bounds) (runs : List Run) → AreRunsFrom 0 (size_of e) runs
    → All (IsRoundRun e b) runs → IsRound b (spelled e runs)
spelled-round e b runs longest round c there =
    let k = index_of e c in
    let both = and_parts (holds e c) (list_any (λ x. x == k) (flat_map indexes_of runs)) there in
    covered-round e b runs c round both.0 (sym (any-covers 0 (size_of e) k runs longest) ∙ both.1)
