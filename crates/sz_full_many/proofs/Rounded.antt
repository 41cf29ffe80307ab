-- Rectangles round sets.
--
-- The key idea: a walk over the cells of a set meets the next one each time, and between two it meets none; so a
-- rectangle that was made wider for each is round all whose numbers are below the one to which the walk has come.
use Rattle.std.proofs.Common.{◌≡◌, ℕ, ◌+◌, ◌<◌, ◌≤◌, true, false, true≢false, Option, Some, None}
use Rattle.std.proofs.Common.{sym, ap, subst, ◌∙◌, arith, inl, inr}
use Rattle.std.specs.Prelude.{IsSomeAnd, IfSome}
use Rattle.std.proofs.lemmas.Bool.{cases_lt, and_parts}
use Rattle.sz_cells.specs.declared.Bounds.{Bounds}
use Rattle.sz_cells.specs.declared.Cell.{Cell}
use Rattle.sz_cells.specs.Extent.{Extent, size_of, holds, index_of, cell_of}
use Rattle.sz_cells.specs.Cells.{Cells, has}
use Rattle.sz_cells.specs.Laws.{IsInBounds}
use Rattle.sz_cells.proofs.Sets.{cell-index, index-below}
use Rattle.sz_frame.proofs.Added.{IsNext}

-- the rectangle is round each cell of the set whose number is below n
abbrev pub IsRoundBelow : Cells → ℕ → Option Bounds → Type 0
IsRoundBelow set n bounds = (k : ℕ) → k < n → has set (cell_of set.extent k) ≡ true
    → IsSomeAnd bounds (λ b. IsInBounds b (cell_of set.extent k))

wider-kept : (bounds : Option Bounds) (b : Bounds) (c : Cell)
    → IfSome bounds (λ d. (x : Cell) → IsInBounds d x → IsInBounds b x)
    → IsSomeAnd bounds (λ d. IsInBounds d c) → IsInBounds b c
wider-kept None b c kept inside = absurd inside
wider-kept (Some d) b c kept inside = kept c inside

-- the next cell more
pub round-more : (set : Cells) (start i : ℕ) (cell : Cell) (bounds : Option Bounds) (b : Bounds)
    → IsNext set set.extent start i → IsRoundBelow set start bounds → cell ≡ cell_of set.extent i → IsInBounds b cell
    → IfSome bounds (λ d. (x : Cell) → IsInBounds d x → IsInBounds b x)
    → IsRoundBelow set (i + 1) (Some b)
round-more set start i cell bounds b next round at here kept k below there =
    elim (cases_lt k start) [
      | inl under ↦ wider-kept bounds b (cell_of set.extent k) kept (round k under there)
      | inr over ↦
          elim (cases_lt k i) [
            | inl between ↦ absurd (true≢false (sym there ∙ next.before k (omega arith) between))
            | inr past ↦
                let same : i ≡ k = omega arith in
                subst (IsInBounds b) (at ∙ ap (cell_of set.extent) same) here
          ]
    ]

-- no cell more
pub round-rest : (set : Cells) (start end : ℕ) (bounds : Option Bounds)
    → ((k : ℕ) → start ≤ k → k < end → has set (cell_of set.extent k) ≡ false) → IsRoundBelow set start bounds
    → IsRoundBelow set end bounds
round-rest set start end bounds none round k below there =
    elim (cases_lt k start) [
      | inl under ↦ round k under there
      | inr over ↦ absurd (true≢false (sym there ∙ none k (omega arith) below))
    ]

-- below the size are all cells
pub round-all : (set : Cells) (n : ℕ) (bounds : Option Bounds) → n ≡ size_of set.extent → IsRoundBelow set n bounds
    → (c : Cell) → has set c ≡ true → IsSomeAnd bounds (λ b. IsInBounds b c)
round-all set n bounds all round c there =
    let held = (and_parts _ _ there).0 in
    let own = cell-index set.extent c held in
    let below : index_of set.extent c < n = omega (arith, index-below set.extent c held) in
    let at : has set (cell_of set.extent (index_of set.extent c)) ≡ true = ap (has set) own ∙ there in
    subst (λ (x : Cell). IsSomeAnd bounds (λ b. IsInBounds b x)) own (round (index_of set.extent c) below at)
