-- Asked cells in rows and rectangles, and in the sets that payloads spell.
use Rattle.std.proofs.Common.{◌≡◌, ℕ, ◌+◌, ◌*◌, ◌<◌, ◌≤◌, Bool, true, false, ◌&&◌, sym, ap, ◌∙◌, arith}
use Rattle.std.proofs.Common.{nat_le, nat_lt}
use Rattle.std.specs.List.{list_any}
use Rattle.std.proofs.lemmas.Bool.Decides.{nat_tests}
use Rattle.sz_cells.specs.declared.Bounds.{Bounds}
use Rattle.sz_cells.specs.declared.Cell.{Cell}
use Rattle.sz_cells.specs.Extent.{Extent, size_of, holds, cell_of}
use Rattle.sz_cells.specs.Cells.{Cells, any_cell, cells_where, has}
use Rattle.sz_cells.specs.Rising.{AreRising}
use Rattle.sz_cells.specs.Runs.{is_in}
use Rattle.sz_cells.proofs.Sets.{index-cell, cell-held, row-held, any_cell-ext}
use Rattle.sz_spec.specs.Rectangles.{is_in_rectangle, is_in_row}
use Rattle.sz_spec.proofs.CodeSquare.{between-row, is_in_rows}
use Rattle.sz_tables.proofs.MetRuns.{any-rising}

-- below the next number, and up to this one
up-to : (k n : ℕ) → nat_lt k (n + 1) ≡ nat_le k n
up-to k n = grind (arith, nat_tests)

-- the run of a row has an asked index where the row has an asked cell
pub row-met : (e : Extent) (from : Cells) (row left right : ℕ) → from.extent ≡ e
    → AreRising 0 (size_of from.extent) from.indexes → left ≤ right → right < e.cols
    → list_any (is_in (record { first = row * e.cols + left; last = row * e.cols + right })) from.indexes
    ≡ any_cell (is_in_row row left right) from
row-met e from row left right same rises order within =
    let cols = from.extent.cols in
    rw (← same)
    (any-rising (is_in (record { first = row * cols + left; last = row * cols + right }))
    (λ k. is_in_row row left right (cell_of from.extent k)) 0 (size_of from.extent) from.indexes rises
    (λ k below.
    let x = cell_of from.extent k in
    let held = row-held from.extent x (cell-held from.extent k below) in
    let index : x.row * cols + x.col ≡ k = index-cell from.extent k in
    let between = between-row cols row left right x held.1 order (rw same within) in
    ap (λ b. nat_le (row * cols + left) k && b) (sym (up-to k (row * cols + right)))
    ∙ ap (λ (n : ℕ). nat_le (row * cols + left) n && nat_lt n (row * cols + right + 1)) (sym index)
    ∙ between))

-- no row yet, a row of the rectangle, and all rows of it
pub no-rows : (top left right : ℕ) (x : Cell) → is_in_rows top top left right x ≡ false
no-rows top left right x = grind (arith, nat_tests)

pub row-inside : (b : Bounds) (row : ℕ) (x : Cell) → b.top ≤ row → row ≤ b.bottom
    → is_in_row row b.left b.right x ≡ true → is_in_rectangle b x ≡ true
row-inside b row x low high inside = grind (arith, nat_tests)

pub all-rows : (b : Bounds) (row : ℕ) → row ≡ b.bottom + 1 → (x : Cell)
    → is_in_rectangle b x ≡ is_in_rows b.top row b.left b.right x
all-rows b row last x = rw last (grind (arith, nat_tests))

-- tests that agree on the cells of the shape are met alike
pub met-held : (from : Cells) (e : Extent) (p q : Cell → Bool) → from ≡ cells_where e (has from)
    → ((x : Cell) → holds e x ≡ true → p x ≡ q x) → any_cell p from ≡ any_cell q from
met-held from e p q own same =
    ap (any_cell p) own ∙ any_cell-ext e (has from) p q (λ x held there. same x held) ∙ sym (ap (any_cell q) own)
