-- The next cell of a row, or the first cell of the next row.
use Rattle.std.proofs.Common.{◌≡◌, ℕ, ◌+◌, ◌*◌, ◌/◌, ◌%◌, ◌<◌, ◌≤◌, sym, ap, ap₂}
use Rattle.std.proofs.Common.{◌∙◌, arith}
use Rattle.std.proofs.lemmas.Nat.{div-mul-add, mod-mul-add}
use Rattle.sz_cells.specs.declared.Cell.{Cell}
use Rattle.sz_cells.specs.Extent.{Extent, index_of, cell_of}
use Rattle.sz_cells.proofs.Sets.{row-held}
use Rattle.sz_frame.proofs.walks.cell_after.Goals as goal

-- the cell of a row and a column, by the number that they make
at-place : (e : Extent) (row col n : ℕ) → col < e.cols → n ≡ row * e.cols + col → record {
  row = row;
  col =
      col;
} ≡ cell_of e n
at-place e row col n low at =
    let make : ℕ → ℕ → Cell = λ r k. record { row = r; col = k } in
    ap₂ make (sym (ap (λ (m : ℕ). m / e.cols) at ∙ div-mul-add row e.cols col low)) (sym (ap (λ (m : ℕ). m
    % e.cols) at ∙ mod-mul-add row e.cols col low))

in-row : (e : Extent) (c : Cell) → c.col + 1 < e.cols → record { row = c.row; col = c.col + 1 } ≡ cell_of e
    (index_of e c + 1)
in-row e c low = at-place e c.row (c.col + 1) (index_of e c + 1) low (omega arith)

next-row : (e : Extent) (c : Cell) → c.col < e.cols → e.cols ≤ c.col + 1 → record {
  row = c.row + 1;
  col = 0;
} ≡ cell_of e (index_of e c + 1)
next-row e c low high =
    let last : e.cols ≡ c.col + 1 = omega arith in
    at-place e (c.row + 1) 0 (index_of e c + 1) (omega arith) (rw last (grind arith))

pub returns-then-cell-cols : goal.returns-then-cell-cols
returns-then-cell-cols c = in-row c.args.shape.now c.args.cell (rw (← ap (λ (e : Extent). e.cols) c.shape.view_is)
    c.if-cell-cols.true)

pub returns-else-cell-cols : goal.returns-else-cell-cols
returns-else-cell-cols c =
    next-row c.args.shape.now c.args.cell (row-held c.args.shape.now c.args.cell c.requires).1 (rw (← ap (λ (e :
    Extent). e.cols) c.shape.view_is) c.if-cell-cols.false)
