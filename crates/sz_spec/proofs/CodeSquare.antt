-- The cells of a square, added row by row.
--
-- The key idea: a set with more cells is a set made by a test, and two tests that agree on each cell of the shape make
-- one set. So each step is a fact about one cell: that its index is in a run of a row exactly where it is in that row
-- and between the run's columns, and that it is in the rows up to the next one exactly where it is in the rows so far
-- or in this row.
use Rattle.std.proofs.Common.{◌≡◌, ℕ, ◌+◌, ◌-◌, ◌*◌, ◌%◌, ◌<◌, ◌≤◌, min, max, Bool}
use Rattle.std.proofs.Common.{true, ◌&&◌, ◌||◌, ◌==◌, nat_le, nat_lt, ◌/◌, inl, inr, ap, ◌∙◌}
use Rattle.std.proofs.Common.{arith}
use Rattle.std.proofs.lemmas.Bool.Decides.{nat_tests}
use Rattle.std.specs.List.{list_any, range_with_len}
use Rattle.sz_cells.specs.declared.Bounds.{Bounds}
use Rattle.sz_cells.specs.declared.Cell.{Cell}
use Rattle.sz_cells.specs.declared.Run.{Run}
use Rattle.sz_cells.specs.Extent.{Extent, holds, is_extent, layer_of, height_of}
use Rattle.sz_cells.specs.Cells.{Cells, has, with_those, union_of}
use Rattle.sz_cells.specs.Runs.{run_cells}
use Rattle.std.proofs.Math.Bool.{or_assoc}
use Rattle.std.proofs.Math.Nat.{mul-le-mul_right}
use Rattle.std.proofs.lemmas.Bool.{cases_order}
use Rattle.std.proofs.lemmas.Nat.{div-add-mod'}
use Rattle.sz_cells.proofs.Shapes.{sides}
use Rattle.sz_cells.proofs.Sets.{row-held, has-cells_where, cells_where-ext, any-range}
use Rattle.sz_spec.specs.Rectangles.{is_in_row, is_in_rectangle}
use Rattle.sz_spec.specs.Operators.Clean.{is_in_square}

-- a cell is of the rows from one on that are before another, and from one column to another
abbrev pub is_in_rows : ℕ → ℕ → ℕ → ℕ → Cell → Bool
is_in_rows top end left right x =
    nat_le top x.row && nat_lt x.row end && nat_le left x.col && nat_le x.col right

-- adding those that pass a test, and then those that pass another
pub with-both : (set : Cells) (p q r : Cell → Bool)
    → ((x : Cell) → holds set.extent x ≡ true → (p x || q x) ≡ r x)
    → with_those (with_those set p) q ≡ with_those set r
with-both set p q r h =
    cells_where-ext set.extent (λ c. has (with_those set p) c || q c) (λ c. has set c || r c)
    (λ x held. ap (λ (b : Bool). b || q x) (has-cells_where set.extent (λ c. has set c || p c) x held)
    ∙ or_assoc (has set x) (p x) (q x) ∙ ap (λ (b : Bool). has set x || b) (h x held))

-- tests that agree add the same cells
pub with-same : (set : Cells) (p q : Cell → Bool) → ((x : Cell) → holds set.extent x ≡ true → p x ≡ q x)
    → with_those set p ≡ with_those set q
with-same set p q h =
    cells_where-ext set.extent (λ c. has set c || p c) (λ c. has set c || q c)
    (λ x held. ap (λ (b : Bool). has set x || b) (h x held))

-- an index lies between two of one row exactly where its cell is in the row and between the columns
pub between-row : (cols row left right : ℕ) (x : Cell) → x.col < cols → left ≤ right → right < cols
    → (nat_le (row * cols + left) (x.row * cols + x.col) && nat_lt (x.row * cols + x.col) (row * cols + right + 1))
    ≡ is_in_row row left right x
between-row cols row left right x narrow order within =
    elim (cases_order x.row row) [
      | inl same ↦ rw same (grind (arith, nat_tests))
      | inr apart ↦
          elim apart [
            | inl before ↦
                let next : x.row + 1 ≤ row = omega arith in
                let above : (x.row + 1) * cols ≤ row * cols = mul-le-mul_right cols next in
                grind (arith, nat_tests, above)
            | inr after ↦
                let next : row + 1 ≤ x.row = omega arith in
                let below : (row + 1) * cols ≤ x.row * cols = mul-le-mul_right cols next in
                grind (arith, nat_tests, below)
          ]
    ]

-- an index is in the run of a row exactly where its cell is in the row and between the columns
pub run-row : (cols row left right : ℕ) (x : Cell) → x.col < cols → left ≤ right → right < cols
    → list_any (λ k. k == x.row * cols + x.col)
    (range_with_len (row * cols + left) ((row * cols + right) - (row * cols + left) + 1)) ≡ is_in_row row left right x
run-row cols row left right x narrow order within =
    let first = row * cols + left in
    let ends : first + ((row * cols + right) - first + 1) ≡ row * cols + right + 1 = omega arith in
    any-range (x.row * cols + x.col) first ((row * cols + right) - first + 1)
    ∙ (rw ends (between-row cols row left right x narrow order within))

-- the run of a row, from one column to another
abbrev pub row_run : ℕ → ℕ → ℕ → ℕ → Run
row_run cols row left right = record { first = row * cols + left; last = row * cols + right }

-- adding the run of a row
pub with-run : (set : Cells) (row left right : ℕ) → left ≤ right → right < set.extent.cols
    → union_of set (run_cells set.extent (row_run set.extent.cols row left right))
    ≡ with_those set (is_in_row row left right)
with-run set row left right order within =
    let e = set.extent in
    let run = row_run e.cols row left right in
    cells_where-ext e (λ c. has set c || has (run_cells e run) c) (λ c. has set c || is_in_row row left right c)
    (λ x held. ap (λ (b : Bool). has set x || b)
    (rw held (run-row e.cols row left right x (row-held e x held).1 order within)))

-- one row more
pub rows-more : (top row left right : ℕ) (x : Cell) → top ≤ row
    → (is_in_rows top row left right x || is_in_row row left right x) ≡ is_in_rows top (row + 1) left right x
rows-more top row left right x low =
    elim (cases_order x.row row) [
      | inl same ↦ grind (arith, nat_tests)
      | inr apart ↦ elim apart [ inl before ↦ grind (arith, nat_tests) | inr after ↦ grind (arith, nat_tests) ]
    ]

-- the first row
pub rows-first : (set : Cells) (top row left right : ℕ) → row ≡ top
    → with_those set (is_in_row row left right) ≡ with_those set (is_in_rows top (row + 1) left right)
rows-first set top row left right first =
    with-same set (is_in_row row left right) (is_in_rows top (row + 1) left right)
    (λ x held. elim (cases_order x.row row) [
      | inl same ↦ grind (arith, nat_tests)
      | inr apart ↦ elim apart [ inl before ↦ grind (arith, nat_tests) | inr after ↦ grind (arith, nat_tests) ]
    ])

-- each further row
pub rows-next : (set : Cells) (top row left right : ℕ) → top ≤ row
    → with_those (with_those set (is_in_rows top row left right)) (is_in_row row left right)
    ≡ with_those set (is_in_rows top (row + 1) left right)
rows-next set top row left right low =
    with-both set (is_in_rows top row left right) (is_in_row row left right) (is_in_rows top (row + 1) left right)
    (λ x held. rows-more top row left right x low)

-- after the last row
pub rows-all : (set : Cells) (b : Bounds) (row : ℕ) → row ≡ b.bottom + 1
    → with_those set (is_in_rows b.top row b.left b.right) ≡ with_those set (is_in_rectangle b)
rows-all set b row last =
    with-same set (is_in_rows b.top row b.left b.right) (is_in_rectangle b)
    (λ x held. rw last (grind (arith, nat_tests)))

-- a number divided by a height is a layer exactly where it is one of the layer's rows
pub layer-rows : (n height layer : ℕ) → 0 < height
    → (n / height == layer) ≡ (nat_le (layer * height) n && nat_lt n (layer * height + height))
layer-rows n height layer some =
    let whole = div-add-mod' n height in
    elim (cases_order (n / height) layer) [
      | inl same ↦
          let at : layer * height + n % height ≡ n = rw same at whole in
          rw same (grind (arith, nat_tests, at))
      | inr apart ↦
          elim apart [
            | inl before ↦
                let next : n / height + 1 ≤ layer = omega arith in
                let above : (n / height + 1) * height ≤ layer * height = mul-le-mul_right height next in
                grind (arith, nat_tests, above, whole)
            | inr after ↦
                let next : layer + 1 ≤ n / height = omega arith in
                let below : (layer + 1) * height ≤ n / height * height = mul-le-mul_right height next in
                grind (arith, nat_tests, below, whole)
          ]
    ]

-- the rows and columns at most 1 from a cell, as far as its layer goes
abbrev pub square_round : Extent → Cell → Bounds
square_round e c = record {
  top = max (layer_of e c * height_of e) (c.row - 1);
  left = c.col - 1;
  bottom = min (layer_of e c * height_of e + height_of e - 1) (c.row + 1);
  right = min (e.cols - 1) (c.col + 1);
}

-- they are the square
pub square-rectangle : (e : Extent) (c x : Cell) → is_extent e ≡ true → holds e c ≡ true → holds e x ≡ true
    → is_in_rectangle (square_round e c) x ≡ is_in_square e c x
square-rectangle e c x h held other =
    let s = sides e h in
    let inside = row-held e x other in
    rw (layer-rows x.row (height_of e) (layer_of e c) s.1) (grind (arith, nat_tests))
