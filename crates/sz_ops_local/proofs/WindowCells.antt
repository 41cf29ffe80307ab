-- The cells of a window, row by row, and of a row, column by column.
--
-- The key idea: a window is a test of cells, and the rows so far and one more are the window with that row.
use Rattle.std.proofs.Common.{◌≡◌, ℕ, ◌+◌, ◌-◌, ◌*◌, ◌<◌, ◌≤◌, Bool}
use Rattle.std.proofs.Common.{true, false, ◌&&◌, ◌||◌, ◌==◌, nat_le, nat_lt}
use Rattle.std.proofs.Common.{List, [], ◌∷◌, ◌++◌, refl, sym, ap, ◌∙◌, arith, inl, inr, lt-ltb, le-leb}
use Rattle.std.specs.List.{list_any, All}
use Rattle.std.proofs.Math.Bool.{and-false, or-true}
use Rattle.std.proofs.lemmas.Bool.{cases_lt, and_from}
use Rattle.std.proofs.lemmas.Bool.Decides.{nat_tests}
use Rattle.std.proofs.lemmas.List.Elements.{All-cons, All-nil}
use Rattle.sz_cells.specs.declared.Cell.{Cell}
use Rattle.sz_cells.specs.Extent.{Extent, holds}
use Rattle.sz_cells.specs.Cells.{Cells, is_same, any_cell, has, cells_where, with_those, union_of}
use Rattle.sz_cells.specs.Runs.{run_cells}
use Rattle.sz_cells.proofs.Sets.{has-cells_where, cells_where-ext}
use Rattle.sz_cells.proofs.Sets.{is_same-refl, is_same-true}
use Rattle.sz_cells.proofs.Windows.{run-window, window-within, window-more}
use Rattle.sz_spec.specs.Values.{Grid, numbers_at}
use Rattle.sz_frame.proofs.Added.{with-none, with-more}
use Rattle.sz_frame.proofs.FoldedCells.{numbers-join, numbers-none}
use Rattle.sz_frame.proofs.Passing.{met-none, met-or}
use Rattle.sz_ops_local.specs.declared.window.Window.{Window}
use Rattle.sz_ops_local.specs.Windows.{is_between, is_in, IsWindow}

-- ---- tests

and-of-or : (r a b : Bool) → ((r && a) || (r && b)) ≡ (r && (a || b))
and-of-or true a b = refl
and-of-or false a b = refl

-- ---- rows

-- no row has no cell
pub no-rows : (top left right : ℕ) (c : Cell) → is_between top top left right c ≡ false
no-rows top left right c =
    elim (cases_lt c.row top) [
      | inl low ↦ let f : nat_le top c.row ≡ false = grind (arith, nat_tests) in rw f refl
      | inr high ↦
          let f : nat_lt c.row top ≡ false = grind (arith, nat_tests) in
          let no : (nat_le top c.row && nat_lt c.row top) ≡ false = rw f (and-false (nat_le top c.row)) in
          rw no refl
    ]

-- the rows before one have none of the rows from it on
pub rows-before : (top row left right : ℕ) (c : Cell) → row ≤ c.row → is_between top row left right c ≡ false
rows-before top row left right c high =
    let f : nat_lt c.row row ≡ false = grind (arith, nat_tests) in
    let no : (nat_le top c.row && nat_lt c.row row) ≡ false = rw f (and-false (nat_le top c.row)) in
    rw no refl

-- and a row none of those before it
pub row-after : (row left right : ℕ) (c : Cell) → c.row < row → is_between row (row + 1) left right c ≡ false
row-after row left right c low =
    let f : nat_le row c.row ≡ false = grind (arith, nat_tests) in rw f refl

-- before a row, the rows with it are the rows without it
pub rows-same : (top row left right : ℕ) (c : Cell) → c.row < row
    → is_between top (row + 1) left right c ≡ is_between top row left right c
rows-same top row left right c low =
    let a : nat_lt c.row (row + 1) ≡ true = grind (arith, nat_tests) in
    let b : nat_lt c.row row ≡ true = grind (arith, nat_tests) in
    rw (a, b) refl

-- and from it on, they are the row
pub rows-last : (top row left right : ℕ) (c : Cell) → top ≤ row → row ≤ c.row
    → is_between top (row + 1) left right c ≡ is_between row (row + 1) left right c
rows-last top row left right c order high =
    let a : nat_le top c.row ≡ true = grind (arith, nat_tests) in
    let b : nat_le row c.row ≡ true = grind (arith, nat_tests) in
    rw (a, b) refl

-- ---- numbers

pub numbers-first : (g : Grid) (top left right : ℕ)
    → numbers_at g (cells_where g.extent (is_between top top left right)) ≡ []
numbers-first g top left right =
    numbers-none g (is_between top top left right) (λ c. no-rows top left right c)

pub numbers-next : (g : Grid) (top row left right : ℕ) → 0 < g.extent.cols → top ≤ row → row ≤ g.extent.rows
    → numbers_at g (cells_where g.extent (is_between top row left right))
    ++ numbers_at g (cells_where g.extent (is_between row (row + 1) left right))
    ≡ numbers_at g (cells_where g.extent (is_between top (row + 1) left right))
numbers-next g top row left right some order inside =
    sym (numbers-join g (is_between top row left right) (is_between row (row + 1) left right)
    (is_between top (row + 1) left right) row some inside
    (λ c low. (rows-same top row left right c low, row-after row left right c low))
    (λ c high. (rows-last top row left right c order high, rows-before top row left right c high)))

-- ---- sets that are added to

pub added-first : (set : Cells) (top left right : ℕ) → set ≡ cells_where set.extent (has set)
    → set ≡ with_those set (is_between top top left right)
added-first set top left right own =
    with-none set (is_between top top left right) own (λ c held. no-rows top left right c)

pub added-next : (set : Cells) (top row left right : ℕ) → top ≤ row
    → with_those (with_those set (is_between top row left right)) (is_between row (row + 1) left right)
    ≡ with_those set (is_between top (row + 1) left right)
added-next set top row left right order =
    with-more set (is_between top row left right) (is_between row (row + 1) left right)
    (is_between top (row + 1) left right) (λ c held. window-more top row left right c order)

-- the run of a row
pub added-run : (set : Cells) (row left right : ℕ) → row < set.extent.rows → left < right → right ≤ set.extent.cols
    → union_of set (run_cells set.extent (record {
      first = row * set.extent.cols + left;
      last = row * set.extent.cols + (right - 1);
    }))
    ≡ with_those set (is_between row (row + 1) left right)
added-run set row left right inside some wide =
    let e = set.extent in
    let p = is_between row (row + 1) left right in
    ap (union_of set) (run-window e row left right inside some wide)
    ∙ cells_where-ext e (λ c. has set c || has (cells_where e p) c) (λ c. has set c || p c)
    (λ c held. ap (λ b. has set c || b) (has-cells_where e p c held))

-- ---- cells of a set that are met

pub met-first : (set : Cells) (top left right : ℕ) → any_cell (is_between top top left right) set ≡ false
met-first set top left right = met-none set (is_between top top left right) (no-rows top left right)

pub met-next : (set : Cells) (top row left right : ℕ) → top ≤ row
    → (any_cell (is_between top row left right) set || any_cell (is_between row (row + 1) left right) set)
    ≡ any_cell (is_between top (row + 1) left right) set
met-next set top row left right order =
    met-or set (is_between top row left right) (is_between row (row + 1) left right)
    (is_between top (row + 1) left right) (λ c. window-more top row left right c order)

-- ---- columns of one row

-- no column has no cell
pub no-cols : (top bottom left : ℕ) (c : Cell) → is_between top bottom left left c ≡ false
no-cols top bottom left c =
    elim (cases_lt c.col left) [
      | inl low ↦
          let f : nat_le left c.col ≡ false = grind (arith, nat_tests) in
          let no : (nat_le left c.col && nat_lt c.col left) ≡ false = rw f refl in
          rw no (and-false (nat_le top c.row && nat_lt c.row bottom))
      | inr high ↦
          let f : nat_lt c.col left ≡ false = grind (arith, nat_tests) in
          let no : (nat_le left c.col && nat_lt c.col left) ≡ false = rw f (and-false (nat_le left c.col)) in
          rw no (and-false (nat_le top c.row && nat_lt c.row bottom))
    ]

-- one column more is one cell more
pub cols-next : (row left col : ℕ) (x : Cell) → left ≤ col
    → (is_between row (row + 1) left col x || is_same (record { row = row; col = col }) x)
    ≡ is_between row (row + 1) left (col + 1) x
cols-next row left col x order =
    let rows = nat_le row x.row && nat_lt x.row (row + 1) in
    let here : (row == x.row) ≡ rows = grind (arith, nat_tests) in
    let cols : ((nat_le left x.col && nat_lt x.col col) || (col == x.col))
    ≡ (nat_le left x.col && nat_lt x.col (col + 1)) =
    grind (arith, nat_tests) in
    ap (λ (b : Bool). (rows && (nat_le left x.col && nat_lt x.col col)) || (b && (col == x.col))) here
    ∙ and-of-or rows (nat_le left x.col && nat_lt x.col col) (col == x.col)
    ∙ ap (λ (b : Bool). rows && b) cols

pub met-no_cols : (set : Cells) (row left : ℕ) → any_cell (is_between row (row + 1) left left) set ≡ false
met-no_cols set row left = met-none set (is_between row (row + 1) left left) (no-cols row (row + 1) left)

pub met-col : (set : Cells) (row left col : ℕ) → left ≤ col
    → (any_cell (is_between row (row + 1) left col) set || any_cell (is_same (record { row = row; col = col })) set)
    ≡ any_cell (is_between row (row + 1) left (col + 1)) set
met-col set row left col order =
    met-or set (is_between row (row + 1) left col) (is_same (record { row = row; col = col }))
    (is_between row (row + 1) left (col + 1)) (λ c. cols-next row left col c order)

-- ---- cells named in a list

-- the cells of a list that names those that pass, pass
pub all-named : (p : Cell → Bool) (cells : List Cell) → ((x : Cell) → list_any (is_same x) cells ≡ true → p x ≡ true)
    → All (λ c. p c ≡ true) cells
all-named p [] named = All-nil (λ c. p c ≡ true)
all-named p (c ∷ cells) named =
    All-cons (λ x. p x ≡ true) c cells (named c (rw (is_same-refl c) refl))
    (all-named p cells (λ x there. named x (rw there (or-true (is_same x c)))))

-- each cell of a window is one of the shape
pub window-held : (e : Extent) (w : Window) (c : Cell) → IsWindow e w → is_in w c ≡ true → holds e c ≡ true
window-held e w c within passes =
    let p = window-within w.top w.bottom w.left w.right c passes in
    and_from _ _ (lt-ltb c.row e.rows (omega (arith, p.1, within.bottom)))
    (lt-ltb c.col e.cols (omega (arith, p.3, within.right)))

-- each cell of a row of a window is one of the window
pub row-in_window : (w : Window) (row : ℕ) → w.top ≤ row → row < w.bottom → (c : Cell)
    → is_between row (row + 1) w.left w.right c ≡ true → is_in w c ≡ true
row-in_window w row low high c passes =
    let p = window-within row (row + 1) w.left w.right c passes in
    and_from _ _ (and_from _ _ (le-leb w.top c.row (omega (arith, p.0))) (lt-ltb c.row w.bottom (omega (arith, p.1))))
    (and_from _ _ (le-leb w.left c.col p.2) (lt-ltb c.col w.right p.3))

-- a cell between the columns is one of the row
pub cell-in_row : (row col left right : ℕ) → left ≤ col → col < right → (c : Cell)
    → is_same (record { row = row; col = col }) c ≡ true → is_between row (row + 1) left right c ≡ true
cell-in_row row col left right low high c same =
    let is = is_same-true (record { row = row; col = col }) c same in
    let r : row ≡ c.row = ap (λ (d : Cell). d.row) is in
    let k : col ≡ c.col = ap (λ (d : Cell). d.col) is in
    and_from _ _ (and_from _ _ (le-leb row c.row (omega arith)) (lt-ltb c.row (row + 1) (omega arith)))
    (and_from _ _ (le-leb left c.col (omega arith)) (lt-ltb c.col right (omega arith)))
