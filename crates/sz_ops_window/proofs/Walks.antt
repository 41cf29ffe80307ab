-- The sum under a kernel as the rows and columns of the reach are walked.
--
-- The key idea: what is out of reach adds 0, so a row is its columns in reach, and all taps are the rows in reach; and
-- one empty cell makes all the sums empty that it is part of.
use Rattle.std.proofs.Common.{◌≡◌, ℕ, ◌+◌, ◌-◌, ◌*◌, ◌<◌, ◌≤◌, true, Option, Some, None}
use Rattle.std.proofs.Common.{refl, sym, ap, ap₂, subst, ◌∙◌, arith, inl, inr, FitsSigned, to_z, of_z}
use Rattle.std.specs.Int.{w128}
use Rattle.std.specs.Prelude.{ℤ, pos, ◌+ℤ◌}
use Rattle.std.specs.Int.RustNames.{unsigned_abs}
use Rattle.std.proofs.Math.Nat.{mul-le-mul_right}
use Rattle.std.proofs.lemmas.Int.{ints, fits_signed_from_abs, to_z-of_z}
use Rattle.sz_cells.specs.declared.Cell.{Cell}
use Rattle.sz_cells.specs.Extent.{Extent, holds, is_extent}
use Rattle.sz_spec.specs.Values.{Grid}
use Rattle.sz_spec.specs.Weights.{Weights, is_kernel}
use Rattle.sz_ops_window.specs.declared.window.Window.{Window}
use Rattle.sz_ops_window.specs.Sums.{part_of, sum_from, reach_of, IsWithin}
use Rattle.sz_ops_window.proofs.Sums.{plus, plus-zero, zero-plus, sum-parts, sum-one, rows-out, cols-out}
use Rattle.sz_ops_window.proofs.Sums.{IsReach, reach-lies}

-- ---- how large a sum is

pub abs-plus : (a b : ℤ) → unsigned_abs (a +ℤ b) ≤ unsigned_abs a + unsigned_abs b
abs-plus a b = grind (arith, ints)

pub within-plus : (m n : ℕ) (a b : ℤ) → IsWithin m a → IsWithin n b → IsWithin (m + n) (a +ℤ b)
within-plus m n a b left right = omega (arith, left, right, abs-plus a b)

pub within-more : (m n : ℕ) (a : ℤ) → m ≤ n → IsWithin m a → IsWithin n a
within-more m n a more is = omega (arith, is)

pub fits-within : (n : ℕ) (a : ℤ) → n ≤ 1000 → IsWithin n a → FitsSigned w128 a
fits-within n a few is = fits_signed_from_abs w128 a (omega (arith, is))

-- ---- one part more, and a part that is empty

plus-none : (a : Option ℤ) → plus a None ≡ None
plus-none None = refl
plus-none (Some z) = refl

-- a part that is empty
pub sum-none : (g : Grid) (w : Weights) (o : Cell) (start before n total : ℕ) → before + n ≤ total
    → sum_from g w o (start + before) n ≡ None → sum_from g w o start total ≡ None
sum-none g w o start before n total within none =
    let rest = total - (before + n) in
    let parts : total ≡ before + (n + rest) = omega arith in
    ap (sum_from g w o start) parts
    ∙ sum-parts g w o start before (n + rest)
    ∙ ap (plus (sum_from g w o start before)) (sum-parts g w o (start + before) n rest
    ∙ ap (λ a. plus a (sum_from g w o ((start + before) + n) rest)) none)
    ∙ plus-none (sum_from g w o start before)

-- the next part
pub sum-next : (g : Grid) (w : Weights) (o : Cell) (start before n total : ℕ) (a b : ℤ) → before + n ≡ total
    → Some a ≡ sum_from g w o start before → Some b ≡ sum_from g w o (start + before) n
    → Some (a +ℤ b) ≡ sum_from g w o start total
sum-next g w o start before n total a b parts first second =
    ap₂ plus first second ∙ sym (sum-parts g w o start before n) ∙ ap (sum_from g w o start) parts

-- ---- the columns of a row

pub cols-next : (g : Grid) (w : Weights) (o : Cell) (row left k : ℕ) (a b : ℤ)
    → Some a ≡ sum_from g w o (row * w.cols + left) k → Some b ≡ part_of g w o (row * w.cols + (left + k))
    → Some (a +ℤ b) ≡ sum_from g w o (row * w.cols + left) (k + 1)
cols-next g w o row left k a b so_far this =
    let at : (row * w.cols + left) + k ≡ row * w.cols + (left + k) = omega arith in
    sum-next g w o (row * w.cols + left) k 1 (k + 1) a b (omega arith) so_far
    (this ∙ sym (sum-one g w o (row * w.cols + (left + k))) ∙ ap (λ (n : ℕ). sum_from g w o n 1) (sym at))

-- a row is its columns in reach
pub row-reach : (g : Grid) (w : Weights) (o : Cell) (reach : Window) (row : ℕ) → is_extent g.extent ≡ true
    → holds g.extent o ≡ true → is_kernel w ≡ true → reach ≡ reach_of g.extent w o → row < w.rows
    → sum_from g w o (row * w.cols + reach.left) (reach.right - reach.left) ≡ sum_from g w o (row * w.cols) w.cols
row-reach g w o reach row right held kernel is tall =
    let lies = reach-lies g.extent w o right held kernel in
    let lefts = ap (λ (r : Window). r.left) is in
    let rights = ap (λ (r : Window). r.right) is in
    let mid = reach.right - reach.left in
    let rest = w.cols - reach.right in
    let parts : w.cols ≡ reach.left + (mid + rest) = omega (arith, lies.cols, lies.right, lefts, rights) in
    let end : (row * w.cols + reach.left) + mid ≡ row * w.cols + reach.right =
    omega (arith, lies.cols, lefts, rights) in
    let none : row * w.cols + 0 ≡ row * w.cols = omega arith in
    let before : sum_from g w o (row * w.cols) reach.left ≡ Some (pos 0) =
    ap (λ (n : ℕ). sum_from g w o n reach.left) (sym none)
    ∙ cols-out g w o row 0 reach.left tall (omega (arith, lies.cols, lies.right, lefts, rights))
    (λ col low high. inl (omega (arith, high, lefts))) in
    let behind : sum_from g w o (row * w.cols + reach.right) rest ≡ Some (pos 0) =
    cols-out g w o row reach.right rest tall (omega (arith, lies.right, rights))
    (λ col low high. inr (omega (arith, low, rights))) in
    sym
    (ap (sum_from g w o (row * w.cols)) parts
    ∙ sum-parts g w o (row * w.cols) reach.left (mid + rest)
    ∙ ap₂ plus before (sum-parts g w o (row * w.cols + reach.left) mid rest
    ∙ ap (plus (sum_from g w o (row * w.cols + reach.left) mid)) (ap (λ (n : ℕ). sum_from g w o n rest) end ∙ behind)
    ∙ zero-plus (sum_from g w o (row * w.cols + reach.left) mid))
    ∙ plus-zero (sum_from g w o (row * w.cols + reach.left) mid))

-- one empty cell empties its row
pub row-none : (g : Grid) (w : Weights) (o : Cell) (row col : ℕ) → col < w.cols
    → part_of g w o (row * w.cols + col) ≡ None → sum_from g w o (row * w.cols) w.cols ≡ None
row-none g w o row col wide none =
    sum-none g w o (row * w.cols) col 1 w.cols (omega arith) (sum-one g w o (row * w.cols + col) ∙ none)

-- ---- the rows

-- the rows above the reach
pub rows-first : (g : Grid) (w : Weights) (o : Cell) (reach : Window) → is_extent g.extent ≡ true
    → holds g.extent o ≡ true → is_kernel w ≡ true → reach ≡ reach_of g.extent w o
    → Some (pos 0) ≡ sum_from g w o 0 (reach.top * w.cols)
rows-first g w o reach right held kernel is =
    let lies = reach-lies g.extent w o right held kernel in
    let tops = ap (λ (r : Window). r.top) is in
    let none : 0 * w.cols ≡ 0 = grind arith in
    sym
    (ap (λ (n : ℕ). sum_from g w o n (reach.top * w.cols)) (sym none)
    ∙ rows-out g w o 0 reach.top (omega (arith, lies.rows, lies.bottom, tops))
    (λ row low high. inl (omega (arith, high, tops))))

pub rows-next : (g : Grid) (w : Weights) (o : Cell) (row : ℕ) (a b : ℤ)
    → Some a ≡ sum_from g w o 0 (row * w.cols) → Some b ≡ sum_from g w o (row * w.cols) w.cols
    → Some (a +ℤ b) ≡ sum_from g w o 0 ((row + 1) * w.cols)
rows-next g w o row a b so_far this =
    let parts : row * w.cols + w.cols ≡ (row + 1) * w.cols = grind arith in
    let at : 0 + row * w.cols ≡ row * w.cols = omega arith in
    sum-next g w o 0 (row * w.cols) w.cols ((row + 1) * w.cols) a b parts so_far
    (this ∙ ap (λ (n : ℕ). sum_from g w o n w.cols) (sym at))

-- the rows below the reach
pub rows-all : (g : Grid) (w : Weights) (o : Cell) (reach : Window) (row : ℕ) (a : ℤ) → is_extent g.extent ≡ true
    → holds g.extent o ≡ true → is_kernel w ≡ true → reach ≡ reach_of g.extent w o → row ≡ reach.bottom
    → Some a ≡ sum_from g w o 0 (row * w.cols) → Some a ≡ sum_from g w o 0 (w.rows * w.cols)
rows-all g w o reach row a right held kernel is last so_far =
    let lies = reach-lies g.extent w o right held kernel in
    let bottoms = ap (λ (r : Window). r.bottom) is in
    let rest = w.rows - row in
    let tall : row + rest ≡ w.rows = omega (arith, lies.bottom, bottoms) in
    let parts : row * w.cols + rest * w.cols ≡ w.rows * w.cols = rw (← tall) (grind arith) in
    let at : 0 + row * w.cols ≡ row * w.cols = omega arith in
    let below : sum_from g w o (0 + row * w.cols) (rest * w.cols) ≡ Some (pos 0) =
    ap (λ (n : ℕ). sum_from g w o n (rest * w.cols)) at
    ∙ rows-out g w o row rest (omega (arith, tall)) (λ r low high. inr (omega (arith, low, bottoms))) in
    so_far ∙ sym (zero-plus (sum_from g w o 0 (row * w.cols)))
    ∙ ap (plus (sum_from g w o 0 (row * w.cols))) (sym below)
    ∙ sym (sum-parts g w o 0 (row * w.cols) (rest * w.cols)) ∙ ap (sum_from g w o 0) parts

next-row : (w : Weights) (row : ℕ) → row < w.rows → row * w.cols + w.cols ≤ w.rows * w.cols
next-row w row tall =
    let below : row + 1 ≤ w.rows = omega arith in
    let whole : (row + 1) * w.cols ≤ w.rows * w.cols = mul-le-mul_right w.cols below in
    omega (arith, whole)

-- one empty row empties the whole
pub rows-none : (g : Grid) (w : Weights) (o : Cell) (row : ℕ) → row < w.rows
    → sum_from g w o (row * w.cols) w.cols ≡ None → sum_from g w o 0 (w.rows * w.cols) ≡ None
rows-none g w o row tall none =
    let below : row * w.cols + w.cols ≤ w.rows * w.cols = next-row w row tall in
    let at : 0 + row * w.cols ≡ row * w.cols = omega arith in
    sum-none g w o 0 (row * w.cols) w.cols (w.rows * w.cols) below
    (ap (λ (n : ℕ). sum_from g w o n w.cols) at ∙ none)

-- ---- as the code tells it

-- a sum that fits, of its bits
pub told-sum : (s b : ℤ) → FitsSigned w128 b → FitsSigned w128 (s +ℤ b)
    → to_z w128 (of_z w128 (s +ℤ to_z w128 (of_z w128 b))) ≡ s +ℤ b
told-sum s b one both =
    ap (λ (z : ℤ). to_z w128 (of_z w128 (s +ℤ z))) (to_z-of_z w128 b one) ∙ to_z-of_z w128 (s +ℤ b) both

-- a reach that is given lies in the kernel
pub given-lies : (e : Extent) (w : Weights) (o : Cell) (reach : Window) → is_extent e ≡ true → holds e o ≡ true
    → is_kernel w ≡ true → reach ≡ reach_of e w o → IsReach w reach
given-lies e w o reach right held kernel is = subst (IsReach w) (sym is) (reach-lies e w o right held kernel)
