-- Shapes made of the sides of a shape are within the limits of shapes.
--
-- The key idea: a shape's limits speak of its layers and of the product of its three sides alone, so sides that are
-- not 0 and whose product is no greater make a shape again. Blocks of a side laid over some rows are 1 to as many as
-- the rows.
use Rattle.std.proofs.Common.{◌≡◌, ℕ, ◌+◌, ◌-◌, ◌*◌, ◌/◌, ◌%◌, ◌<◌, ◌≤◌, min}
use Rattle.std.proofs.Common.{true, sym, ap, ◌∙◌, arith}
use Rattle.std.proofs.Common.{mul_assoc}
use Rattle.std.proofs.lemmas.Nat.{div-mul-add, le-div}
use Rattle.std.proofs.lemmas.Grind.{div_ceil_times}
use Rattle.std.proofs.Math.Nat.{mul-le-mul, mul-le-mul_left, one-le-mul, div-le_of_le-mul}
use Rattle.sz_cells.specs.Extent.{Extent, height_of, is_layered, is_extent}
use Rattle.sz_cells.proofs.Shapes.{sides, sides-within, whole-layers, within-sides}
use Rattle.sz_spec.specs.Operators.Folds.{blocks_over}

-- sides of each layer that are not 0 and have no greater product
pub sides-smaller : (e : Extent) (height cols : ℕ) → is_extent e ≡ true → 0 < height → 0 < cols
    → height * cols ≤ height_of e * e.cols → is_layered e.layers height cols ≡ true
sides-smaller e height cols h tall wide small =
    let s = sides e h in
    let whole = whole-layers e h in
    let within = sides-within e.layers (height_of e) e.cols whole.0 in
    let rows : 0 < e.layers * height = one-le-mul s.0 tall in
    let all : e.layers * (height * cols) ≤ e.layers * (height_of e * e.cols) = mul-le-mul_left e.layers small in
    let few : e.layers * height * cols ≤ 1048576 =
    omega (arith, all, within.4, mul_assoc e.layers height cols, mul_assoc e.layers (height_of e) e.cols) in
    within-sides e.layers height cols s.0 within.1 rows wide few

-- fewer rows and columns
pub sides-fewer : (e : Extent) (height cols : ℕ) → is_extent e ≡ true → 0 < height → 0 < cols
    → height ≤ height_of e → cols ≤ e.cols → is_layered e.layers height cols ≡ true
sides-fewer e height cols h tall wide low narrow = sides-smaller e height cols h tall wide (mul-le-mul low narrow)

-- a quotient rounded up
pub blocks-divided : (n side : ℕ) → 0 < side → n / side + min 1 (n % side) ≡ blocks_over n side
blocks-divided n side some =
    let q = n / side + min 1 (n % side) in
    let bounds = div_ceil_times n side some in
    let rest : (n + (side - 1)) - q * side < side = omega (arith, bounds.0, bounds.1) in
    let whole : q * side + ((n + (side - 1)) - q * side) ≡ n + (side - 1) = omega (arith, bounds.0, bounds.1) in
    sym (div-mul-add q side ((n + (side - 1)) - q * side) rest) ∙ ap (λ (m : ℕ). m / side) whole

-- there are blocks, and no more than what they are laid over
pub blocks-some : (n side : ℕ) → 0 < side → 0 < n → (0 < blocks_over n side) × (blocks_over n side ≤ n)
blocks-some n side some there =
    let least : 1 * side ≤ n + (side - 1) = omega arith in
    let more : (side - 1) * 1 ≤ (side - 1) * n = mul-le-mul_left (side - 1) there in
    let most : n + (side - 1) ≤ side * n = grind (arith, more, some, there) in
    (le-div 1 (n + (side - 1)) side some least, div-le_of_le-mul side most)

-- a cell for each block
pub sides-blocked : (e : Extent) (h w : ℕ) → is_extent e ≡ true → 0 < h → 0 < w
    → is_layered e.layers (blocks_over (height_of e) h) (blocks_over e.cols w) ≡ true
sides-blocked e h w inside tall wide =
    let s = sides e inside in
    let rows = blocks-some (height_of e) h tall s.1 in
    let cols = blocks-some e.cols w wide s.3 in
    sides-fewer e (blocks_over (height_of e) h) (blocks_over e.cols w) inside rows.0 cols.0 rows.1 cols.1
