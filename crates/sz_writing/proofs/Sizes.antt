-- How long the text of the cells of an array is at most: 29 bytes a cell, of which 20 are its digits and the others
-- commas and brackets. So a line of 1,048,576 cells is not too long.
use Rattle.std.proofs.Common.{◌≡◌, ◌≤◌, ◌<◌, ◌+◌, ◌*◌, ℕ, arith, mul-le-mul_right, ap}
use Rattle.std.proofs.Math.Nat.{mul_assoc}
use Rattle.sz_writing.specs.Written.{list_long, value_long, row_long, layer_long}

-- Lists of some items whose texts are short for their cells: three bytes more a cell are enough for each list's own.
list-short : (k m n long : ℕ) → 0 < m → 0 < n → long ≤ k * m → list_long n long ≤ (k + 3) * (m * n)
list-short k m n long some more short =
    let each : long * n ≤ (k * m) * n = mul-le-mul_right n short in
    let grouped : (k * m) * n ≡ k * (m * n) = mul_assoc k m n in
    let wide : 1 * n ≤ m * n = mul-le-mul_right {m = 1} {n = m} n (omega arith) in
    let one : 1 * n ≡ n = omega arith in
    let opened : (long + 1) * n ≡ long * n + n = omega arith in
    let closed : (k + 3) * (m * n) ≡ k * (m * n) + 3 * (m * n) = omega arith in
    omega (arith, each, grouped, wide, one, opened, closed)

row-short : (width : ℕ) → 0 < width → row_long width ≤ 23 * width
row-short width some =
    let same : 1 * width ≡ width = omega arith in
    omega (arith, list-short 20 1 width value_long (omega arith) some (omega arith), ap (λ (n : ℕ). 23 * n) same)

-- a layer
pub layer-short : (height width : ℕ) → 0 < height → 0 < width → layer_long height width ≤ 26 * (width * height)
layer-short height width some wide =
    list-short 23 width height (row_long width) wide some (row-short width wide)

-- layers
pub layers-short : (count height width : ℕ) → 0 < count → 0 < height → 0 < width → 0 < width * height
    → list_long count (layer_long height width) ≤ 29 * ((width * height) * count)
layers-short count height width some high wide full =
    list-short 26 (width * height) count (layer_long height width) full some (layer-short height width high wide)
