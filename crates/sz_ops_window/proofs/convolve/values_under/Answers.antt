-- The cells under the row are within the array, side by side.
use Rattle.std.proofs.Common.{◌≡◌, ℕ, ◌+◌, ◌-◌, ◌*◌, ◌/◌, ◌<◌, ◌≤◌, true, None, get_or}
use Rattle.std.proofs.Common.{ap, subst, refl, ◌∙◌, arith}
use Rattle.sz_cells.specs.Extent.{Extent, is_extent, size_of}
use Rattle.sz_spec.specs.Weights.{Weights, is_kernel}
use Rattle.sz_ops_window.proofs.Sums.{IsUnder, AreFew, under-reach, are-few, reach-some}
use Rattle.sz_ops_window.proofs.convolve.values_under.Goals.{After-mask}
use Rattle.sz_ops_window.proofs.convolve.values_under.Goals as goal

right : (c : After-mask) → is_extent c.args.array.now.extent ≡ true
right c = rw c.shape-shape.ensures at c.a_shape_is_within_limits.ensures

kernel : (c : After-mask) → is_kernel c.args.mask.now ≡ true
kernel c = subst (λ (v : Weights). is_kernel v ≡ true) c.mask.view_is c.mask.invariant

some : (c : After-mask) → c.args.reach.left < c.args.reach.right
some c =
    reach-some c.args.array.now.extent c.args.mask.now c.args.out c.args.reach (right c) c.requires.out (kernel c)
    c.requires.reach

-- where the cell under a tap is
under : (c : After-mask) (col : ℕ) → c.args.reach.left ≤ col → col < c.args.reach.right
    → IsUnder c.args.array.now.extent c.args.mask.now c.args.out c.args.row col
under c col left end =
    under-reach c.args.array.now.extent c.args.mask.now c.args.out c.args.reach c.args.row col (right c) c.requires.out
    c.requires.reach c.requires.top c.requires.bottom left end

-- so no number on the way to it is large
few : (c : After-mask) (col : ℕ) → c.args.reach.left ≤ col → col < c.args.reach.right
    → AreFew c.args.out c.args.row col c.mask.inside.rows c.mask.inside.cols c.shape.inside.cols
    (size_of c.args.array.now.extent)
few c col left end =
    are-few c.args.array.now.extent c.args.mask.now c.args.out c.args.row col c.mask.inside.rows
    c.mask.inside.cols c.shape.inside.cols (right c) (kernel c) (under c col left end)
    (ap (λ (v : Weights). v.rows) c.mask.view_is) (ap (λ (v : Weights). v.cols) c.mask.view_is)
    (ap (λ (d : Extent). d.cols) (c.shape.view_is ∙ c.shape-shape.ensures))

first : (c : After-mask)
    → AreFew c.args.out c.args.row c.args.reach.left c.mask.inside.rows c.mask.inside.cols c.shape.inside.cols
    (size_of c.args.array.now.extent)
first c = few c c.args.reach.left (omega arith) (some c)

last : (c : After-mask)
    → AreFew c.args.out c.args.row (c.args.reach.right - 1) c.mask.inside.rows c.mask.inside.cols c.shape.inside.cols
    (size_of c.args.array.now.extent)
last c = few c (c.args.reach.right - 1) (omega (arith, some c)) (omega (arith, some c))

pub overflow_add-row_under : goal.overflow_add-row_under
overflow_add-row_under c = record { fits = (first (goal.at.overflow_add-row_under c).After-mask).down }

pub overflow_add-col_under : goal.overflow_add-col_under
overflow_add-col_under c = record { fits = (first (goal.at.overflow_add-col_under c).After-mask).across }

pub overflow_mul-from : goal.overflow_mul-from
overflow_mul-from c = record { fits = (first (goal.at.overflow_mul-from c).After-mask).start }

pub overflow_add-from : goal.overflow_add-from
overflow_add-from c =
    let low = first (goal.at.overflow_add-from c).After-mask in
    record { fits = omega (arith, low.index, low.small) }

pub part-requires-clause-within : goal.part-requires-clause-within
part-requires-clause-within c =
    let at = (goal.at.part-requires-clause-within c).After-mask in
    let end = last at in
    let low = first at in
    omega (arith, end.index, low.before, some at, c.cells.ensures.count)

pub returns-clause-each : goal.returns-clause-each
returns-clause-each c = λ k low.
    let at = (goal.at.returns-clause-each c).After-mask in
    let begins = first at in
    let rows = ap (λ (v : Weights). v.rows) c.mask.view_is in
    let cols = ap (λ (v : Weights). v.cols) c.mask.view_is in
    let wide = ap (λ (d : Extent). d.cols) (c.shape.view_is ∙ c.shape-shape.ensures) in
    let start = ((c.args.out.row + c.args.row) - c.mask.inside.rows / 2) * c.shape.inside.cols in
    let along : start + ((c.args.out.col + c.args.reach.left) - c.mask.inside.cols / 2) + k
    ≡ start + ((c.args.out.col + (c.args.reach.left + k)) - c.mask.inside.cols / 2) = omega (arith, begins.before) in
    c.part.ensures.each k low
    ∙ ap (λ (n : ℕ). get_or c.cells.result.now n None) along
    ∙ (rw (rows, cols, wide, c.cells.ensures.values) refl)
