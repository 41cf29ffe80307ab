-- The rows of a layer are among those of all layers, of which there are no more than cells.
use Rattle.std.proofs.Common.{◌≡◌, ◌+◌, ◌*◌, ◌≤◌, ◌<◌, ℕ, ap, subst, arith, true}
use Rattle.std.proofs.Math.Nat.{mul-le-mul_right, le-mul_of_pos_right}
use Rattle.sz_cells.specs.Extent.{Extent, height_of, is_extent}
use Rattle.sz_cells.proofs.Shapes.{sides}
use Rattle.sz_ops_region.proofs.sides.Band.of.Goals as goal

-- the rows up to the end of a layer are few
few-rows : (e : Extent) (layer : ℕ) → is_extent e ≡ true → layer < e.layers
    → (layer * height_of e + height_of e ≤ e.rows) × (e.rows ≤ 1048576)
few-rows e layer is below =
    let s = sides e is in
    let upto : (layer + 1) * height_of e ≤ e.layers * height_of e = mul-le-mul_right (height_of e) (omega arith) in
    (omega (arith, upto, s.4), omega (arith, s.5, le-mul_of_pos_right e.rows s.3))

pub overflow_mul-top : goal.overflow_mul-top
overflow_mul-top c =
    let is = subst (λ (e : Extent). is_extent e ≡ true) c.shape.view_is c.shape.invariant in
    let few = few-rows c.args.shape.now c.args.layer is c.requires in
    omega (arith, few.0, few.1, ap (λ (h : ℕ). c.args.layer * h) c.height-height.ensures.value)

pub overflow_add-result : goal.overflow_add-result
overflow_add-result c =
    let is = subst (λ (e : Extent). is_extent e ≡ true) c.shape.view_is c.shape.invariant in
    let few = few-rows c.args.shape.now c.args.layer is c.requires in
    omega (
      arith,
      few.0,
      few.1,
      c.height-height.ensures.value,
      ap (λ (h : ℕ). c.args.layer * h)
          c.height-height.ensures.value,
    )

pub returns-clause-within : goal.returns-clause-within
returns-clause-within c =
    let is = subst (λ (e : Extent). is_extent e ≡ true) c.shape.view_is c.shape.invariant in
    let few = few-rows c.args.shape.now c.args.layer is c.requires in
    omega (arith, few.0, c.height-height.ensures.value, ap (λ (h : ℕ). c.args.layer * h) c.height-height.ensures.value)
