-- What follows of the shapes that operators take and give.
--
-- The key idea: an output has no more layers than the first input, no side of it is 0, and it has no more
-- cells; that is enough for a right shape.
use Rattle.std.proofs.Common.{◌≡◌, ℕ, ◌+◌, ◌*◌, ◌<◌, ◌≤◌, true}
use Rattle.std.proofs.Common.{◌&&◌, ◌==◌, nat_le, inl, inr}
use Rattle.std.proofs.Common.{List, length, Result, Ok, sym, ap, subst, ◌∙◌, arith}
use Rattle.std.proofs.Common.{mul_comm}
use Rattle.std.proofs.Math.Nat.{mul-le-mul_right}
use Rattle.std.proofs.lemmas.Bool.{cases_Bool, and_parts, leb-true, eqb-true}
use Rattle.std.proofs.lemmas.Option.{unwrap_or-slice_get}
use Rattle.sz_cells.specs.Extent.{Extent, height_of, layered, flat, is_extent}
use Rattle.sz_cells.proofs.Shapes.{sides, sides-within, whole-layers, within-sides}
use Rattle.sz_cells.proofs.Shapes.{layered-is_extent}
use Rattle.sz_spec.specs.declared.op.Op.{Op}
use Rattle.sz_spec.specs.declared.op.Op.TheVariants.{Add, Sub, Mul, Min}
use Rattle.sz_spec.specs.declared.op.Op.TheVariants.{Max, Transpose, Slice, Block, Lookup}
use Rattle.sz_spec.specs.declared.op.Op.TheVariants.{FoldLayers}
use Rattle.sz_spec.specs.declared.shapes.ShapeFault.{ShapeFault}
use Rattle.sz_spec.specs.Values.{extent_at, no_extent}
use Rattle.sz_spec.specs.Operators.Folds.{blocks_over}
use Rattle.sz_spec.specs.Shapes.{arity, has_right_parameters, shape_of, are_equal, same_shape}
use Rattle.sz_spec.specs.Shapes.{sliced}
use Rattle.sz_spec.specs.LawsShapes.{AreExtents, OutputsAreShapes}
use Rattle.sz_spec.proofs.CodeShapes.{sides-smaller, sides-fewer, sides-blocked}

-- the shape of an input that is there is right
pub extent-right : (ins : List Extent) (i : ℕ) → AreExtents ins → i < length ins
    → is_extent (extent_at ins i) ≡ true
extent-right ins i right inside = rw (unwrap_or-slice_get ins i no_extent) (right i no_extent inside)

-- ---- shapes made of the sides of another

-- rows and columns of each layer exchanged
turned-right : (e : Extent) → is_extent e ≡ true → is_extent (layered e.layers e.cols (height_of e)) ≡ true
turned-right e right =
    let s = sides e right in
    layered-is_extent e.layers e.cols (height_of e)
    (sides-smaller e e.cols (height_of e) right s.3 s.1 (omega (arith, mul_comm e.cols (height_of e))))

-- one layer of them
folded-right : (e : Extent) → is_extent e ≡ true → is_extent (flat (height_of e) e.cols) ≡ true
folded-right e right =
    let s = sides e right in
    let inner = sides-within e.layers (height_of e) e.cols (whole-layers e right).0 in
    let less : 1 * height_of e * e.cols ≤ e.layers * height_of e * e.cols =
    mul-le-mul_right e.cols (mul-le-mul_right (height_of e) s.0) in
    let one : 1 * height_of e ≡ height_of e = omega arith in
    subst (λ (n : ℕ). is_extent (record { layers = 1; rows = n; cols = e.cols }) ≡ true) one
    (layered-is_extent 1 (height_of e) e.cols
    (within-sides 1 (height_of e) e.cols (omega arith) (omega arith) (omega (arith, s.1)) s.3
    (omega (arith, less, inner.4))))

-- ---- equal shapes

-- where two inputs have one shape, the first has the shape of the output
pub same-shape_first : (ins : List Extent) (out : Extent) → same_shape ins ≡ Ok out → extent_at ins 0 ≡ out
same-shape_first ins out h =
    elim (cases_Bool (are_equal (extent_at ins 0) (extent_at ins 1))) [
      | inl t ↦ let told = rw t at h in (cc)
      | inr f ↦ let told = rw f at h in (cc)
    ]

-- and so has the second
pub same-shape_second : (ins : List Extent) (out : Extent) → same_shape ins ≡ Ok out → extent_at ins 1 ≡ out
same-shape_second ins out h =
    elim (cases_Bool (are_equal (extent_at ins 0) (extent_at ins 1))) [
      | inl t ↦
          let outer = and_parts _ _ t in
          let inner = and_parts _ _ outer.0 in
          let make : ℕ → ℕ → ℕ → Extent = λ l r c. record { layers = l; rows = r; cols = c } in
          let layers = eqb-true _ _ inner.0 in
          let rows = eqb-true _ _ inner.1 in
          let cols = eqb-true _ _ outer.1 in
          let one : extent_at ins 1 ≡ extent_at ins 0 =
          ap (λ (l : ℕ). make l (extent_at ins 1).rows (extent_at ins 1).cols) (sym layers)
          ∙ ap (λ (r : ℕ). make (extent_at ins 0).layers r (extent_at ins 1).cols) (sym rows)
          ∙ ap (λ (c : ℕ). make (extent_at ins 0).layers (extent_at ins 0).rows c) (sym cols) in
          one ∙ same-shape_first ins out h
      | inr f ↦ let told = rw f at h in (cc)
    ]

-- what a slice that is within its input gives
pub sliced-within : (e : Extent) (r0 c0 h w : ℕ) (out : Extent) → sliced e r0 c0 h w ≡ Ok out
    → (r0 + h ≤ height_of e) × (c0 + w ≤ e.cols) × (layered e.layers h w ≡ out)
sliced-within e r0 c0 h w out told =
    elim (cases_Bool (nat_le (r0 + h) (height_of e) && nat_le (c0 + w) e.cols)) [
      | inl t ↦
          let both = and_parts _ _ t in
          let known = rw t at told in
          (leb-true _ _ both.0, leb-true _ _ both.1, cc)
      | inr f ↦ let known = rw f at told in (cc)
    ]

-- the output of a lookup has the shape of its first input, and its table has one row
pub looked-up_shape : (ins : List Extent) (out : Extent) → shape_of Lookup ins ≡ Ok out
    → ((extent_at ins 1).rows ≡ 1) × (extent_at ins 0 ≡ out)
looked-up_shape ins out h =
    elim (cases_Bool ((extent_at ins 1).rows == 1)) [
      | inl t ↦ let known = rw t at h in (eqb-true _ _ t, cc)
      | inr f ↦ let known = rw f at h in (cc)
    ]

-- ---- outputs

ok-same : (a b : Extent) → is_extent a ≡ true → (let r : Result Extent ShapeFault = Ok a in r ≡ Ok b)
    → is_extent b ≡ true
ok-same a b right same = let one : a ≡ b = cc in subst (λ (e : Extent). is_extent e ≡ true) one right

-- of arrays of one shape
of-same_shape : (ins : List Extent) (out : Extent) → 0 < length ins → same_shape ins ≡ Ok out → AreExtents ins
    → is_extent out ≡ true
of-same_shape ins out some told right =
    subst (λ (e : Extent). is_extent e ≡ true) (same-shape_first ins out told) (extent-right ins 0 right some)

output-of_op : (op : Op) (ins : List Extent) (out : Extent) → length ins ≡ arity op
    → has_right_parameters op ≡ true
    → shape_of op ins ≡ Ok out → AreExtents ins → is_extent out ≡ true
output-of_op Add ins out few params told right = of-same_shape ins out (omega arith) told right
output-of_op Sub ins out few params told right = of-same_shape ins out (omega arith) told right
output-of_op Mul ins out few params told right = of-same_shape ins out (omega arith) told right
output-of_op Min ins out few params told right = of-same_shape ins out (omega arith) told right
output-of_op Max ins out few params told right = of-same_shape ins out (omega arith) told right
output-of_op Transpose ins out few params told right =
    ok-same _ out (turned-right (extent_at ins 0) (extent-right ins 0 right (omega arith))) told
output-of_op (Slice r0 c0 h w) ins out few params told right =
    let within = sliced-within (extent_at ins 0) r0 c0 h w out told in
    let some = and_parts (nat_le 1 h) (nat_le 1 w) params in
    subst (λ (e : Extent). is_extent e ≡ true) within.2
    (layered-is_extent (extent_at ins 0).layers h w
    (sides-fewer (extent_at ins 0) h w (extent-right ins 0 right (omega arith)) (leb-true 1 h some.0)
    (leb-true 1 w some.1) (omega (arith, within.0)) (omega (arith, within.1))))
output-of_op (Block fold h w) ins out few params told right =
    let e = extent_at ins 0 in
    let some = and_parts (nat_le 1 h) (nat_le 1 w) params in
    ok-same _ out
    (layered-is_extent e.layers (blocks_over (height_of e) h) (blocks_over e.cols w)
    (sides-blocked e h w (extent-right ins 0 right (omega arith)) (leb-true 1 h some.0) (leb-true 1 w some.1))) told
output-of_op Lookup ins out few params told right =
    subst (λ (e : Extent). is_extent e ≡ true) (looked-up_shape ins out told).1
    (extent-right ins 0 right (omega arith))
output-of_op (FoldLayers fold) ins out few params told right =
    ok-same _ out (folded-right (extent_at ins 0) (extent-right ins 0 right (omega arith))) told
output-of_op _ ins out few params told right = ok-same _ out (extent-right ins 0 right (omega arith)) told

-- of right shapes an operator makes a right shape
pub output-right : OutputsAreShapes
output-right s site right = output-of_op s.op s.ins s.out site.arity site.parameters site.shape right
