-- Under nine weights round a middle lie the cells of the square, and under one the cell alone.
--
-- The key idea: of the nine taps some one leads to a cell exactly where one of three rows and one of three columns is
-- the cell's.
use Rattle.std.proofs.Common.{◌≡◌, ℕ, ◌+◌, ◌*◌, ◌/◌, ◌%◌, Bool, true, false, ◌&&◌, ◌||◌, ◌==◌}
use Rattle.std.proofs.Common.{refl, sym, ap, ap₂, ◌∙◌, arith, inl, inr, eqb-true, eq-eqb, true≢false}
use Rattle.std.proofs.Math.Bool.{or_assoc, or-false}
use Rattle.std.proofs.lemmas.Bool.{cases_Bool, false_from_ne_true}
use Rattle.std.proofs.lemmas.Bool.Decides.{nat_tests}
use Rattle.std.proofs.lemmas.Nat.{div-add-mod'}
use Rattle.sz_cells.specs.declared.Cell.{Cell}
use Rattle.sz_cells.specs.Extent.{Extent, layer_of, row_in, height_of}
use Rattle.sz_cells.specs.Cells.{is_same}
use Rattle.sz_spec.specs.Operators.Clean.{is_near, is_in_square}
use Rattle.sz_spec.specs.Operators.Convolve.{is_convolved}
use Rattle.sz_ops_window.specs.Taps.{one, nine}

-- three columns of one row
three : (m a b c z : Bool) → ((m && a) || ((m && b) || ((m && c) || z))) ≡ ((m && (a || (b || c))) || z)
three true a b c z = ap (λ y. a || y) (sym (or_assoc b c z)) ∙ sym (or_assoc a (b || c) z)
three false a b c z = refl

-- three rows
rows : (l a b c k : Bool) → (((l && a) && k) || (((l && b) && k) || (((l && c) && k) || false)))
    ≡ ((l && (a || (b || c))) && k)
rows false a b c k = refl
rows true true b c true = refl
rows true false true c true = refl
rows true false false true true = refl
rows true false false false true = refl
rows true true true true false = refl
rows true true true false false = refl
rows true true false true false = refl
rows true true false false false = refl
rows true false true true false = refl
rows true false true false false = refl
rows true false false true false = refl
rows true false false false false = refl

-- one of three neighbours
near : (a b : ℕ) → ((a + 1 == b + 0) || ((a + 1 == b + 1) || (a + 1 == b + 2))) ≡ is_near a b
near a b = grind (arith, nat_tests)

-- rows of one layer are near exactly where they are near in it
near-rows : (a b h : ℕ) → (a / h == b / h) ≡ true → is_near (a % h) (b % h) ≡ is_near a b
near-rows a b h same =
    let layers : a / h ≡ b / h = eqb-true _ _ same in
    let first : a / h * h + a % h ≡ a = div-add-mod' a h in
    let second : b / h * h + b % h ≡ b = div-add-mod' b h in
    let third : a / h * h ≡ b / h * h = ap (λ (n : ℕ). n * h) layers in
    grind (arith, nat_tests, first, second, third)

near-layer : (a b h : ℕ) → ((a / h == b / h) && is_near (a % h) (b % h)) ≡ ((a / h == b / h) && is_near a b)
near-layer a b h =
    elim (cases_Bool (a / h == b / h)) [
      | inl t ↦ ap (λ y. (a / h == b / h) && y) (near-rows a b h t)
      | inr f ↦ rw f refl
    ]

-- the nine taps
pub nine-square : (e : Extent) (c x : Cell) → is_convolved e nine c x ≡ is_in_square e c x
nine-square e c x =
    let l = layer_of e x == layer_of e c in
    let r : ℕ → Bool = λ n. row_in e x + 1 == row_in e c + n in
    let k : ℕ → Bool = λ n. x.col + 1 == c.col + n in
    let cols : Bool = k 0 || (k 1 || k 2) in
    let z : Bool = ((l && r 2) && cols) || false in
    three (l && r 0) (k 0) (k 1) (k 2) (((l && r 1) && k 0) || (((l && r 1) && k 1) || (((l && r 1) && k 2)
    || (((l && r 2) && k 0) || (((l && r 2) && k 1) || (((l && r 2) && k 2) || false))))))
    ∙ ap (λ y. ((l && r 0) && cols) || y)
    (three (l && r 1) (k 0) (k 1) (k 2) (((l && r 2) && k 0) || (((l && r 2) && k 1) || (((l && r 2) && k 2)
    || false)))
    ∙ ap (λ y. ((l && r 1) && cols) || y) (three (l && r 2) (k 0) (k 1) (k 2) false))
    ∙ rows l (r 0) (r 1) (r 2) cols
    ∙ ap₂ (λ a b. (l && a) && b) (near (row_in e x) (row_in e c)) (near x.col c.col)
    ∙ ap (λ a. a && is_near x.col c.col) (near-layer x.row c.row (height_of e))

-- the same row of the same layer is the same row
same-rows : (a b h : ℕ) → ((a / h == b / h) && (a % h + 0 == b % h + 0)) ≡ (a == b)
same-rows a b h =
    elim (cases_Bool (a / h == b / h)) [
      | inl t ↦
          let layers : a / h ≡ b / h = eqb-true _ _ t in
          let first : a / h * h + a % h ≡ a = div-add-mod' a h in
          let second : b / h * h + b % h ≡ b = div-add-mod' b h in
          let third : a / h * h ≡ b / h * h = ap (λ (n : ℕ). n * h) layers in
          rw t (grind (arith, nat_tests, first, second, third))
      | inr f ↦
          let differ : (a == b) ≡ false = false_from_ne_true (a == b)
          (λ same. true≢false (sym (eq-eqb _ _ (ap (λ (n : ℕ). n / h) (eqb-true _ _ same))) ∙ f)) in
          rw (f, differ) refl
    ]

-- the one tap
pub one-same : (e : Extent) (c x : Cell) → is_convolved e one c x ≡ is_same x c
one-same e c x =
    or-false (((layer_of e x == layer_of e c) && (row_in e x + 0 == row_in e c + 0)) && (x.col + 0 == c.col + 0))
    ∙ ap₂ (λ a b. a && b) (same-rows x.row c.row (height_of e)) (grind (arith, nat_tests))
