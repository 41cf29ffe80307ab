-- What holds of each cell, or of each array, in turn.
use Rattle.std.proofs.Common.{◌≡◌, ℕ, ◌+◌, ◌<◌, ◌==◌, true, false, ap, sym, ◌∙◌, subst, arith, inl, inr}
use Rattle.std.proofs.Common.{eqb-true, eq-eqb, true≢false, List, map, length, get_or, Option, Some, unwrap_or}
use Rattle.std.proofs.Common.{Global, nat_lt, ltb-true}
use Rattle.std.specs.Arc.{arc_value}
use Rattle.std.specs.declared.sync.Arc.{Arc}
use Rattle.std.proofs.lemmas.List.{get_or-map, length-map, ext_get_or}
use Rattle.std.proofs.lemmas.Option.{slice_get-get_or, unwrap_or-slice_get, slice_get_cases}
use Rattle.sz_cells.specs.Cells.{Cells, has}
use Rattle.sz_spec.specs.Values.{Grid, no_grid, no_extent, input_at, extent_at, extents_of, value_at}
use Rattle.sz_spec.specs.Paths.{extent_of}
use Rattle.trials_refresh.specs.Changes.{AreAgreed}
use Rattle.std.proofs.lemmas.Bool.{cases_Bool, and_parts}
use Rattle.sz_cells.specs.declared.Cell.{Cell}
use Rattle.sz_cells.specs.Extent.{Extent, holds, size_of, index_of, cell_of}
use Rattle.sz_cells.proofs.Sets.{index-below, cell-index}

-- one number more
pub one-more : (P : ℕ → Type 0) (n : ℕ) → ((k : ℕ) → k < n → P k) → P n → (k : ℕ) → k < n + 1 → P k
one-more P n below here k low =
    elim (cases_Bool (k == n)) [
      | inl same ↦ subst P (sym (eqb-true k n same)) here
      | inr other ↦
          let apart : k ≡ n → ⊥ = λ same. true≢false (sym (eq-eqb k n same) ∙ other) in
          let less : k < n = omega (arith, low, apart) in
          below k less
    ]

-- what holds of the cell of each index holds of each cell
pub each-cell : (P : Cell → Type 0) (e : Extent) → ((k : ℕ) → k < size_of e → P (cell_of e k)) → (x : Cell)
    → holds e x ≡ true → P x
each-cell P e all x held = subst P (cell-index e x held) (all (index_of e x) (index-below e x held))

-- the array of a number in a list of shared ones
pub input-there : (xs : List (Arc Grid Global)) (n : ℕ) (x : Arc Grid Global) → n < length xs → x ≡ get_or xs n x
    → arc_value x ≡ input_at (map (λ a. arc_value a) xs) n
input-there xs n x inside is =
    sym (ap (λ (o : Option Grid). unwrap_or o no_grid)
    (slice_get-get_or (map (λ a. arc_value a) xs) n (arc_value x)
    (omega (arith, inside, length-map xs (λ a. arc_value a)))
    ∙ ap (λ (g : Grid). Some g)
    (get_or-map (λ a. arc_value a) xs n x (arc_value x) inside ∙ ap (λ a. arc_value a) (sym is))))

-- arrays that agree have the same shapes
pub agreed-shapes : (input : ℕ) (changed : Cells) (before base : List Grid)
    → AreAgreed input changed before base → extents_of before ≡ extents_of base
agreed-shapes input changed before base agreed =
    let long = agreed.0 in
    ext_get_or no_extent (extents_of before) (extents_of base)
    (length-map before (λ (g : Grid). g.extent) ∙ long ∙ sym (length-map base (λ (g : Grid). g.extent)))
    (λ k low.
    let inside : k < length before = omega (arith, low, length-map before (λ (g : Grid). g.extent)) in
    let here : k < length base = omega (arith, inside, long) in
    shape-at before k inside ∙ (agreed.1 k here).0 ∙ sym (shape-at base k here)) where
      shape-at : (gs : List Grid) (k : ℕ) → k < length gs → get_or (extents_of gs) k no_extent ≡ (input_at gs k).extent
      shape-at gs k inside =
          get_or-map (λ (g : Grid). g.extent) gs k no_grid no_extent inside
          ∙ ap (λ (g : Grid). g.extent) (sym (unwrap_or-slice_get gs k no_grid))

-- and differ at most in the set, in the array that is named
pub agreed-differ : (input : ℕ) (changed : Cells) (before base : List Grid)
    → AreAgreed input changed before base → (b : ℕ) (x : Cell) → holds (extent_of before b) x ≡ true
    → (b ≡ input → has changed x ≡ false)
    → value_at (input_at before b) x ≡ value_at (input_at base b) x
agreed-differ input changed before base agreed b x held out =
    elim (slice_get_cases before b).1 [
      | inl there ↦
          let inside : b < length base = omega (arith, agreed.0, there.1) in
          (agreed.1 b inside).1 x held (λ named. out (eqb-true b input named))
      | inr beyond ↦
          let none : holds no_extent x ≡ true =
          subst (λ (o : Option Grid). holds (unwrap_or o no_grid).extent x ≡ true) beyond.1 held in
          let low : x.row < 0 =
          ltb-true x.row 0 (and_parts (nat_lt x.row 0) (nat_lt x.col 0) none).0 in
          absurd (omega (arith, low))
    ]

-- the shape of the array of a number
pub shape-there : (xs : List (Arc Grid Global)) (n : ℕ) (x : Arc Grid Global) → n < length xs → x ≡ get_or xs n x
    → (arc_value x).extent ≡ extent_at (extents_of (map (λ a. arc_value a) xs)) n
shape-there xs n x inside is =
    let gs : List Grid = map (λ a. arc_value a) xs in
    let low : n < length gs = omega (arith, inside, length-map xs (λ a. arc_value a)) in
    ap (λ (g : Grid). g.extent) (input-there xs n x inside is ∙ unwrap_or-slice_get gs n no_grid)
    ∙ sym (unwrap_or-slice_get (extents_of gs) n no_extent
    ∙ get_or-map (λ (g : Grid). g.extent) gs n no_grid no_extent low)
