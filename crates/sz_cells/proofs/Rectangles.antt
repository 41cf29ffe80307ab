-- The smallest rectangle round the cells of a run.
--
-- The key idea: the next index is the next column of the same row, or the first column of the next row after the last
-- one. So by induction over the indexes of a run, its rectangle goes from the row of the first to that of the last; its
-- columns are from the one to the other where that is one row, and all where it is more.
use Rattle.std.proofs.Common.{◌≡◌, ℕ, zero, suc, ◌+◌, ◌-◌, ◌*◌, ◌/◌, ◌%◌, ◌<◌}
use Rattle.std.proofs.Common.{◌≤◌, min, max, cond, ◌==◌, ◌⊎◌, inl, inr, List, [], ◌∷◌}
use Rattle.std.proofs.Common.{◌++◌, fold, refl, sym, ap, ◌∙◌, arith, eq-eqb, ne_eqb}
use Rattle.std.specs.List.{range_with_len}
use Rattle.std.proofs.lemmas.Bool.{cases_eq, cases_lt}
use Rattle.std.proofs.lemmas.List.Sums.{fold-append}
use Rattle.std.proofs.lemmas.Nat.{div-mul-add, mod-mul-add, div-add-mod', mod_below, le-div}
use Rattle.sz_cells.specs.declared.Bounds.{Bounds}
use Rattle.sz_cells.specs.declared.Cell.{Cell}
use Rattle.sz_cells.specs.Extent.{Extent, cell_of}
use Rattle.sz_cells.specs.Runs.{bounds_with}

-- the next index is the next column, or the first one of the next row
pub next-cell : (k cols : ℕ) → 0 < cols
    → (((k + 1) / cols ≡ k / cols) × ((k + 1) % cols ≡ k % cols + 1)) ⊎ (((k + 1) / cols ≡ k / cols + 1)
    × ((k + 1) % cols ≡ 0) × (k % cols + 1 ≡ cols))
next-cell k cols some =
    let q = k / cols in
    let r = k % cols in
    let whole : q * cols + r ≡ k = div-add-mod' k cols in
    let below : r < cols = mod_below k cols some in
    elim (cases_lt (r + 1) cols) [
      | inl inside ↦
          let at : k + 1 ≡ q * cols + (r + 1) = omega arith in
          inl (
            ap (λ (n : ℕ). n / cols) at ∙ div-mul-add q cols (r + 1) inside,
            ap (λ (n : ℕ). n % cols)
                at ∙ mod-mul-add q cols (r + 1) inside,
          )
      | inr past ↦
          let row : (q + 1) * cols ≡ q * cols + cols = grind arith in
          let at : k + 1 ≡ (q + 1) * cols + 0 = omega arith in
          inr (
            ap (λ (n : ℕ). n / cols) at ∙ div-mul-add (q + 1) cols 0 some,
            ap (λ (n : ℕ). n % cols)
                at ∙ mod-mul-add (q + 1) cols 0 some,
            omega arith,
          )
    ]

-- an index that is no earlier is in no earlier row, and in the same row in no earlier column
pub later-cell : (k n cols : ℕ) → 0 < cols → (k / cols ≤ (k + n) / cols) × (k / cols ≡ (k + n) / cols
    → k % cols ≤ (k + n) % cols)
later-cell k n cols some =
    let a = div-add-mod' k cols in
    let b = div-add-mod' (k + n) cols in
    let low : k / cols * cols ≤ k + n = omega (arith, a) in (
      le-div (k / cols) (k + n) cols some low,
      λ same. let e : k / cols * cols ≡ (k + n) / cols * cols =
          ap (λ (q : ℕ). q * cols) same in omega (arith, a, b, e),
    )

-- the columns of a run: these of its ends where they are in one row, all where they are not
abbrev left_col : ℕ → ℕ → ℕ → ℕ
left_col first_row last_row first_col = cond (first_row == last_row) first_col 0

abbrev right_col : ℕ → ℕ → ℕ → ℕ → ℕ
right_col first_row last_row last_col cols = cond (first_row == last_row) last_col (cols - 1)

-- one step of the left and of the right side, in numbers: f is the first index, k the last so far, and j the next
left-step : (side f_row f_col k_row k_col j_row j_col cols : ℕ) → f_row ≤ k_row
    → (f_row ≡ k_row → f_col ≤ k_col)
    → ((j_row ≡ k_row) × (j_col ≡ k_col + 1)) ⊎ ((j_row ≡ k_row + 1) × (j_col ≡ 0)
    × (k_col + 1 ≡ cols))
    → min (min side (left_col f_row k_row f_col)) j_col ≡ min side (left_col f_row j_row f_col)
left-step side f_row f_col k_row k_col j_row j_col cols low within next =
    elim next [
      | inl same ↦
          elim (cases_eq f_row k_row) [
            | inl one ↦
                let here : f_row ≡ j_row = omega (arith, same.0) in
                rw (eq-eqb f_row k_row one, eq-eqb f_row j_row here) (omega (arith, within one, same.1))
            | inr more ↦
                let there : f_row ≡ j_row → ⊥ = λ e. more (e ∙ same.0) in
                rw (ne_eqb f_row k_row more, ne_eqb f_row j_row there) (omega arith)
          ]
      | inr over ↦
          let there : f_row ≡ j_row → ⊥ = λ e. omega (arith, over.0) in
          rw (ne_eqb f_row j_row there, over.1) (omega arith)
    ]

right-step : (side f_row k_row k_col j_row j_col cols : ℕ) → f_row ≤ k_row → j_col < cols
    → ((j_row ≡ k_row) × (j_col ≡ k_col + 1)) ⊎ ((j_row ≡ k_row + 1) × (j_col ≡ 0)
    × (k_col + 1 ≡ cols))
    → max (max side (right_col f_row k_row k_col cols)) j_col ≡ max side (right_col f_row j_row j_col cols)
right-step side f_row k_row k_col j_row j_col cols low below next =
    elim next [
      | inl same ↦
          elim (cases_eq f_row k_row) [
            | inl one ↦
                let here : f_row ≡ j_row = omega (arith, same.0) in
                rw (eq-eqb f_row k_row one, eq-eqb f_row j_row here) (omega (arith, same.1))
            | inr more ↦
                let there : f_row ≡ j_row → ⊥ = λ e. more (e ∙ same.0) in
                rw (ne_eqb f_row k_row more, ne_eqb f_row j_row there) (omega arith)
          ]
      | inr over ↦
          let there : f_row ≡ j_row → ⊥ = λ e. omega (arith, over.0) in
          elim (cases_eq f_row k_row) [
            | inl one ↦ rw (eq-eqb f_row k_row one, ne_eqb f_row j_row there) (omega (arith, over.1, over.2))
            | inr more ↦ rw (ne_eqb f_row k_row more, ne_eqb f_row j_row there) (omega (arith, over.1))
          ]
    ]

-- one number more at the end of a range
range-more : (a n : ℕ) → range_with_len a (suc n) ≡ range_with_len a n ++ (a + n) ∷ []
range-more a zero = ap (λ (x : ℕ). x ∷ []) (omega arith)
range-more a (suc n) =
    ap (λ (xs : List ℕ). a ∷ xs) (range-more (a + 1) n ∙ ap (λ (x : ℕ). range_with_len (a + 1) n ++ x ∷ [])
    (omega arith))

-- rectangles with the same sides are one
same-bounds : {t l b r t' l' b' r' : ℕ} → t ≡ t' → l ≡ l' → b ≡ b' → r ≡ r'
    → (let one : Bounds = record { top = t; left = l; bottom = b; right = r } in one) ≡ record {
      top = t';
      left =
          l';
      bottom = b';
      right = r';
    }
same-bounds p q r s = cc

-- the rectangle of some bounds and of the indexes from f to f + n
abbrev round_run : ℕ → Bounds → ℕ → ℕ → Bounds
round_run cols b f n = record {
  top = min b.top (f / cols);
  left = min b.left (left_col (f / cols) ((f + n) / cols) (f % cols));
  bottom = max b.bottom ((f + n) / cols);
  right = max b.right (right_col (f / cols) ((f + n) / cols) ((f + n) % cols) cols);
}

-- the bounds with each cell of a run are the bounds with its rectangle
pub bounds-with_range : (e : Extent) (b : Bounds) (f n : ℕ) → 0 < e.cols
    → fold (λ x k. bounds_with x (cell_of e k)) b (range_with_len f (suc n)) ≡ round_run e.cols b f n
bounds-with_range e b f zero some =
    let none : f + 0 ≡ f = omega arith in
    rw (none, eq-eqb (f / e.cols) (f / e.cols) refl) refl
bounds-with_range e b f (suc n) some =
    let next : f + suc n ≡ f + n + 1 = omega arith in
    let step = next-cell (f + n) e.cols some in
    let later = later-cell f n e.cols some in
    let more : f / e.cols ≤ (f + n + 1) / e.cols = elim step [
      | inl same ↦ omega (arith, same.0, later.0)
      | inr
          over ↦ omega (arith, over.0, later.0)
    ] in
    let down : (f + n) / e.cols ≤ (f + n + 1) / e.cols = elim step [
      | inl same ↦ omega (arith, same.0)
      | inr
          over ↦ omega (arith, over.0)
    ] in
    rw (
      range-more f (suc n),
      fold-append (λ x k. bounds_with x (cell_of e k)) b (range_with_len f (suc n))
          ((f + suc n) ∷ []),
      bounds-with_range e b f n some,
      next,
    )
    (same-bounds (omega arith)
    (left-step b.left (f / e.cols) (f % e.cols) ((f + n) / e.cols) ((f + n) % e.cols) ((f + n + 1) / e.cols)
    ((f + n + 1) % e.cols) e.cols later.0 later.1 step)
    (omega arith)
    (right-step b.right (f / e.cols) ((f + n) / e.cols) ((f + n) % e.cols) ((f + n + 1) / e.cols)
    ((f + n + 1) % e.cols) e.cols later.0 (mod_below (f + n + 1) e.cols some) step))

-- the rectangle of a run, by its two ends
pub bounds-with_run : (e : Extent) (b : Bounds) (first last : ℕ) → 0 < e.cols → first ≤ last
    → fold (λ x k. bounds_with x (cell_of e k)) b (range_with_len first (last - first + 1)) ≡ record {
      top = min b.top (first / e.cols);
      left = min b.left (left_col (first / e.cols) (last / e.cols) (first % e.cols));
      bottom = max b.bottom (last / e.cols);
      right = max b.right (right_col (first / e.cols) (last / e.cols) (last % e.cols) e.cols);
    }
bounds-with_run e b first last some order =
    let long : last - first + 1 ≡ suc (last - first) = omega arith in
    let end : first + (last - first) ≡ last = omega arith in
    rw long (rw end at (bounds-with_range e b first (last - first) some))

-- the same, from the cells of the two ends and the columns that were chosen by them
pub bounds-by_ends : (e : Extent) (b : Bounds) (first last : ℕ) (start end : Cell) (left right : ℕ) → 0 < e.cols
    → first ≤ last
    → start ≡ cell_of e first → end ≡ cell_of e last
    → (start.row ≡ end.row → (left ≡ start.col) × (right ≡ end.col)) → ((start.row ≡ end.row → ⊥)
    → (left ≡ 0) × (right ≡ e.cols - 1))
    → (let round : Bounds = record {
      top = min b.top start.row;
      left = min b.left left;
      bottom =
          max b.bottom end.row;
      right = max b.right right;
    } in round)
    ≡ fold (λ x k. bounds_with x (cell_of e k)) b (range_with_len first (last - first + 1))
bounds-by_ends e b first last start end left right some order at_first at_last one more =
    let top : start.row ≡ first / e.cols = ap (λ (c : Cell). c.row) at_first in
    let bottom : end.row ≡ last / e.cols = ap (λ (c : Cell). c.row) at_last in
    let from : start.col ≡ first % e.cols = ap (λ (c : Cell). c.col) at_first in
    let upto : end.col ≡ last % e.cols = ap (λ (c : Cell). c.col) at_last in
    rw (bounds-with_run e b first last some order)
    (elim (cases_eq start.row end.row) [
      | inl same ↦
          let rows : first / e.cols ≡ last / e.cols = sym top ∙ same ∙ bottom in
          rw (eq-eqb (first / e.cols) (last / e.cols) rows)
          (same-bounds (ap (min b.top) top) (ap (min b.left) ((one same).0 ∙ from)) (ap (max b.bottom) bottom)
          (ap (max b.right) ((one same).1 ∙ upto)))
      | inr apart ↦
          let rows : first / e.cols ≡ last / e.cols → ⊥ = λ h. apart (top ∙ h ∙ sym bottom) in
          rw (ne_eqb (first / e.cols) (last / e.cols) rows)
          (same-bounds (ap (min b.top) top) (ap (min b.left) (more apart).0) (ap (max b.bottom) bottom)
          (ap (max b.right) (more apart).1))
    ])
