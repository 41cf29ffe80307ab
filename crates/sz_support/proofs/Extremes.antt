-- What is gathered from many cells into one number, the least or the greatest: when that is the end of all i64s.
--
-- The key idea: what is gathered is one of the numbers, and the end is what it stays once it is met. So it is the end
-- exactly where some cell holds the end.
use Rattle.std.proofs.Common.{◌≡◌, ℕ, zero, suc, ◌+◌, ◌<◌, ◌≤◌, ◌^◌, ℤ, pos, negsuc, Bool, true, false, ◌⊎◌}
use Rattle.std.proofs.Common.{if◌then◌else◌, List, [], ◌∷◌, Option, Some, None, refl, sym, ap, ◌∙◌, arith, fold}
use Rattle.std.proofs.Common.{inl, inr, nat_lt}
use Rattle.std.specs.Prelude.{int_lt, ◌≤ℤ◌}
use Rattle.std.specs.Int.{int_min, int_max}
use Rattle.std.specs.List.{filter, filter_map, range_with_len, reduce}
use Rattle.std.proofs.lemmas.Bool.{cases_Bool, cases_order}
use Rattle.std.proofs.lemmas.Bool.Decides.{nat_tests}
use Rattle.std.proofs.lemmas.Int.{ints}
use Rattle.sz_cells.specs.declared.Cell.{Cell}
use Rattle.sz_cells.specs.Extent.{size_of, holds, index_of, cell_of}
use Rattle.sz_cells.specs.Cells.{cells_where}
use Rattle.sz_cells.proofs.Sets.{index-below, cell-index, cell-held}
use Rattle.sz_spec.specs.Values.{Grid, fit, value_at, numbers_at, with_number}
use Rattle.sz_support.specs.Changes.{IsValue}
use Rattle.sz_support.specs.LawsExactly.{least_i64, greatest_i64}

-- ---- the ends of i64s

pub above-least : (z : ℤ) → fit z ≡ Some z → least_i64 ≤ℤ z
above-least (pos n) fits = omega (arith, ints)
above-least (negsuc n) fits =
    elim (cases_Bool (nat_lt n (2 ^ 63))) [
      | inl below ↦ grind (arith, nat_tests, ints)
      | inr above ↦ let told = rw above at fits in (cc)
    ]

pub below-greatest : (z : ℤ) → fit z ≡ Some z → z ≤ℤ greatest_i64
below-greatest (pos n) fits =
    elim (cases_Bool (nat_lt n (2 ^ 63))) [
      | inl below ↦ grind (arith, nat_tests, ints)
      | inr above ↦ let told = rw above at fits in (cc)
    ]
below-greatest (negsuc n) fits = omega (arith, ints)

-- a choice between two numbers that keeps to an end
pub record IsTowards (m : ℤ → ℤ → ℤ) (end : ℤ) : Type 0 where
  pub picks : (a b : ℤ) → (m a b ≡ a) ⊎ (m a b ≡ b)
  pub stays : (b : ℤ) → fit b ≡ Some b → m end b ≡ end
  pub comes : (a : ℤ) → fit a ≡ Some a → m a end ≡ end

pub least-end : IsTowards int_min least_i64
least-end = record {
  picks = λ a b. elim (cases_Bool (int_lt b a)) [ inl less ↦ inr (rw less refl) | inr more ↦ inl (rw more refl) ];
  stays = λ b fits.
      let low = above-least b fits in
      let no : int_lt b least_i64 ≡ false = grind (arith, ints) in
      rw no refl;
  comes = λ a fits.
      let low = above-least a fits in
      elim (cases_Bool (int_lt least_i64 a)) [
        | inl less ↦ rw less refl
        | inr more ↦ rw more (omega (arith, ints))
      ];
}

pub greatest-end : IsTowards int_max greatest_i64
greatest-end = record {
  picks = λ a b. elim (cases_Bool (int_lt b a)) [ inl less ↦ inl (rw less refl) | inr more ↦ inr (rw more refl) ];
  stays = λ b fits.
      let high = below-greatest b fits in
      elim (cases_Bool (int_lt b greatest_i64)) [
        | inl less ↦ rw less refl
        | inr more ↦ rw more (omega (arith, ints))
      ];
  comes = λ a fits.
      let high = below-greatest a fits in
      let no : int_lt greatest_i64 a ≡ false = grind (arith, ints) in
      rw no refl;
}

-- ---- numbers of a range

-- a value is there or not
pub option-cases : (v : Option ℤ) → (v ≡ None) ⊎ ((z : ℤ) × (v ≡ Some z))
option-cases None = inl refl
option-cases (Some z) = inr (z, refl)

-- the numbers that f gives on a range are i64s
abbrev AreI64s : (ℕ → Option ℤ) → ℕ → ℕ → Type 0
AreI64s f a n = (k : ℕ) (z : ℤ) → a ≤ k → k < a + n → f k ≡ Some z → fit z ≡ Some z

-- one of them is this number
abbrev Gives : (ℕ → Option ℤ) → ℕ → ℕ → ℤ → Type 0
Gives f a n end = (k : ℕ) × (a ≤ k) × (k < a + n) × (f k ≡ Some end)

gives-more : (f : ℕ → Option ℤ) (a n : ℕ) (end : ℤ) → Gives f (a + 1) n end → Gives f a (suc n) end
gives-more f a n end found = (found.0, omega (arith, found.1), omega (arith, found.2), found.3)

-- the first of them, or one of the rest
first-or_rest : (f : ℕ → Option ℤ) (a n : ℕ) (end : ℤ) → Gives f a (suc n) end
    → (f a ≡ Some end) ⊎ Gives f (a + 1) n end
first-or_rest f a n end found =
    elim (cases_order a found.0) [
      | inl same ↦ inl (ap f same ∙ found.3)
      | inr apart ↦
          elim apart [
            | inl below ↦ inr (found.0, omega (arith, below), omega (arith, found.2), found.3)
            | inr above ↦ absurd (omega (arith, above, found.1))
          ]
    ]

gives-rest : (f : ℕ → Option ℤ) (a n : ℕ) (end : ℤ) → Gives f a (suc n) end → (f a ≡ Some end → ⊥)
    → Gives f (a + 1) n end
gives-rest f a n end found other =
    elim (first-or_rest f a n end found) [ inl here ↦ absurd (other here) | inr on ↦ on ]

-- from a number on: the fold is the end exactly where that number is, or one of the others
folded-to : (m : ℤ → ℤ → ℤ) (end : ℤ) → IsTowards m end → (f : ℕ → Option ℤ) (a n : ℕ) (c : ℤ)
    → fold m c (filter_map f (range_with_len a n)) ≡ end → (c ≡ end) ⊎ Gives f a n end
folded-to m end towards f a zero c ends = inl ends
folded-to m end towards f a (suc n) c ends =
    elim (option-cases (f a)) [
      | inl none ↦
          elim (folded-to m end towards f (a + 1) n c (rw none at ends)) [
            | inl first ↦ inl first
            | inr later ↦ inr (gives-more f a n end later)
          ]
      | inr some ↦
          let z = some.0 in
          elim (folded-to m end towards f (a + 1) n (m c z) (rw some.1 at ends)) [
            | inl first ↦
                elim (towards.picks c z) [
                  | inl kept ↦ inl (sym kept ∙ first)
                  | inr taken ↦
                      inr (a, omega arith, omega arith, some.1 ∙ ap (λ (y : ℤ). Some y) (sym taken ∙ first))
                ]
            | inr later ↦ inr (gives-more f a n end later)
          ]
    ]

-- the choice of two i64s is one
chosen-fits : (m : ℤ → ℤ → ℤ) (end : ℤ) → IsTowards m end → (a b : ℤ) → fit a ≡ Some a → fit b ≡ Some b
    → fit (m a b) ≡ Some (m a b)
chosen-fits m end towards a b first second =
    elim (towards.picks a b) [
      | inl kept ↦ ap fit kept ∙ first ∙ ap (λ (z : ℤ). Some z) (sym kept)
      | inr taken ↦ ap fit taken ∙ second ∙ ap (λ (z : ℤ). Some z) (sym taken)
    ]

folded-from : (m : ℤ → ℤ → ℤ) (end : ℤ) → IsTowards m end → (f : ℕ → Option ℤ) (a n : ℕ) (c : ℤ)
    → AreI64s f a n → fit c ≡ Some c → (c ≡ end) ⊎ Gives f a n end
    → fold m c (filter_map f (range_with_len a n)) ≡ end
folded-from m end towards f a zero c right fits found =
    elim found [ inl first ↦ first | inr later ↦ absurd (omega (arith, later.1, later.2)) ]
folded-from m end towards f a (suc n) c right fits found =
    let rest : AreI64s f (a + 1) n = λ k z low high there. right k z (omega arith) (omega arith) there in
    elim (option-cases (f a)) [
      | inl none ↦
          rw none
          (folded-from m end towards f (a + 1) n c rest fits
          (elim found [
            | inl first ↦ inl first
            | inr later ↦ inr (gives-rest f a n end later (λ h. let both = sym none ∙ h in (cc)))
          ]))
      | inr some ↦
          let z = some.0 in
          let z_fits = right a z (omega arith) (omega arith) some.1 in
          rw some.1
          (folded-from m end towards f (a + 1) n (m c z) rest (chosen-fits m end towards c z fits z_fits)
          (elim found [
            | inl first ↦ inl (ap (λ (y : ℤ). m y z) first ∙ towards.stays z z_fits)
            | inr later ↦
                elim (first-or_rest f a n end later) [
                  | inl here ↦
                      let same : Some z ≡ Some end = sym some.1 ∙ here in
                      let one : z ≡ end = cc in
                      inl (ap (m c) one ∙ towards.comes c fits)
                  | inr on ↦ inr on
                ]
          ]))
    ]

-- so it is of the numbers of a range
reduced-to : (m : ℤ → ℤ → ℤ) (end : ℤ) → IsTowards m end → (f : ℕ → Option ℤ) (a n : ℕ)
    → reduce m (filter_map f (range_with_len a n)) ≡ Some end → Gives f a n end
reduced-to m end towards f a zero ends = (cc)
reduced-to m end towards f a (suc n) ends =
    elim (option-cases (f a)) [
      | inl none ↦ gives-more f a n end (reduced-to m end towards f (a + 1) n (rw none at ends))
      | inr some ↦
          let told = rw some.1 at ends in
          let folded : fold m some.0 (filter_map f (range_with_len (a + 1) n)) ≡ end = cc in
          elim (folded-to m end towards f (a + 1) n some.0 folded) [
            | inl first ↦ (a, omega arith, omega arith, some.1 ∙ ap (λ (y : ℤ). Some y) first)
            | inr later ↦ gives-more f a n end later
          ]
    ]

reduced-from : (m : ℤ → ℤ → ℤ) (end : ℤ) → IsTowards m end → (f : ℕ → Option ℤ) (a n : ℕ)
    → AreI64s f a n → Gives f a n end → reduce m (filter_map f (range_with_len a n)) ≡ Some end
reduced-from m end towards f a zero right found = absurd (omega (arith, found.1, found.2))
reduced-from m end towards f a (suc n) right found =
    let rest : AreI64s f (a + 1) n = λ k z low high there. right k z (omega arith) (omega arith) there in
    elim (option-cases (f a)) [
      | inl none ↦
          rw none
          (reduced-from m end towards f (a + 1) n rest
          (gives-rest f a n end found (λ h. let both = sym none ∙ h in (cc))))
      | inr some ↦
          let z = some.0 in
          rw some.1
          (ap (λ (y : ℤ). Some y)
          (folded-from m end towards f (a + 1) n z rest (right a z (omega arith) (omega arith) some.1)
          (elim (first-or_rest f a n end found) [
            | inl here ↦
                let same : Some z ≡ Some end = sym some.1 ∙ here in
                let one : z ≡ end = cc in
                inl one
            | inr on ↦ inr on
          ])))
    ]

-- ---- what is gathered from cells

-- a value, where it is a number that passes
abbrev kept : (ℤ → Bool) → Option ℤ → Option ℤ
kept r v = with_number (λ z. if r z then Some z else None) v

kept-own : (r : ℤ → Bool) (v : Option ℤ) (z : ℤ) → kept r v ≡ Some z → v ≡ Some z
kept-own r None z there = (cc)
kept-own r (Some y) z there =
    elim (cases_Bool (r y)) [
      | inl passed ↦ rw passed at there
      | inr left ↦ let told = rw left at there in (cc)
    ]

kept-numbers : (r : ℤ → Bool) (q : ℕ → Bool) (f : ℕ → Option ℤ) (ks : List ℕ)
    → filter r (filter_map f (filter q ks)) ≡ filter_map (λ k. if q k then kept r (f k) else None) ks
kept-numbers r q f [] = refl
kept-numbers r q f (k ∷ ks) =
    let rest = kept-numbers r q f ks in
    elim (cases_Bool (q k)) [
      | inl chosen ↦
          elim (option-cases (f k)) [
            | inl none ↦ rw (chosen, none) rest
            | inr some ↦
                elim (cases_Bool (r some.0)) [
                  | inl passed ↦ rw (chosen, some.1, passed) (ap (λ (zs : List ℤ). some.0 ∷ zs) rest)
                  | inr left ↦ rw (chosen, some.1, left) rest
                ]
          ]
      | inr left ↦ rw left rest
    ]

-- the least, or the greatest, of the numbers that pass, of the cells that pass
abbrev pub gathered : (ℤ → ℤ → ℤ) → (Cell → Bool) → (ℤ → Bool) → Grid → Option ℤ
gathered m p r g = reduce m (filter r (numbers_at g (cells_where g.extent p)))

abbrev numbered : (Cell → Bool) → (ℤ → Bool) → Grid → ℕ → Option ℤ
numbered p r g k = if p (cell_of g.extent k) then kept r (value_at g (cell_of g.extent k)) else None

gathered-over : (m : ℤ → ℤ → ℤ) (p : Cell → Bool) (r : ℤ → Bool) (g : Grid)
    → gathered m p r g ≡ reduce m (filter_map (numbered p r g) (range_with_len 0 (size_of g.extent)))
gathered-over m p r g =
    ap (reduce m)
    (kept-numbers r (λ k. p (cell_of g.extent k)) (λ k. value_at g (cell_of g.extent k))
    (range_with_len 0 (size_of g.extent)))

-- a cell that passes holds this number
abbrev pub Holds : (Cell → Bool) → Grid → ℤ → Type 0
Holds p g z = (y : Cell) × (holds g.extent y ≡ true) × (p y ≡ true) × (value_at g y ≡ Some z)

numbered-own : (p : Cell → Bool) (r : ℤ → Bool) (g : Grid) (k : ℕ) (z : ℤ) → numbered p r g k ≡ Some z
    → (p (cell_of g.extent k) ≡ true) × (value_at g (cell_of g.extent k) ≡ Some z)
numbered-own p r g k z there =
    elim (cases_Bool (p (cell_of g.extent k))) [
      | inl passes ↦ (passes, kept-own r (value_at g (cell_of g.extent k)) z (rw passes at there))
      | inr left ↦ let told = rw left at there in (cc)
    ]

pub gathered-to : (m : ℤ → ℤ → ℤ) (end : ℤ) → IsTowards m end → (p : Cell → Bool) (r : ℤ → Bool) (g : Grid)
    → gathered m p r g ≡ Some end → Holds p g end
gathered-to m end towards p r g ends =
    let found = reduced-to m end towards (numbered p r g) 0 (size_of g.extent) (sym (gathered-over m p r g) ∙ ends) in
    let own = numbered-own p r g found.0 end found.3 in
    (cell_of g.extent found.0, cell-held g.extent found.0 (omega (arith, found.2)), own.0, own.1)

pub gathered-from : (m : ℤ → ℤ → ℤ) (end : ℤ) → IsTowards m end → (p : Cell → Bool) (r : ℤ → Bool) (g : Grid)
    → ((y : Cell) → holds g.extent y ≡ true → IsValue (value_at g y)) → r end ≡ true
    → Holds p g end → gathered m p r g ≡ Some end
gathered-from m end towards p r g values passed found =
    let e = g.extent in
    let y = found.0 in
    let below = index-below e y found.1 in
    let back = cell-index e y found.1 in
    let chosen : (if p y then kept r (value_at g y) else None) ≡ kept r (value_at g y) = rw found.2 refl in
    let own : kept r (Some end) ≡ Some end = rw passed refl in
    let there : numbered p r g (index_of e y) ≡ Some end =
    ap (λ (c : Cell). if p c then kept r (value_at g c) else None) back ∙ chosen ∙ ap (kept r) found.3 ∙ own in
    let right : AreI64s (numbered p r g) 0 (size_of e) =
    λ k z low high given.
    let own = numbered-own p r g k z given in
    sym (ap (with_number fit) own.1) ∙ values (cell_of e k) (cell-held e k (omega (arith, high))) ∙ own.1 in
    gathered-over m p r g
    ∙ reduced-from m end towards (numbered p r g) 0 (size_of e) right
    (index_of e y, omega arith, omega (arith, below), there)

-- ---- where nothing passes

nothing-gathered : (f : ℕ → Option ℤ) (a n : ℕ) → ((k : ℕ) → a ≤ k → k < a + n → f k ≡ None)
    → filter_map f (range_with_len a n) ≡ []
nothing-gathered f a zero none = refl
nothing-gathered f a (suc n) none =
    rw (none a (omega arith) (omega arith))
    (nothing-gathered f (a + 1) n (λ k low high. none k (omega arith) (omega arith)))

kept-none : (r : ℤ → Bool) (v : Option ℤ) → ((z : ℤ) → fit z ≡ Some z → r z ≡ false) → IsValue v → kept r v ≡ None
kept-none r None fails right = refl
kept-none r (Some z) fails right = rw (fails z right) refl

-- where no i64 passes, nothing is gathered
pub gathered-none : (m : ℤ → ℤ → ℤ) (p : Cell → Bool) (r : ℤ → Bool) (g : Grid)
    → ((y : Cell) → holds g.extent y ≡ true → IsValue (value_at g y))
    → ((z : ℤ) → fit z ≡ Some z → r z ≡ false) → gathered m p r g ≡ None
gathered-none m p r g values fails =
    let e = g.extent in
    let none : (k : ℕ) → 0 ≤ k → k < 0 + size_of e → numbered p r g k ≡ None =
    λ k low high.
    elim (cases_Bool (p (cell_of e k))) [
      | inl passes ↦
          rw passes
          (kept-none r (value_at g (cell_of e k)) fails
          (values (cell_of e k) (cell-held e k (omega (arith, high)))))
      | inr left ↦ rw left refl
    ] in
    gathered-over m p r g ∙ ap (reduce m) (nothing-gathered (numbered p r g) 0 (size_of e) none)
