-- What follows of connected cells and of components.
--
-- The key idea: a spread keeps what was there, and adds something or changes nothing. Each that adds something
-- makes the list of indexes longer, and that list is never longer than the shape's size; so after as many
-- spreads as there are cells a further one changes nothing, and the component is closed. A list of high
-- neighbours then never leaves it; and each cell of it was reached by such a list, which has one cell more at
-- each spread.
use Rattle.std.proofs.Common.{◌≡◌, ℕ, zero, suc, ◌+◌, ◌<◌, ◌≤◌, ℤ, pos, Bool, true, false}
use Rattle.std.proofs.Common.{◌&&◌, ◌||◌, ◌==◌, ◌⊎◌}
use Rattle.std.proofs.Common.{List, [], ◌∷◌, ◌++◌, length, refl, sym, ap, ap₂, subst, ◌∙◌, arith}
use Rattle.std.proofs.Common.{inl, inr}
use Rattle.std.proofs.Common.{Some}
use Rattle.std.proofs.Math.Bool.{or_comm}
use Rattle.std.specs.List.{filter, range_with_len}
use Rattle.std.proofs.lemmas.Bool.{and_parts, and_from, cases_Bool, or_cases, or_left, or_right}
use Rattle.std.proofs.lemmas.Bool.{false_from_ne_true}
use Rattle.std.proofs.lemmas.Bool.{true≢false, cases_order}
use Rattle.std.proofs.lemmas.Bool.Decides.{nat_tests}
use Rattle.sz_cells.specs.declared.Cell.{Cell}
use Rattle.sz_cells.specs.Extent.{Extent, size_of, holds, index_of, cell_of, layer_of}
use Rattle.sz_cells.specs.Cells.{Cells, is_same, cells_where, any_cell, has}
use Rattle.sz_cells.proofs.Sets.{has-cells_where_any, cells_where-has, cells_where-ext}
use Rattle.sz_cells.proofs.Sets.{any_cell-true, any_cell-from}
use Rattle.std.proofs.lemmas.List.Elements.{filter_agree}
use Rattle.sz_cells.proofs.Rising.{filter-false, rising-length}
use Rattle.sz_cells.proofs.LawsOfSets.{sets-rising}
use Rattle.sz_cells.proofs.Sets.{same_truth, is_same-true, is_same-refl, index-below, cell-index}
use Rattle.sz_spec.specs.Values.{Grid}
use Rattle.sz_spec.specs.Operators.Regions.{is_high, are_neighbours, spread, spreads, component_of}
use Rattle.sz_spec.specs.Operators.Regions.{is_connected}
use Rattle.sz_spec.specs.Operators.Regions.{label_of, labelled_at}
use Rattle.sz_spec.specs.LawsRegions.{Leads, ConnectedCellsAreLedTo, ConnectedCellsAreHigh}
use Rattle.sz_spec.specs.LawsRegions.{HighCellsAreConnectedToThemselves, ConnectionIsSymmetric}
use Rattle.sz_spec.specs.LawsRegions.{ConnectionGoesByParts, ComponentsAreClosed}
use Rattle.sz_spec.specs.LawsRegions.{ComponentsAreWhole}
use Rattle.sz_spec.specs.LawsRegions.{ConnectedCellsHaveOneComponent, OtherCellsAreLabelledZero}
use Rattle.sz_spec.specs.LawsRegions.{HighCellsAreLabelledByTheLeast}

-- ---- tests

eq-flip : (m n : ℕ) → (m == n) ≡ (n == m)
eq-flip m n = grind (arith, nat_tests)

-- neighbours are neighbours either way
pub neighbours-flip : (e : Extent) (a b : Cell) → are_neighbours e a b ≡ are_neighbours e b a
neighbours-flip e a b =
    let beside = ap₂ (λ (p q : Bool). p && q) (eq-flip a.row b.row)
    (or_comm (a.col + 1 == b.col) (b.col + 1 == a.col)) in
    let above = ap₂ (λ (p q : Bool). p && q) (eq-flip a.col b.col)
    (or_comm (a.row + 1 == b.row) (b.row + 1 == a.row)) in
    ap₂ (λ (p q : Bool). p && q) (eq-flip (layer_of e a) (layer_of e b))
    (ap₂ (λ (p q : Bool). p || q) beside above)

-- ---- filters of ranges

-- a test that passes all that another passes keeps the same numbers, or more of them
filter-grows : (p q : ℕ → Bool) (a n : ℕ)
    → ((k : ℕ) → a ≤ k → k < a + n → p k ≡ true → q k ≡ true)
    → (filter q (range_with_len a n) ≡ filter p (range_with_len a n))
    ⊎ (length (filter p (range_with_len a n)) < length (filter q (range_with_len a n)))
filter-grows p q a zero h = inl refl
filter-grows p q a (suc n) h =
    let rest = filter-grows p q (a + 1) n (λ k low high. h k (omega arith) (omega arith)) in
    elim (cases_Bool (p a)) [
      | inl kept ↦
          rw (kept, h a (omega arith) (omega arith) kept)
          (elim rest [ inl same ↦ inl (ap (λ (xs : List ℕ). a ∷ xs) same) | inr more ↦ inr (omega arith) ])
      | inr left ↦
          elim (cases_Bool (q a)) [
            | inl also ↦
                rw (left, also)
                (inr (elim rest [ inl same ↦ omega (arith, ap length same) | inr more ↦ omega arith ]))
            | inr neither ↦ rw (left, neither) rest
          ]
    ]

-- the same of sets made by tests
sets-grow : (e : Extent) (p q : Cell → Bool) → ((c : Cell) → p c ≡ true → q c ≡ true)
    → (cells_where e q ≡ cells_where e p)
    ⊎ (length (cells_where e p).indexes < length (cells_where e q).indexes)
sets-grow e p q h =
    let make : List ℕ → Cells = λ xs. record { extent = e; indexes = xs } in
    elim (filter-grows (λ k. p (cell_of e k)) (λ k. q (cell_of e k)) 0 (size_of e)
    (λ k low high. h (cell_of e k))) [
      | inl same ↦ inl (ap make same)
      | inr more ↦ inr more
    ]

-- ---- spreads of a set of high cells

-- after any number of spreads it is a set made by a test: that which finds a cell in it
pub spreads-made : (n : ℕ) (t : ℤ) (g : Grid) (p : Cell → Bool)
    → spreads n t g (cells_where g.extent p)
    ≡ cells_where g.extent (has (spreads n t g (cells_where g.extent p)))
spreads-made zero t g p = sym (cells_where-has g.extent p)
spreads-made (suc n) t g p =
    let s = spreads n t g (cells_where g.extent p) in
    sym (cells_where-has g.extent (λ c. is_high t g c && (has s c || any_cell (are_neighbours g.extent c) s)))

-- its cells are of the array
spreads-held : (n : ℕ) (t : ℤ) (g : Grid) (p : Cell → Bool) (x : Cell)
    → has (spreads n t g (cells_where g.extent p)) x ≡ true → holds g.extent x ≡ true
spreads-held n t g p x inside =
    let s = spreads n t g (cells_where g.extent p) in
    let there = subst (λ (z : Cells). has z x ≡ true) (spreads-made n t g p) inside in
    (and_parts (holds g.extent x) (has s x) (sym (has-cells_where_any g.extent (has s) x) ∙ there)).0

-- what is in a spread: a high cell of the array that was there, or that has a neighbour that was
spread-has : (t : ℤ) (g : Grid) (s : Cells) (x : Cell)
    → has (spread t g s) x
    ≡ (holds g.extent x && (is_high t g x && (has s x || any_cell (are_neighbours g.extent x) s)))
spread-has t g s x =
    has-cells_where_any g.extent (λ c. is_high t g c && (has s c || any_cell (are_neighbours g.extent c) s)) x

-- its cells are high where those of the first set are
spreads-high : (n : ℕ) (t : ℤ) (g : Grid) (p : Cell → Bool)
    → ((c : Cell) → p c ≡ true → is_high t g c ≡ true)
    → (x : Cell) → has (spreads n t g (cells_where g.extent p)) x ≡ true → is_high t g x ≡ true
spreads-high zero t g p high x inside =
    high x (and_parts (holds g.extent x) (p x) (sym (has-cells_where_any g.extent p x) ∙ inside)).1
spreads-high (suc n) t g p high x inside =
    let s = spreads n t g (cells_where g.extent p) in
    let found = has s x || any_cell (are_neighbours g.extent x) s in
    let parts = and_parts (holds g.extent x) (is_high t g x && found) (sym (spread-has t g s x) ∙ inside) in
    (and_parts (is_high t g x) found parts.1).0

-- a spread keeps what was there
spreads-keep : (n : ℕ) (t : ℤ) (g : Grid) (p : Cell → Bool)
    → ((c : Cell) → p c ≡ true → is_high t g c ≡ true)
    → (x : Cell) → has (spreads n t g (cells_where g.extent p)) x ≡ true
    → has (spreads (suc n) t g (cells_where g.extent p)) x ≡ true
spreads-keep n t g p high x inside =
    let s = spreads n t g (cells_where g.extent p) in
    spread-has t g s x
    ∙ and_from _ _ (spreads-held n t g p x inside)
    (and_from _ _ (spreads-high n t g p high x inside)
    (or_left (has s x) (any_cell (are_neighbours g.extent x) s) inside))

-- and has the high neighbours of what was there
spreads-reach : (n : ℕ) (t : ℤ) (g : Grid) (p : Cell → Bool) (x y : Cell)
    → has (spreads n t g (cells_where g.extent p)) x ≡ true → holds g.extent y ≡ true
    → is_high t g y ≡ true
    → are_neighbours g.extent x y ≡ true → has (spreads (suc n) t g (cells_where g.extent p)) y ≡ true
spreads-reach n t g p x y inside held high near =
    let s = spreads n t g (cells_where g.extent p) in
    let e = g.extent in
    let found : any_cell (are_neighbours e y) (cells_where e (has s)) ≡ true =
    any_cell-from e (has s) (are_neighbours e y) x (spreads-held n t g p x inside) inside
    (neighbours-flip e y x ∙ near) in
    let there = subst (λ (z : Cells). any_cell (are_neighbours e y) z ≡ true)
    (sym (spreads-made n t g p)) found in
    spread-has t g s y
    ∙ and_from _ _ held (and_from _ _ high (or_right (has s y) (any_cell (are_neighbours e y) s) there))

-- a further spread changes nothing, or makes it longer
spreads-step : (n : ℕ) (t : ℤ) (g : Grid) (p : Cell → Bool)
    → ((c : Cell) → p c ≡ true → is_high t g c ≡ true)
    → (spreads (suc n) t g (cells_where g.extent p) ≡ spreads n t g (cells_where g.extent p))
    ⊎ (length (spreads n t g (cells_where g.extent p)).indexes
    < length (spreads (suc n) t g (cells_where g.extent p)).indexes)
spreads-step n t g p high =
    let e = g.extent in
    let s = spreads n t g (cells_where e p) in
    let more = spreads (suc n) t g (cells_where e p) in
    let made = spreads-made n t g p in
    let made_more = spreads-made (suc n) t g p in
    elim (sets-grow e (has s) (has more) (spreads-keep n t g p high)) [
      | inl same ↦ inl (made_more ∙ same ∙ sym made)
      | inr longer ↦
          inr (omega
          (arith, ap (λ (z : Cells). length z.indexes) made, ap (λ (z : Cells). length z.indexes) made_more))
    ]

-- so after n spreads a further one changes nothing, or there are more than n cells
spreads-count : (n : ℕ) (t : ℤ) (g : Grid) (p : Cell → Bool)
    → ((c : Cell) → p c ≡ true → is_high t g c ≡ true)
    → (spreads (suc n) t g (cells_where g.extent p) ≡ spreads n t g (cells_where g.extent p))
    ⊎ (n < length (spreads (suc n) t g (cells_where g.extent p)).indexes)
spreads-count zero t g p high =
    elim (spreads-step zero t g p high) [ inl same ↦ inl same | inr longer ↦ inr (omega arith) ]
spreads-count (suc n) t g p high =
    elim (spreads-count n t g p high) [
      | inl same ↦ inl (ap (spread t g) same)
      | inr many ↦
          elim (spreads-step (suc n) t g p high) [ inl same ↦ inl same | inr longer ↦ inr (omega arith) ]
    ]

-- after as many as there are cells it changes nothing
pub spreads-end : (t : ℤ) (g : Grid) (p : Cell → Bool)
    → ((c : Cell) → p c ≡ true → is_high t g c ≡ true)
    → spread t g (spreads (size_of g.extent) t g (cells_where g.extent p))
    ≡ spreads (size_of g.extent) t g (cells_where g.extent p)
spreads-end t g p high =
    let e = g.extent in
    let s = spreads (size_of e) t g (cells_where e p) in
    let test : Cell → Bool = λ c. is_high t g c && (has s c || any_cell (are_neighbours e c) s) in
    let few = rising-length (size_of e) 0 (size_of e) (cells_where e test).indexes (omega arith) (sets-rising e test) in
    elim (spreads-count (size_of e) t g p high) [ inl same ↦ same | inr many ↦ absurd (omega arith) ]

-- ---- components

-- the test that makes the set from which a component is spread
abbrev seed : ℤ → Grid → Cell → Cell → Bool
seed t g o x = is_same x o && is_high t g x

seed-high : (t : ℤ) (g : Grid) (o c : Cell) → seed t g o c ≡ true → is_high t g c ≡ true
seed-high t g o c h = (and_parts (is_same c o) (is_high t g c) h).1

-- a further spread adds nothing to a component
pub component-whole : ComponentsAreWhole
component-whole t g o = spreads-end t g (seed t g o) (seed-high t g o)

-- a component is a set made by a test
pub component-made : (t : ℤ) (g : Grid) (o : Cell)
    → component_of t g o ≡ cells_where g.extent (is_connected t g o)
component-made t g o = spreads-made (size_of g.extent) t g (seed t g o)

-- its cells are of the array, and high
pub connected-held : (t : ℤ) (g : Grid) (o x : Cell) → is_connected t g o x ≡ true
    → holds g.extent x ≡ true
connected-held t g o x = spreads-held (size_of g.extent) t g (seed t g o) x

-- its cells are high
pub connected-high : (t : ℤ) (g : Grid) (o x : Cell) → is_connected t g o x ≡ true → is_high t g x ≡ true
connected-high t g o x = spreads-high (size_of g.extent) t g (seed t g o) (seed-high t g o) x

-- it is closed
pub component-closed : ComponentsAreClosed
component-closed t g o x y inside held high near =
    let further = spreads-reach (size_of g.extent) t g (seed t g o) x y inside held high near in
    subst (λ (z : Cells). has z y ≡ true) (component-whole t g o) further

-- any number of spreads keeps the cell itself
seed-stays : (n : ℕ) (t : ℤ) (g : Grid) (o : Cell) → holds g.extent o ≡ true → is_high t g o ≡ true
    → has (spreads n t g (cells_where g.extent (seed t g o))) o ≡ true
seed-stays zero t g o held high =
    has-cells_where_any g.extent (seed t g o) o ∙ and_from _ _ held (and_from _ _ (is_same-refl o) high)
seed-stays (suc n) t g o held high = spreads-keep n t g (seed t g o) (seed-high t g o) o
    (seed-stays n t g o held high)

-- a high cell is connected to itself
pub connected-self : HighCellsAreConnectedToThemselves
connected-self t g o held high = seed-stays (size_of g.extent) t g o held high

-- ---- lists of high neighbours

-- a list leads from a high cell of the array
pub leads-first : (t : ℤ) (g : Grid) (o : Cell) (cells : List Cell) (x : Cell) → Leads t g o cells x
    → (holds g.extent o ≡ true) × (is_high t g o ≡ true)
leads-first t g o [] x led = (led.0, led.1)
leads-first t g o (c ∷ cells) x led = (led.0, led.1)

-- one cell more at its end
leads-more : (t : ℤ) (g : Grid) (o : Cell) (cells : List Cell) (x y : Cell) → Leads t g o cells x
    → are_neighbours g.extent x y ≡ true → holds g.extent y ≡ true → is_high t g y ≡ true
    → Leads t g o (cells ++ y ∷ []) y
leads-more t g o [] x y led near held high =
    (led.0, led.1, subst (λ (z : Cell). are_neighbours g.extent z y ≡ true) (sym led.2) near, (held, high, refl))
leads-more t g o (c ∷ cells) x y led near held high =
    (led.0, led.1, led.2, leads-more t g c cells x y led.3 near held high)

-- one list after another
leads-join : (t : ℤ) (g : Grid) (o : Cell) (cells : List Cell) (x : Cell) (more : List Cell) (y : Cell)
    → Leads t g o cells x → Leads t g x more y → Leads t g o (cells ++ more) y
leads-join t g o [] x more y led on = subst (λ (z : Cell). Leads t g z more y) (sym led.2) on
leads-join t g o (c ∷ cells) x more y led on = (led.0, led.1, led.2, leads-join t g c cells x more y led.3 on)

-- a list back
leads-back : (t : ℤ) (g : Grid) (o : Cell) (cells : List Cell) (x : Cell) → Leads t g o cells x
    → (back : List Cell) × Leads t g x back o
leads-back t g o [] x led =
    ([], subst (λ (z : Cell). Leads t g z [] o) led.2 (led.0, led.1, refl))
leads-back t g o (c ∷ cells) x led =
    let rest = leads-back t g c cells x led.3 in
    (rest.0 ++ o ∷ [], leads-more t g x rest.0 c o rest.1 (neighbours-flip g.extent c o ∙ led.2) led.0 led.1)

-- a cell that is there after n spreads is led to
spreads-led : (n : ℕ) (t : ℤ) (g : Grid) (o x : Cell)
    → has (spreads n t g (cells_where g.extent (seed t g o))) x ≡ true
    → (cells : List Cell) × Leads t g o cells x
spreads-led zero t g o x inside =
    let parts = and_parts (holds g.extent x) (seed t g o x)
    (sym (has-cells_where_any g.extent (seed t g o) x) ∙ inside) in
    let both = and_parts (is_same x o) (is_high t g x) parts.1 in
    let same = is_same-true x o both.0 in
    ([], (ap (holds g.extent) (sym same) ∙ parts.0, ap (is_high t g) (sym same) ∙ both.1, sym same))
spreads-led (suc n) t g o x inside =
    let e = g.extent in
    let p = seed t g o in
    let s = spreads n t g (cells_where e p) in
    let found = has s x || any_cell (are_neighbours e x) s in
    let parts = and_parts (holds e x) (is_high t g x && found) (sym (spread-has t g s x) ∙ inside) in
    let both = and_parts (is_high t g x) found parts.1 in
    elim (or_cases (has s x) (any_cell (are_neighbours e x) s) both.1) [
      | inl before ↦ spreads-led n t g o x before
      | inr beside ↦
          let there = subst (λ (z : Cells). any_cell (are_neighbours e x) z ≡ true)
          (spreads-made n t g p) beside in
          let y = any_cell-true e (has s) (are_neighbours e x) there in
          let led = spreads-led n t g o y.0 y.2 in
          (led.0 ++ x ∷ [], leads-more t g o led.0 y.0 x led.1 (neighbours-flip e y.0 x ∙ y.3) parts.0 both.0)
    ]

-- a connected cell is led to
pub connected-led : (t : ℤ) (g : Grid) (o x : Cell) → is_connected t g o x ≡ true
    → (cells : List Cell) × Leads t g o cells x
connected-led t g o x = spreads-led (size_of g.extent) t g o x

-- what a list leads to from a connected cell is connected
led-onward : (t : ℤ) (g : Grid) (o c : Cell) (cells : List Cell) (x : Cell)
    → is_connected t g o c ≡ true → Leads t g c cells x → is_connected t g o x ≡ true
led-onward t g o c [] x inside led = subst (λ (z : Cell). is_connected t g o z ≡ true) led.2 inside
led-onward t g o c (d ∷ cells) x inside led =
    let first = leads-first t g d cells x led.3 in
    led-onward t g o d cells x (component-closed t g o c d inside first.0 first.1 led.2) led.3

-- what a list leads to is connected
pub led-connected : (t : ℤ) (g : Grid) (o : Cell) (cells : List Cell) (x : Cell)
    → Leads t g o cells x → is_connected t g o x ≡ true
led-connected t g o cells x led =
    let first = leads-first t g o cells x led in
    led-onward t g o o cells x (connected-self t g o first.0 first.1) led

-- ---- the laws

-- connected cells are those that are led to
pub connected-is_led : ConnectedCellsAreLedTo
connected-is_led t g o x = (connected-led t g o x, λ known. led-connected t g o known.0 x known.1)

-- both of two connected cells are high cells of the array
pub connected-both_high : ConnectedCellsAreHigh
connected-both_high t g o x inside =
    let led = connected-led t g o x inside in
    let first = leads-first t g o led.0 x led.1 in
    (first.0, first.1, connected-held t g o x inside, connected-high t g o x inside)

-- connection goes back
pub connected-back : (t : ℤ) (g : Grid) (o x : Cell) → is_connected t g o x ≡ true
    → is_connected t g x o ≡ true
connected-back t g o x inside =
    let led = connected-led t g o x inside in
    let back = leads-back t g o led.0 x led.1 in
    led-connected t g x back.0 o back.1

-- so connection is the same both ways
pub connected-symmetric : ConnectionIsSymmetric
connected-symmetric t g o x =
    same_truth (is_connected t g o x) (is_connected t g x o) (connected-back t g o x) (connected-back t g x o)

-- and goes by parts
pub connected-parts : ConnectionGoesByParts
connected-parts t g o x y inside onward =
    let led = connected-led t g o x inside in
    let more = connected-led t g x y onward in
    led-connected t g o (led.0 ++ more.0) y (leads-join t g o led.0 x more.0 y led.1 more.1)

-- connected cells have one component
pub component-same : ConnectedCellsHaveOneComponent
component-same t g o x inside =
    let back = connected-back t g o x inside in
    component-made t g x
    ∙ cells_where-ext g.extent (is_connected t g x) (is_connected t g o)
    (λ c held. same_truth (is_connected t g x c) (is_connected t g o c) (connected-parts t g o x c inside)
    (connected-parts t g x o c back))
    ∙ sym (component-made t g o)

-- ---- labels

-- the first number of a range that passes a test, where one does
filter-first : (p : ℕ → Bool) (i a n : ℕ) → a ≤ i → i < a + n → p i ≡ true
    → (k : ℕ) × (rest : List ℕ) × (filter p (range_with_len a n) ≡ k ∷ rest) × (k < a + n)
    × (p k ≡ true)
    × ((j : ℕ) → a ≤ j → j < k → p j ≡ false)
filter-first p i a zero low high passes = absurd (omega arith)
filter-first p i a (suc n) low high passes =
    elim (cases_Bool (p a)) [
      | inl kept ↦ (
        a,
        filter p (range_with_len (a + 1) n),
        rw kept refl,
        omega arith,
        kept,
        λ j more less. absurd
            (omega arith),
      )
      | inr left ↦
          elim (cases_order a i) [
            | inl same ↦ absurd (true≢false (sym passes ∙ ap p (sym same) ∙ left))
            | inr order ↦
                elim order [
                  | inl below ↦
                      let rest = filter-first p i (a + 1) n (omega arith) (omega arith) passes in
                      let before : (j : ℕ) → a ≤ j → j < rest.0 → p j ≡ false =
                      λ j more less.
                      elim (cases_order a j) [
                        | inl same ↦ ap p (sym same) ∙ left
                        | inr apart ↦
                            elim apart [
                              | inl after ↦ rest.5 j (omega arith) less
                              | inr under ↦ absurd
                                  (omega arith)
                            ]
                      ] in
                      (rest.0, rest.1, (rw left rest.2), omega (arith, rest.3), rest.4, before)
                  | inr above ↦ absurd (omega arith)
                ]
          ]
    ]

-- the indexes of a component
pub component-indexes : (t : ℤ) (g : Grid) (o : Cell)
    → (component_of t g o).indexes
    ≡ filter (λ k. is_connected t g o (cell_of g.extent k)) (range_with_len 0 (size_of g.extent))
component-indexes t g o = ap (λ (z : Cells). z.indexes) (component-made t g o)

-- the label of a cell that is not high
pub label-low : OtherCellsAreLabelledZero
label-low t g o low =
    let none : (k : ℕ) → is_connected t g o (cell_of g.extent k) ≡ false =
    λ k.
    false_from_ne_true (is_connected t g o (cell_of g.extent k))
    (λ inside. true≢false (sym (connected-both_high t g o (cell_of g.extent k) inside).1 ∙ low)) in
    let empty : (component_of t g o).indexes ≡ [] =
    component-indexes t g o
    ∙ filter_agree (λ k. is_connected t g o (cell_of g.extent k)) (λ _. false) none
    (range_with_len 0 (size_of g.extent))
    ∙ filter-false (range_with_len 0 (size_of g.extent)) in
    ap (λ (xs : List ℕ). Some (label_of xs)) empty

label-first : (t : ℤ) (g : Grid) (o : Cell) (k : ℕ) (rest : List ℕ)
    → filter (λ j. is_connected t g o (cell_of g.extent j)) (range_with_len 0 (size_of g.extent)) ≡ k ∷ rest
    → labelled_at t g o ≡ Some (pos (1 + k))
label-first t g o k rest starts = ap (λ (xs : List ℕ). Some (label_of xs)) (component-indexes t g o ∙ starts)

-- the label of a high cell
pub label-high : HighCellsAreLabelledByTheLeast
label-high t g o held high =
    let e = g.extent in
    let test : ℕ → Bool = λ k. is_connected t g o (cell_of e k) in
    let itself : test (index_of e o) ≡ true =
    ap (is_connected t g o) (cell-index e o held) ∙ connected-self t g o held high in
    let first = filter-first test (index_of e o) 0 (size_of e) (omega arith)
    (omega (arith, index-below e o held)) itself in (
      first.0,
      label-first t g o first.0 first.1 first.2,
      omega (arith, first.3),
      first.4,
      λ j below. first.5 j (omega arith) below,
    )
