-- What follows of the components that were marked while a set is traced.
--
-- The key idea: the first cell of a component stands for it, since cells with one first cell are connected; so where
-- it is marked the component was added whole. And the relation goes both ways, so the image forward is the one back.
use Rattle.std.proofs.Common.{◌≡◌, ℕ, ◌+◌, ℤ, pos, Bool, true, false, ◌&&◌, ◌||◌, ◌==◌, List, [], ◌∷◌}
use Rattle.std.proofs.Common.{refl, sym, ap, ap₂, ◌∙◌, arith, inl, inr}
use Rattle.std.specs.List.{list_any}
use Rattle.std.proofs.Math.Bool.{or-false}
use Rattle.std.proofs.lemmas.Bool.{and_parts, and_from, cases_Bool, or_cases}
use Rattle.std.proofs.lemmas.Bool.{or_left, or_right, true≢false, false_from_ne_true}
use Rattle.std.proofs.lemmas.Bool.Decides.{nat_tests}
use Rattle.sz_cells.specs.declared.Cell.{Cell}
use Rattle.sz_cells.specs.Extent.{Extent, holds, index_of, cell_of}
use Rattle.sz_cells.specs.Cells.{Cells, is_same, cells_where, any_cell, has, with_those, with_cell, no_cells}
use Rattle.sz_cells.proofs.Sets.{has-cells_where_any, cells_where-ext, is_same-true}
use Rattle.sz_spec.specs.declared.modes.Dir.TheVariants.{Back, Forward}
use Rattle.sz_spec.specs.declared.modes.Dir.{Dir}
use Rattle.sz_spec.specs.declared.op.Op.TheVariants.{Regions}
use Rattle.sz_spec.specs.Values.{Grid, input_at, extent_at}
use Rattle.sz_spec.specs.Shapes.{Site}
use Rattle.sz_spec.specs.Lineage.{related}
use Rattle.sz_spec.specs.Operators.Regions.{is_high, is_connected, component_of, label_of}
use Rattle.sz_spec.proofs.Components.{label-high, connected-back, connected-parts, connected-held, connected-symmetric}
use Rattle.sz_spec.proofs.Components.{connected-both_high, component-made}
use Rattle.sz_spec.specs.Work.{IsAtWork}
use Rattle.sz_spec.specs.Sides.{image_in}
use Rattle.sz_frame.specs.Walks.{traced}
use Rattle.sz_frame.proofs.Added.{with-ext}
use Rattle.sz_ops_region.specs.Tracing.{first_index, first_of, AreMarked}
use Rattle.sz_ops_region.proofs.Labels.{related-high, related-low, one-shape}

-- ---- the first cell of a component

first-label : (ks : List ℕ) (k : ℕ) → label_of ks ≡ pos (1 + k) → first_index ks ≡ k
first-label [] k is = let same : 0 ≡ 1 + k = cc is in absurd (omega (arith, same))
first-label (j ∷ ks) k is = let same : 1 + j ≡ 1 + k = cc is in omega (arith, same)

-- it is connected to the cell
pub first-connected : (t : ℤ) (g : Grid) (o : Cell) → holds g.extent o ≡ true → is_high t g o ≡ true
    → is_connected t g o (first_of t g o) ≡ true
first-connected t g o held high =
    let first = label-high t g o held high in
    let label : label_of (component_of t g o).indexes ≡ pos (1 + first.0) = cc first.1 in
    ap (λ (k : ℕ). is_connected t g o (cell_of g.extent k)) (first-label (component_of t g o).indexes first.0 label)
    ∙ first.3

-- cells with one first cell are connected
first-same : (t : ℤ) (g : Grid) (o c : Cell) → holds g.extent o ≡ true → is_high t g o ≡ true
    → holds g.extent c ≡ true → is_high t g c ≡ true → first_of t g c ≡ first_of t g o
    → is_connected t g o c ≡ true
first-same t g o c held high held_c high_c same =
    let here = first-connected t g o held high in
    let there : is_connected t g c (first_of t g o) ≡ true =
    ap (is_connected t g c) (sym same) ∙ first-connected t g c held_c high_c in
    connected-parts t g o (first_of t g o) c here (connected-back t g c (first_of t g o) there)

-- ---- sets that grow

-- what was there stays
stays : (set : Cells) (p : Cell → Bool) (x : Cell) → has set x ≡ true → has (with_those set p) x ≡ true
stays set p x there =
    has-cells_where_any set.extent (λ c. has set c || p c) x
    ∙ and_from _ _ (and_parts (holds set.extent x) (list_any (λ k. k == index_of set.extent x) set.indexes) there).0
    (or_left (has set x) (p x) there)

comes : (set : Cells) (p : Cell → Bool) (x : Cell) → holds set.extent x ≡ true → p x ≡ true
    → has (with_those set p) x ≡ true
comes set p x held passes =
    has-cells_where_any set.extent (λ c. has set c || p c) x
    ∙ and_from _ _ held (or_right (has set x) (p x) passes)

-- what adds only what is there adds nothing
there-already : (set : Cells) (p : Cell → Bool) → set ≡ cells_where set.extent (has set)
    → ((x : Cell) → p x ≡ true → has set x ≡ true) → set ≡ with_those set p
there-already set p own all =
    own ∙ cells_where-ext set.extent (has set) (λ c. has set c || p c)
    (λ c held.
    elim (cases_Bool (p c)) [
      | inl passes ↦ all c passes ∙ sym (or_left (has set c) (p c) (all c passes))
      | inr fails ↦ rw fails (sym (or-false (has set c)))
    ])

-- a component is of the array's shape
pub component-extent : (t : ℤ) (g : Grid) (o : Cell) → (component_of t g o).extent ≡ g.extent
component-extent t g o = ap (λ (z : Cells). z.extent) (component-made t g o)

-- ---- marks

pub marked-none : (t : ℤ) (g : Grid) (e : Extent) (set : Cells) → AreMarked t g (no_cells e) set
marked-none t g e set o x held high there joined =
    absurd (true≢false (sym (and_parts (holds e (first_of t g o)) false there).1))

pub marked-grows : (t : ℤ) (g : Grid) (marks set : Cells) (p : Cell → Bool) → AreMarked t g marks set
    → AreMarked t g marks (with_those set p)
marked-grows t g marks set p are o x held high there joined = stays set p x (are o x held high there joined)

-- a component that is added is marked
pub marked-more : (t : ℤ) (g : Grid) (marks set : Cells) (o : Cell) → AreMarked t g marks set
    → set.extent ≡ g.extent → holds g.extent o ≡ true → is_high t g o ≡ true
    → AreMarked t g (with_cell marks (first_of t g o)) (with_those set (is_connected t g o))
marked-more t g marks set o are extent held high c x held_c high_c there joined =
    let parts = and_parts (holds marks.extent (first_of t g c)) (has marks (first_of t g c)
    || is_same (first_of t g c) (first_of t g o))
    (sym (has-cells_where_any marks.extent (λ d. has marks d || is_same d (first_of t g o)) (first_of t g c))
    ∙ there) in
    elim (or_cases (has marks (first_of t g c)) (is_same (first_of t g c) (first_of t g o)) parts.1) [
      | inl before ↦ stays set (is_connected t g o) x (are c x held_c high_c before joined)
      | inr same ↦
          let near = first-same t g o c held high held_c high_c (is_same-true (first_of t g c) (first_of t g o) same) in
          comes set (is_connected t g o) x (ap (λ (e : Extent). holds e x) extent ∙ connected-held t g c x joined)
          (connected-parts t g o c x near joined)
    ]

-- ---- what a cell adds

-- a high cell that is asked for: its component, or nothing where that is marked
pub traced-high : (s : Site) (inputs : List Grid) (t : ℤ) (from : Cells) (o : Cell) (to : Cells)
    → s.op ≡ Regions t → has from o ≡ true → is_high t (input_at inputs 0) o ≡ true
    → with_those to (is_connected t (input_at inputs 0) o)
    ≡ with_those to (traced Back (related s.op inputs 0) from o)
traced-high s inputs t from o to is asked high =
    with-ext to (is_connected t (input_at inputs 0) o) (traced Back (related s.op inputs 0) from o)
    (λ x held. sym (related-high s inputs t 0 o x is refl high)
    ∙ sym (ap (λ (b : Bool). b && related s.op inputs 0 o x) asked))

pub traced-marked : (s : Site) (inputs : List Grid) (t : ℤ) (from : Cells) (o : Cell) (marks to : Cells)
    → s.op ≡ Regions t → has from o ≡ true → is_high t (input_at inputs 0) o ≡ true
    → to ≡ cells_where to.extent (has to) → holds (input_at inputs 0).extent o ≡ true
    → AreMarked t (input_at inputs 0) marks to → has marks (first_of t (input_at inputs 0) o) ≡ true
    → to ≡ with_those to (traced Back (related s.op inputs 0) from o)
traced-marked s inputs t from o marks to is asked high own held are there =
    there-already to (is_connected t (input_at inputs 0) o) own (λ x joined. are o x held high there joined)
    ∙ traced-high s inputs t from o to is asked high

-- any other: itself
pub traced-itself : (s : Site) (inputs : List Grid) (from : Cells) (o : Cell) (to : Cells)
    → has from o ≡ true → ((x : Cell) → related s.op inputs 0 o x ≡ is_same x o)
    → with_those to (λ x. is_same x o) ≡ with_those to (traced Back (related s.op inputs 0) from o)
traced-itself s inputs from o to asked itself =
    with-ext to (λ x. is_same x o) (traced Back (related s.op inputs 0) from o)
    (λ x held. sym (itself x) ∙ sym (ap (λ (b : Bool). b && related s.op inputs 0 o x) asked))

-- ---- both directions

apart-joined : (t : ℤ) (g : Grid) (o x : Cell) → is_high t g x ≡ false → is_connected t g o x ≡ false
apart-joined t g o x low =
    false_from_ne_true (is_connected t g o x)
    (λ joined. true≢false (sym (connected-both_high t g o x joined).3 ∙ low))

apart-same : (t : ℤ) (g : Grid) (o x : Cell) → is_high t g o ≡ true → is_high t g x ≡ false
    → is_same o x ≡ false
apart-same t g o x high low =
    false_from_ne_true (is_same o x)
    (λ same. true≢false (sym high ∙ ap (is_high t g) (is_same-true o x same) ∙ low))

same-turned : (x o : Cell) → is_same x o ≡ is_same o x
same-turned x o = grind (arith, nat_tests)

related-turned : (s : Site) (inputs : List Grid) (t : ℤ) (i : ℕ) (o x : Cell) → s.op ≡ Regions t → i ≡ 0
    → related s.op inputs i o x ≡ related s.op inputs i x o
related-turned s inputs t i o x is first =
    let g = input_at inputs 0 in
    elim (cases_Bool (is_high t g o)) [
      | inl high ↦
          elim (cases_Bool (is_high t g x)) [
            | inl tall ↦
                related-high s inputs t i o x is first high ∙ connected-symmetric t g o x
                ∙ sym (related-high s inputs t i x o is first tall)
            | inr low ↦
                related-high s inputs t i o x is first high ∙ apart-joined t g o x low
                ∙ sym (apart-same t g o x high low) ∙ sym (related-low s inputs t i x o is first low)
          ]
      | inr low ↦
          elim (cases_Bool (is_high t g x)) [
            | inl tall ↦
                related-low s inputs t i o x is first low ∙ apart-same t g x o tall low
                ∙ sym (apart-joined t g x o low) ∙ sym (related-high s inputs t i x o is first tall)
            | inr short ↦
                related-low s inputs t i o x is first low ∙ same-turned x o
                ∙ sym (related-low s inputs t i x o is first short)
          ]
    ]

any-ext : (p q : ℕ → Bool) → ((k : ℕ) → p k ≡ q k) → (ks : List ℕ) → list_any p ks ≡ list_any q ks
any-ext p q same [] = refl
any-ext p q same (k ∷ ks) = ap₂ (λ (a b : Bool). a || b) (same k) (any-ext p q same ks)

-- the image forward is the image back
pub image-turned : (s : Site) (inputs : List Grid) (t : ℤ) (i : ℕ) (dir : Dir) (from : Cells) → s.op ≡ Regions t
    → i ≡ 0 → IsAtWork s inputs
    → image_in Back s 0 (related s.op inputs 0) from ≡ image_in dir s i (related s.op inputs i) from
image-turned s inputs t i Back from is first work =
    ap (λ (j : ℕ). image_in Back s j (related s.op inputs j) from) (sym first)
image-turned s inputs t i Forward from is first work =
    let e = extent_at s.ins 0 in
    ap (λ (j : ℕ). image_in Back s j (related s.op inputs j) from) (sym first)
    ∙ cells_where-ext (extent_at s.ins i) (λ x. any_cell (λ o. related s.op inputs i o x) from)
    (λ x. any_cell (λ o. related s.op inputs i x o) from)
    (λ x held. any-ext (λ k. related s.op inputs i (cell_of from.extent k) x)
    (λ k. related s.op inputs i x (cell_of from.extent k))
    (λ k. related-turned s inputs t i (cell_of from.extent k) x is first) from.indexes)
    ∙ ap (λ (d : Extent). cells_where d (λ x. any_cell (λ o. related s.op inputs i x o) from))
    (ap (extent_at s.ins) first ∙ one-shape s t is work.site.shape)
