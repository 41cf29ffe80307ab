-- What follows of labels.
--
-- The key idea: the label of a high cell names the first cell of its component, which is connected to it. So it names
-- no later cell than its own, and two high cells are connected exactly where their labels name one cell; and any other
-- cell is related to itself alone.
use Rattle.std.proofs.Common.{◌≡◌, ℕ, ◌+◌, ◌-◌, ◌<◌, ◌≤◌, ℤ, Bool, true, false, ◌&&◌, ◌||◌, ◌==◌, nat_le, nat_lt}
use Rattle.std.proofs.Common.{List, Option, Some, None, refl, sym, ap, ap₂, subst, ◌∙◌, arith, inl, inr, get_or}
use Rattle.std.proofs.Common.{lt-ltb, le-leb, true≢false, if◌then◌else◌, option_map}
use Rattle.std.specs.List.{list_any}
use Rattle.std.proofs.Math.Bool.{or-false}
use Rattle.std.proofs.lemmas.Bool.{cases_Bool, cases_lt, or_cases, or_right}
use Rattle.std.proofs.lemmas.Option.{unwrap_or-slice_get}
use Rattle.sz_cells.specs.declared.Cell.{Cell}
use Rattle.sz_cells.specs.Extent.{Extent, size_of, holds, index_of, cell_of}
use Rattle.sz_cells.specs.Cells.{Cells, is_same, any_cell, cells_where, has, no_cells, with_those}
use Rattle.sz_cells.proofs.Sets.{cell-index, index-cell}
use Rattle.sz_cells.proofs.Sets.{same_truth, is_same-refl, is_same-true, has-index, has-cells_where, cell-held}
use Rattle.sz_cells.proofs.Sets.{any_cell-true, any_cell-from, any_cell-same_turned}
use Rattle.sz_frame.specs.Single.{is_cell}
use Rattle.sz_frame.proofs.Added.{with-more, out-at_work}
use Rattle.sz_frame.proofs.Passing.{met-ext}
use Rattle.sz_spec.specs.declared.op.Op.{Op}
use Rattle.sz_spec.specs.declared.op.Op.TheVariants.{Regions}
use Rattle.sz_spec.specs.Values.{Grid, input_at, value_at}
use Rattle.sz_spec.specs.Shapes.{Site}
use Rattle.sz_spec.specs.Evaluation.{value_of, output_of}
use Rattle.sz_spec.specs.Lineage.{related}
use Rattle.sz_spec.specs.Operators.Regions.{is_high, is_connected, label_of, labelled_at}
use Rattle.sz_spec.specs.Work.{IsAtWork}
use Rattle.sz_spec.proofs.Components.{label-high, label-low, connected-self, connected-back, connected-parts}
use Rattle.sz_spec.proofs.Components.{component-same}
use Rattle.sz_spec.proofs.OutputValues.{output-value}
use Rattle.sz_ops_region.specs.Regions.{is_regions}
use Rattle.sz_ops_region.proofs.Labels.{grid-shape}
use Rattle.sz_refresh.specs.Changes.{reaches}
use Rattle.sz_refresh.specs.Names.{named, is_at, has_named, is_named, first_of}
use Rattle.sz_refresh.proofs.Changes.{reaches-either, with_those-none}
use Rattle.sz_refresh.proofs.Names.{none-found}

-- the least high value of the operator
pub threshold-of : (op : Op) → is_regions op ≡ true → (t : ℤ) × (op ≡ Regions t)
threshold-of (Regions t) known = (t, refl)
threshold-of op known = (cc)

-- ---- labels

-- that of a cell that is not high names none
pub low-named : (t : ℤ) (g : Grid) (v : Option ℤ) (n : ℕ) (o : Cell) → v ≡ labelled_at t g o → is_high t g o ≡ false
    → named 1 n v ≡ None
low-named t g v n o is low = ap (named 1 n) (is ∙ label-low t g o low)

-- that of a high cell names one that is connected to it
pub record IsFirst (t : ℤ) (g : Grid) (o : Cell) (v : Option ℤ) : Type 0 where
  pub place : ℕ
  pub is : named 1 (size_of g.extent) v ≡ Some place
  pub small : place < size_of g.extent
  pub early : place ≤ index_of g.extent o
  pub there : is_connected t g o (cell_of g.extent place) ≡ true

pub high-named : (t : ℤ) (g : Grid) (v : Option ℤ) (o : Cell) → v ≡ labelled_at t g o → holds g.extent o ≡ true
    → is_high t g o ≡ true → IsFirst t g o v
high-named t g v o is held high =
    let n = size_of g.extent in
    let first = label-high t g o held high in
    let k : ℕ = first.0 in
    let back : (1 + k) - 1 ≡ k = omega arith in
    let low : nat_le 1 (1 + k) ≡ true = le-leb 1 (1 + k) (omega arith) in
    let few : nat_lt ((1 + k) - 1) n ≡ true = lt-ltb ((1 + k) - 1) n (omega (arith, first.2)) in
    let some : Option ℕ = Some ((1 + k) - 1) in
    let none : Option ℕ = None in
    record {
      place = k;
      is = ap (named 1 n) (is ∙ first.1)
          ∙ ap₂ (λ (a b : Bool). if a && b then some else none) low few
          ∙ ap (λ (j : ℕ). Some j) back;
      small = first.2;
      early = elim (cases_lt (index_of g.extent o) k) [
        | inl before ↦
            let other : is_connected t g o (cell_of g.extent (index_of g.extent o)) ≡ false =
            first.4 (index_of g.extent o) before in
            let same : is_connected t g o (cell_of g.extent (index_of g.extent o)) ≡ true =
            ap (is_connected t g o) (cell-index g.extent o held) ∙ connected-self t g o held high in
            absurd (true≢false (sym same ∙ other))
        | inr least ↦ least
      ];
      there = first.3;
    }

-- before the least marked cell no label names a marked one
before-marked : (t : ℤ) (g : Grid) (v : Option ℤ) (o : Cell) (marked : Cells) (least : ℕ) → v ≡ labelled_at t g o
    → holds g.extent o ≡ true → marked.extent ≡ g.extent
    → ((k : ℕ) → k < least → list_any (λ i. i == k) marked.indexes ≡ false) → index_of g.extent o < least
    → has_named 1 v marked ≡ false
before-marked t g v o marked least is held shape none low =
    elim (cases_Bool (is_high t g o)) [
      | inl high ↦
          let one = high-named t g v o is held high in
          ap (λ (d : Extent). list_any (is_at (named 1 (size_of d) v)) marked.indexes) shape
          ∙ ap (λ (p : Option ℕ). list_any (is_at p) marked.indexes) one.is
          ∙ none one.place (omega (arith, one.early, low))
      | inr under ↦
          ap (λ (p : Option ℕ). list_any (is_at p) marked.indexes)
          (low-named t g v (size_of marked.extent) o is under) ∙ none-found marked.indexes
    ]

-- ---- what is related

-- the first cells of components are marked: a cell is related to one of a set exactly where it is in the set, or its
-- label names a marked cell
joined : (t : ℤ) (g : Grid) (v : Cell → Option ℤ) (from firsts : Cells) (o : Cell)
    → ((c : Cell) → holds g.extent c ≡ true → v c ≡ labelled_at t g c)
    → from ≡ cells_where g.extent (has from) → firsts.extent ≡ g.extent
    → ((m : Cell) → holds g.extent m ≡ true → has firsts m
    ≡ any_cell (λ x. is_cell (option_map (cell_of g.extent) (named 1 (size_of g.extent) (v x))) m) from)
    → holds g.extent o ≡ true
    → any_cell (λ x. if is_high t g o then is_connected t g o x else is_same x o) from
    ≡ (has from o || has_named 1 (v o) firsts)
joined t g v from firsts o same own shape marks held =
    let e : Extent = g.extent in
    let n : ℕ = size_of e in
    let pick : Bool → Cell → Bool = λ b x. if b then is_connected t g o x else is_same x o in
    let rel : Cell → Bool = λ x. pick (is_high t g o) x in
    elim (cases_Bool (is_high t g o)) [
      | inl high ↦
          let one = high-named t g (v o) o (same o held) held high in
          let first : Cell = cell_of e one.place in
          let leads : Option ℕ → Bool = λ p. is_cell (option_map (cell_of e) p) first in
          let test : Cell → Bool = λ x. leads (named 1 n (v x)) in
          let told : has_named 1 (v o) firsts ≡ has firsts first =
          ap (λ (d : Extent). list_any (is_at (named 1 (size_of d) (v o))) firsts.indexes) shape
          ∙ ap (λ (p : Option ℕ). list_any (is_at p) firsts.indexes) one.is
          ∙ sym (has-index firsts e one.place shape one.small) in
          let met : has firsts first ≡ any_cell test from = marks first (cell-held e one.place one.small) in
          same_truth (any_cell rel from) (has from o || has_named 1 (v o) firsts)
          (λ found.
          let at = any_cell-true e (has from) rel (sym (ap (any_cell rel) own) ∙ found) in
          let x : Cell = at.0 in
          let near : is_connected t g o x ≡ true = sym (ap (λ (b : Bool). pick b x) high) ∙ at.3 in
          let value : v x ≡ v o =
          same x at.1
          ∙ ap (λ (z : Cells). Some (label_of z.indexes)) (component-same t g o x near)
          ∙ sym (same o held) in
          let passes : test x ≡ true =
          ap leads (ap (named 1 n) value ∙ one.is) ∙ is_same-refl first in
          or_right (has from o) (has_named 1 (v o) firsts)
          (told ∙ met ∙ ap (any_cell test) own ∙ any_cell-from e (has from) test x at.1 at.2 passes))
          (λ passes.
          elim (or_cases (has from o) (has_named 1 (v o) firsts) passes) [
            | inl itself ↦
                ap (any_cell rel) own
                ∙ any_cell-from e (has from) rel o held itself
                (ap (λ (b : Bool). pick b o) high ∙ connected-self t g o held high)
            | inr by_name ↦
                let at =
                any_cell-true e (has from) test (sym (ap (any_cell test) own) ∙ sym met ∙ sym told ∙ by_name) in
                let y : Cell = at.0 in
                elim (cases_Bool (is_high t g y)) [
                  | inl high_y ↦
                      let two = high-named t g (v y) y (same y at.1) at.1 high_y in
                      let same_first : cell_of e two.place ≡ first =
                      is_same-true (cell_of e two.place) first (sym (ap leads two.is) ∙ at.3) in
                      let via : is_connected t g y first ≡ true =
                      ap (is_connected t g y) (sym same_first) ∙ two.there in
                      let near : is_connected t g o y ≡ true =
                      connected-parts t g o first y one.there (connected-back t g y first via) in
                      ap (any_cell rel) own
                      ∙ any_cell-from e (has from) rel y at.1 at.2 (ap (λ (b : Bool). pick b y) high ∙ near)
                  | inr low_y ↦
                      absurd (true≢false (sym at.3 ∙ ap leads (low-named t g (v y) n y (same y at.1) low_y)))
                ]
          ])
      | inr low ↦
          let none : has_named 1 (v o) firsts ≡ false =
          ap (λ (p : Option ℕ). list_any (is_at p) firsts.indexes)
          (low-named t g (v o) (size_of firsts.extent) o (same o held) low) ∙ none-found firsts.indexes in
          met-ext from rel (λ x. is_same x o) (λ x. ap (λ (b : Bool). pick b x) low)
          ∙ ap (any_cell (λ x. is_same x o)) own
          ∙ any_cell-same_turned e (has from) o held
          ∙ sym (ap (λ (b : Bool). has from o || b) none ∙ or-false (has from o))
    ]

-- the cells that the labels of the cells of a set name
abbrev pub firsts : Grid → Cells → Cell → Bool
firsts labels from m = any_cell (λ x. is_cell (first_of labels x) m) from

-- over one list of inputs
side : (s : Site) (inputs : List Grid) (t : ℤ) (out : Grid) (from marked : Cells) (values : List (Option ℤ)) (o : Cell)
    → s.op ≡ Regions t → IsAtWork s inputs → out ≡ output_of s.op inputs → from ≡ cells_where s.out (has from)
    → marked ≡ with_those (no_cells out.extent) (firsts out from) → values ≡ out.values → holds s.out o ≡ true
    → any_cell (λ x. related s.op inputs 0 o x) from
    ≡ (has from o || has_named 1 (get_or values (index_of s.out o) None) marked)
side s inputs t out from marked values o is work made own marks held_values held =
    let g : Grid = input_at inputs 0 in
    let shape : g.extent ≡ s.out = grid-shape s inputs t is work in
    let out_shape : out.extent ≡ s.out = ap (λ (z : Grid). z.extent) made ∙ out-at_work s inputs work in
    let both : out.extent ≡ g.extent = out_shape ∙ sym shape in
    let inside : (c : Cell) → holds g.extent c ≡ true → holds out.extent c ≡ true =
    λ c h. ap (λ (d : Extent). holds d c) both ∙ h in
    let value : (c : Cell) → holds g.extent c ≡ true → value_at out c ≡ labelled_at t g c =
    λ c h.
    ap (λ (z : Grid). value_at z c) made
    ∙ output-value s.op inputs c (sym (ap (λ (z : Grid). holds z.extent c) made) ∙ inside c h)
    ∙ ap (λ (op : Op). value_of op inputs c) is in
    let here : holds g.extent o ≡ true = ap (λ (d : Extent). holds d o) shape ∙ held in
    let has_marked : (m : Cell) → holds g.extent m ≡ true → has marked m
    ≡ any_cell (λ x. is_cell (option_map (cell_of g.extent) (named 1 (size_of g.extent) (value_at out x))) m) from =
    λ m h.
    ap (λ (set : Cells). has set m) (marks ∙ with_those-none out.extent (firsts out from))
    ∙ has-cells_where out.extent (firsts out from) m (inside m h)
    ∙ ap (λ (d : Extent). any_cell (λ x. is_cell (option_map (cell_of d) (named 1 (size_of d) (value_at out x))) m)
    from) both in
    let read : value_at out o ≡ get_or values (index_of s.out o) None =
    unwrap_or-slice_get out.values (index_of out.extent o) None
    ∙ ap₂ (λ (vs : List (Option ℤ)) (d : Extent). get_or vs (index_of d o) None) (sym held_values) out_shape in
    met-ext from (λ x. related s.op inputs 0 o x) (λ x. if is_high t g o then is_connected t g o x else is_same x o)
    (λ x. ap (λ (op : Op). related op inputs 0 o x) is)
    ∙ joined t g (value_at out) from marked o value (subst (λ (d : Extent). from ≡ cells_where d (has from)) (sym shape)
    own)
    (ap (λ (set : Cells). set.extent) marks ∙ both) has_marked here
    ∙ ap (λ (v : Option ℤ). has from o || has_named 1 v marked) read

-- the label of an index
pub labelled-index : (s : Site) (inputs : List Grid) (t : ℤ) (out : Grid) (values : List (Option ℤ)) (k : ℕ)
    → s.op ≡ Regions t → IsAtWork s inputs → out ≡ output_of s.op inputs → values ≡ out.values → k < size_of s.out
    → get_or values k None ≡ labelled_at t (input_at inputs 0) (cell_of s.out k)
labelled-index s inputs t out values k is work made held_values few =
    let o : Cell = cell_of s.out k in
    let out_shape : out.extent ≡ s.out = ap (λ (z : Grid). z.extent) made ∙ out-at_work s inputs work in
    let inside : holds out.extent o ≡ true = ap (λ (d : Extent). holds d o) out_shape ∙ cell-held s.out k few in
    sym (unwrap_or-slice_get out.values (index_of out.extent o) None
    ∙ ap₂ (λ (vs : List (Option ℤ)) (d : Extent). get_or vs (index_of d o) None) (sym held_values) out_shape
    ∙ ap (λ (n : ℕ). get_or values n None) (index-cell s.out k))
    ∙ ap (λ (z : Grid). value_at z o) made
    ∙ output-value s.op inputs o (sym (ap (λ (z : Grid). holds z.extent o) made) ∙ inside)
    ∙ ap (λ (op : Op). value_of op inputs o) is

-- the marked cells are of the input's shape
pub marked-shape : (s : Site) (inputs : List Grid) (t : ℤ) (out : Grid) (from marked : Cells) → s.op ≡ Regions t
    → IsAtWork s inputs → out ≡ output_of s.op inputs → marked ≡ with_those (no_cells out.extent) (firsts out from)
    → marked.extent ≡ (input_at inputs 0).extent
marked-shape s inputs t out from marked is work made marks =
    ap (λ (set : Cells). set.extent) marks
    ∙ ap (λ (z : Grid). z.extent) made
    ∙ out-at_work s inputs work
    ∙ sym (grid-shape s inputs t is work)

-- the same of the labels of one list of inputs, by their indexes
side-before : (s : Site) (inputs : List Grid) (t : ℤ) (out : Grid) (from marked : Cells) (values : List (Option ℤ))
    (k least : ℕ) → s.op ≡ Regions t → IsAtWork s inputs → out ≡ output_of s.op inputs
    → marked ≡ with_those (no_cells out.extent) (firsts out from) → values ≡ out.values → k < size_of s.out
    → ((j : ℕ) → j < least → list_any (λ i. i == j) marked.indexes ≡ false) → k < least
    → has_named 1 (get_or values k None) marked ≡ false
side-before s inputs t out from marked values k least is work made marks held_values few none low =
    let g : Grid = input_at inputs 0 in
    let o : Cell = cell_of s.out k in
    let shape : g.extent ≡ s.out = grid-shape s inputs t is work in
    let here : holds g.extent o ≡ true = ap (λ (d : Extent). holds d o) shape ∙ cell-held s.out k few in
    before-marked t g (get_or values k None) o marked least
    (labelled-index s inputs t out values k is work made held_values few) here
    (marked-shape s inputs t out from marked is work made marks) none
    (subst (λ (n : ℕ). n < least) (sym (ap (λ (d : Extent). index_of d o) shape ∙ index-cell s.out k)) low)

-- and of both
pub joined-before : (s : Site) (a b : List Grid) (t : ℤ) (old new : Grid) (from was now : Cells)
    (olds news : List (Option ℤ)) (k first second : ℕ) → s.op ≡ Regions t → IsAtWork s a → IsAtWork s b
    → old ≡ output_of s.op a → new ≡ output_of s.op b
    → was ≡ with_those (no_cells old.extent) (firsts old from)
    → now ≡ with_those (no_cells new.extent) (firsts new from) → olds ≡ old.values → news ≡ new.values
    → ((j : ℕ) → j < first → list_any (λ i. i == j) was.indexes ≡ false)
    → ((j : ℕ) → j < second → list_any (λ i. i == j) now.indexes ≡ false)
    → k < size_of s.out → k < first → k < second → is_named 1 olds was news now k ≡ false
joined-before s a b t old new from was now olds news k first second is work_a work_b made_a made_b marks_a marks_b
    read_a read_b none_a none_b few low_a low_b =
    ap₂ (λ (p q : Bool). p || q)
    (side-before s a t old from was olds k first is work_a made_a marks_a read_a few none_a low_a)
    (side-before s b t new from now news k second is work_b made_b marks_b read_b few none_b low_b)

-- what a set reaches by the old labels or by the new ones
pub joined-reaches : (s : Site) (a b : List Grid) (t : ℤ) (old new : Grid) (from was now to : Cells)
    (olds news : List (Option ℤ)) → s.op ≡ Regions t → IsAtWork s a → IsAtWork s b
    → old ≡ output_of s.op a → new ≡ output_of s.op b → from ≡ cells_where s.out (has from)
    → was ≡ with_those (no_cells old.extent) (firsts old from)
    → now ≡ with_those (no_cells new.extent) (firsts new from)
    → olds ≡ old.values → news ≡ new.values → to.extent ≡ s.out
    → with_those (with_those to (has from)) (λ o. is_named 1 olds was news now (index_of to.extent o))
    ≡ with_those to (reaches s.op a b 0 from)
joined-reaches s a b t old new from was now to olds news is work_a work_b made_a made_b own marks_a marks_b read_a
    read_b shape =
    with-more to (has from) (λ o. is_named 1 olds was news now (index_of to.extent o)) (reaches s.op a b 0 from)
    (λ o held_to.
    let held : holds s.out o ≡ true = subst (λ (d : Extent). holds d o ≡ true) shape held_to in
    ap (λ (d : Extent). has from o || is_named 1 olds was news now (index_of d o)) shape
    ∙ spread (has from o) (has_named 1 (get_or olds (index_of s.out o) None) was)
    (has_named 1 (get_or news (index_of s.out o) None) now)
    ∙ sym (reaches-either s.op a b 0 from o
    ∙ ap₂ (λ (p q : Bool). p || q)
    (side s a t old from was olds o is work_a made_a own marks_a read_a held)
    (side s b t new from now news o is work_b made_b own marks_b read_b held))) where
      spread : (f a b : Bool) → (f || (a || b)) ≡ ((f || a) || (f || b))
      spread true a b = refl
      spread false a b = refl
