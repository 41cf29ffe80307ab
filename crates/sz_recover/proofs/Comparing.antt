-- Two stores of an operator that are compared cell by cell.
--
-- The key idea: the image of a set of one cell has exactly the cells that are related to that one. So where both stores
-- give each single cell of one side the same image, they relate the same cells; and where they relate the same cells,
-- they give any set the same image.
use Rattle.std.proofs.Common.{◌≡◌, ℕ, ◌<◌, Bool, true, false, ◌||◌, List, refl, sym, ap, subst, ◌∙◌, arith}
use Rattle.std.proofs.Common.{◌==◌, ◌&&◌, ap₂, eqb-true, eq-eqb}
use Rattle.std.specs.Bool.{Decides}
use Rattle.std.specs.List.{flat_map}
use Rattle.std.proofs.lemmas.Bool.{and_parts}
use Rattle.sz_cells.specs.declared.Cell.{Cell}
use Rattle.sz_cells.specs.Extent.{Extent, size_of, holds, index_of, cell_of}
use Rattle.sz_cells.specs.Cells.{Cells, is_same, cells_where, any_cell, has, no_cells, with_those, with_cell}
use Rattle.sz_cells.specs.declared.Run.{Run}
use Rattle.sz_cells.specs.Runs.{Spells, indexes_of, runs_of}
use Rattle.sz_cells.proofs.Sets.{is_same-true, cell-index, index-below, cells_where-ext, has-cells_where}
use Rattle.sz_spec.specs.declared.modes.Dir.{Dir}
use Rattle.sz_spec.specs.declared.modes.Dir.TheVariants.{Back, Forward}
use Rattle.sz_spec.specs.Values.{extent_at}
use Rattle.sz_spec.specs.Shapes.{Site}
use Rattle.sz_spec.specs.Sides.{near_side, far_side, image_in}
use Rattle.sz_spec.specs.Lineage.{back, forward}
use Rattle.sz_spec.proofs.Images.{back-ext, forward-ext, back-there_is}
use Rattle.sz_store.specs.Kept.{Holding, holding_stands}
use Rattle.sz_recover.specs.Comparing.{AgreeOn, one_cell, AgreeAt}

same-bool : (a b : Bool) → (a ≡ true → b ≡ true) → (b ≡ true → a ≡ true) → a ≡ b
same-bool true b there back = sym (there refl)
same-bool false true there back = back refl
same-bool false false there back = refl

-- ---- the set of one cell

-- the cell that its test lets through
one-test : (e : Extent) (k : ℕ) (c : Cell) → (has (no_cells e) c || is_same c (cell_of e k)) ≡ true → holds e c ≡ true
    → c ≡ cell_of e k
one-test e k c test held =
    let none : has (no_cells e) c ≡ false = rw held refl in
    is_same-true c (cell_of e k)
    (sym (ap (λ (b : Bool). b || is_same c (cell_of e k)) none) ∙ test)

or-right : (a : Bool) → (a || true) ≡ true
or-right true = refl
or-right false = refl

same-cell : (c : Cell) → is_same c c ≡ true
same-cell c = grind arith

own-test : (e : Extent) (c : Cell) → holds e c ≡ true
    → (has (no_cells e) c || is_same c (cell_of e (index_of e c))) ≡ true
own-test e c held =
    let same : is_same c (cell_of e (index_of e c)) ≡ true =
    ap (λ (d : Cell). is_same c d) (cell-index e c held) ∙ same-cell c in
    ap (λ (b : Bool). has (no_cells e) c || b) same ∙ or-right (has (no_cells e) c)

-- ---- from images to relations

-- what one relates backward to a cell, the other does too
back-through : (r q : Cell → Cell → Bool) (e d : Extent) (o x : Cell) → holds d o ≡ true → holds e x ≡ true
    → back r e (one_cell d (index_of d o)) ≡ back q e (one_cell d (index_of d o)) → r o x ≡ true → q o x ≡ true
back-through r q e d o x out within same related =
    let k = index_of d o in
    let test : Cell → Bool = λ c. has (no_cells d) c || is_same c (cell_of d k) in
    let there = (back-there_is r e d test x).1 (within, (o, out, own-test d o out, related)) in
    let moved = sym (ap (λ (set : Cells). has set x) same) ∙ there in
    let found = (back-there_is q e d test x).0 moved in
    let one : found.1.0 ≡ o = one-test d k found.1.0 found.1.2 found.1.1 ∙ cell-index d o out in
    subst (λ (c : Cell). q c x ≡ true) one found.1.3

-- and forward, which is backward by the relation turned round
forward-through : (r q : Cell → Cell → Bool) (e d : Extent) (o x : Cell) → holds e o ≡ true → holds d x ≡ true
    → forward r e (one_cell d (index_of d x)) ≡ forward q e (one_cell d (index_of d x)) → r o x ≡ true → q o x ≡ true
forward-through r q e d o x out within = back-through (λ y z. r z y) (λ y z. q z y) e d x o within out

-- Stores that give each single cell of the near side the same image stand for the same.
pub agree-all : (dir : Dir) (s : Site) (a b : Holding) (i : ℕ)
    → ((k : ℕ) → k < size_of (near_side dir s i) → AgreeAt dir s a b i k) → AgreeOn s a b i
agree-all Back s a b i each o x out within =
    let r = holding_stands s a i in
    let q = holding_stands s b i in
    let e = extent_at s.ins i in
    let at = each (index_of s.out o) (index-below s.out o out) in
    same-bool (r o x) (q o x) (back-through r q e s.out o x out within at)
    (back-through q r e s.out o x out within (sym at))
agree-all Forward s a b i each o x out within =
    let r = holding_stands s a i in
    let q = holding_stands s b i in
    let e = extent_at s.ins i in
    let at = each (index_of e x) (index-below e x within) in
    same-bool (r o x) (q o x) (forward-through r q s.out e o x out within at)
    (forward-through q r s.out e o x out within (sym at))

-- ---- from relations to images

-- Stores that stand for the same give each single cell the same image.
pub agree-at : (dir : Dir) (s : Site) (a b : Holding) (i k : ℕ) → AgreeOn s a b i → AgreeAt dir s a b i k
agree-at Back s a b i k same =
    back-ext (holding_stands s a i) (holding_stands s b i) (extent_at s.ins i) s.out
    (λ c. has (no_cells s.out) c || is_same c (cell_of s.out k)) same
agree-at Forward s a b i k same =
    forward-ext (holding_stands s a i) (holding_stands s b i) s.out (extent_at s.ins i)
    (λ c. has (no_cells (extent_at s.ins i)) c || is_same c (cell_of (extent_at s.ins i) k)) same

-- ---- what is written into empty bitmaps

onto-none : (e : Extent) (test : Cell → Bool) → with_those (no_cells e) (has (cells_where e test)) ≡ cells_where e test
onto-none e test =
    cells_where-ext e (λ c. has (no_cells e) c || has (cells_where e test) c) test
    (λ c held.
    let none : has (no_cells e) c ≡ false = rw held refl in
    ap (λ (b : Bool). b || has (cells_where e test) c) none ∙ has-cells_where e test c held)

image-onto_none : (dir : Dir) (s : Site) (i : ℕ) (relation : Cell → Cell → Bool) (from : Cells)
    → with_those (no_cells (far_side dir s i)) (has (image_in dir s i relation from)) ≡ image_in dir s i relation from
image-onto_none Back s i relation from = onto-none (extent_at s.ins i) (λ x. any_cell (λ o. relation o x) from)
image-onto_none Forward s i relation from = onto-none s.out (λ o. any_cell (λ x. relation o x) from)

-- the image of the set of one cell, written into a bitmap that was cleared
pub image-written : (dir : Dir) (t s : Site) (h : Holding) (i k : ℕ) (cell cleared old new : Cells) → t ≡ s
    → cleared ≡ no_cells (near_side dir s i) → cell ≡ with_cell cleared (cell_of (near_side dir s i) k)
    → old ≡ no_cells (far_side dir s i)
    → new ≡ with_those old (has (image_in dir t i (holding_stands t h i) cell))
    → new ≡ image_in dir s i (holding_stands s h i) (one_cell (near_side dir s i) k)
image-written dir t s h i k cell cleared old new same none one empty is =
    let near = near_side dir s i in
    let set : cell ≡ one_cell near k = one ∙ ap (λ (c : Cells). with_cell c (cell_of near k)) none in
    is
    ∙ ap (λ (u : Site). with_those old (has (image_in dir u i (holding_stands u h i) cell))) same
    ∙ ap (λ (c : Cells). with_those old (has (image_in dir s i (holding_stands s h i) c))) set
    ∙ ap (λ (c : Cells). with_those c (has (image_in dir s i (holding_stands s h i) (one_cell near k)))) empty
    ∙ image-onto_none dir s i (holding_stands s h i) (one_cell near k)

-- ---- sets that are compared by their runs

pub run-decides : (a b : Run) → Decides ((a.first == b.first) && (a.last == b.last)) (a ≡ b)
run-decides a b = (
  λ same.
      let parts = and_parts (a.first == b.first) (a.last == b.last) same in
      ap₂ (λ (f l : ℕ). record { first = f; last = l }) (eqb-true a.first b.first parts.0)
      (eqb-true a.last b.last parts.1),
  λ is.
      let first : (a.first == b.first) ≡ true = eq-eqb a.first b.first (ap (λ (r : Run). r.first) is) in
      let last : (a.last == b.last) ≡ true = eq-eqb a.last b.last (ap (λ (r : Run). r.last) is) in
      ap₂ (λ (x y : Bool). x && y) first last,
)

-- sets of one shape are one where their longest runs are
pub sets-decided : (b : Bool) (x y : Cells) (rs qs : List Run) → x.extent ≡ y.extent → Spells rs x → Spells qs y
    → rs ≡ runs_of x.indexes → qs ≡ runs_of y.indexes → Decides b (rs ≡ qs) → Decides b (x ≡ y)
sets-decided b x y rs qs same left right only other decides = (
  λ yes.
      let make : Extent → List ℕ → Cells = λ e ks. record { extent = e; indexes = ks } in
      let indexes : x.indexes ≡ y.indexes =
      sym left.spelled ∙ ap (λ (us : List Run). flat_map indexes_of us) (decides.0 yes) ∙ right.spelled in
      ap₂ make same indexes,
  λ is. decides.1 (only ∙ ap (λ (z : Cells). runs_of z.indexes) is ∙ sym other),
)

-- what decides of two decides of what they are
pub decides-by : {X : Type 0} (b : Bool) (x y u v : X) → x ≡ u → y ≡ v → Decides b (x ≡ y) → Decides b (u ≡ v)
decides-by b x y u v left right decides =
    (λ yes. sym left ∙ decides.0 yes ∙ right, λ is. decides.1 (left ∙ is ∙ sym right))
