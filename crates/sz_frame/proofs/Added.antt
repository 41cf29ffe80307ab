-- What follows of walks over the cells of a shape.
--
-- The key idea: what the cells whose numbers are below n add is a test of cells, so a step of a walk makes that test
-- one
-- number wider, and at the size of the shape the test is the image. A set that is kept as a bitmap is the set of its
-- own
-- cells, so adding what none passes changes nothing.
use Rattle.std.proofs.Common.{inl, inr, ◌≡◌, ℕ, zero, suc, ◌+◌, ◌-◌, ◌<◌, ◌≤◌, ◌==◌}
use Rattle.std.proofs.Common.{Bool, true, false, ◌&&◌, ◌||◌, List, [], ◌∷◌, ◌++◌, map, Some, None}
use Rattle.std.proofs.Common.{get_or, Option, refl, sym, ap, ap₂, subst, ◌∙◌, arith}
use Rattle.std.specs.List.{filter, list_any, range_with_len, zip}
use Rattle.std.specs.Prelude.{Result, ℤ, length}
use Rattle.std.specs.Result.{result_unwrap_or}
use Rattle.std.proofs.Math.Bool.{or_assoc, or-false}
use Rattle.std.proofs.lemmas.Bool.{cases_Bool, false_from_ne_true}
use Rattle.std.proofs.lemmas.List.{ext_get_or, get_or-map, length-map, map-append}
use Rattle.std.proofs.lemmas.List.FromFn.{map-range_with_len_more, length-map-range_with_len}
use Rattle.std.proofs.lemmas.List.FromFn.{get_or-map-range_with_len, fill_by_all}
use Rattle.std.proofs.lemmas.Option.{unwrap_or-slice_get}
use Rattle.std.proofs.lemmas.Slice.Zip.{length-zip, get_or-zip}
use Rattle.sz_cells.specs.declared.Cell.{Cell}
use Rattle.sz_cells.specs.Extent.{Extent, size_of, holds, index_of, cell_of}
use Rattle.sz_cells.specs.Cells.{Cells, is_same, cells_where, any_cell, has, with_those, next_index}
use Rattle.sz_cells.specs.Rising.{AreRising}
use Rattle.sz_cells.proofs.Windows.{range-append}
use Rattle.sz_cells.proofs.Sets.{cell-held, has-index, index-cell, has-cells_where, cells_where-ext}
use Rattle.sz_cells.proofs.Sets.{any_cell-same}
use Rattle.sz_cells.proofs.LawsOfSets.{rising-sets, next-least, none-next}
use Rattle.sz_cells.proofs.Rising.{rising-below}
use Rattle.sz_spec.specs.declared.modes.Dir.{Dir}
use Rattle.sz_spec.specs.declared.modes.Dir.TheVariants.{Back, Forward}
use Rattle.sz_spec.specs.declared.shapes.ShapeFault.{ShapeFault}
use Rattle.sz_spec.specs.Values.{Grid, no_extent, extent_at, extents_of, value_at}
use Rattle.sz_spec.specs.Shapes.{Site, output_extent}
use Rattle.sz_spec.specs.Evaluation.{value_of, output_of}
use Rattle.sz_spec.specs.Work.{IsAtWork}
use Rattle.sz_spec.specs.Sides.{near_side, far_side, image_in}
use Rattle.sz_frame.specs.Walks.{values_before, traced, steps, stepped, added}

-- ---- sets that are added to

-- what no cell of the shape passes adds nothing
pub with-none : (set : Cells) (p : Cell → Bool) → set ≡ cells_where set.extent (has set)
    → ((c : Cell) → holds set.extent c ≡ true → p c ≡ false) → set ≡ with_those set p
with-none set p own none =
    own ∙ cells_where-ext set.extent (has set) (λ c. has set c || p c) (λ c held. rw (none c held) (sym (or-false
    (has set c))))

-- tests that agree on the cells of the shape add the same
pub with-ext : (set : Cells) (p q : Cell → Bool) → ((c : Cell) → holds set.extent c ≡ true → p c ≡ q c)
    → with_those set p ≡ with_those set q
with-ext set p q same =
    cells_where-ext set.extent (λ c. has set c || p c) (λ c. has set c || q c) (λ c held. ap (λ b. has set c ||
    b) (same c held))

-- what is added after what was added
pub with-more : (set : Cells) (p q r : Cell → Bool) → ((c : Cell) → holds set.extent c ≡ true → (p c || q
    c) ≡ r c)
    → with_those (with_those set p) q ≡ with_those set r
with-more set p q r both =
    cells_where-ext set.extent (λ c. has (with_those set p) c || q c) (λ c. has set c || r c)
    (λ c held.
    ap (λ b. b || q c) (has-cells_where set.extent (λ x. has set x || p x) c held)
    ∙ or_assoc (has set c) (p c) (q c)
    ∙ ap (λ b. has set c || b) (both c held))

-- ---- what a walk has added

-- a range with one number more
any-range_more : (p : ℕ → Bool) (a n j : ℕ) → a + n ≡ j
    → list_any p (range_with_len a (n + 1)) ≡ (list_any p (range_with_len a n) || p j)
any-range_more p a zero j at = let same : a ≡ j = omega arith in ap (λ (k : ℕ). p k || false) same ∙ or-false
    (p j)
any-range_more p a (suc n) j at =
    let more : suc n + 1 ≡ suc (n + 1) = omega arith in
    ap (λ m. list_any p (range_with_len a m)) more
    ∙ ap (λ b. p a || b) (any-range_more p (a + 1) n j (omega arith))
    ∙ sym (or_assoc (p a) (list_any p (range_with_len (a + 1) n)) (p j))

-- one cell more
pub added-more : (e : Extent) (adds : Cell → Cell → Bool) (n : ℕ) (x : Cell)
    → (added e adds n x || adds (cell_of e n) x) ≡ added e adds (n + 1) x
added-more e adds n x = sym (any-range_more (λ k. adds (cell_of e k) x) 0 n n (omega arith))

-- the elements that a filter keeps
pub any-filter : {X : Type 0} (p q : X → Bool) (xs : List X) → list_any q (filter p xs) ≡ list_any (λ x. p x
    && q x) xs
any-filter p q [] = refl
any-filter p q (x ∷ xs) =
    elim (cases_Bool (p x)) [
      | inl t ↦ rw t (ap (λ b. q x || b) (any-filter p q xs))
      | inr f ↦ rw f (any-filter p q xs)
    ]

-- two tests that agree on the numbers of a range
pub any-range_ext : (p q : ℕ → Bool) (a n : ℕ) → ((k : ℕ) → a ≤ k → k < a + n → p k ≡ q k)
    → list_any p (range_with_len a n) ≡ list_any q (range_with_len a n)
any-range_ext p q a zero same = refl
any-range_ext p q a (suc n) same =
    ap₂ (λ (b d : Bool). b || d) (same a (omega arith) (omega arith))
    (any-range_ext p q (a + 1) n (λ k low high. same k (omega arith) (omega arith)))

-- numbers whose cells add nothing
pub added-skip : (e : Extent) (adds : Cell → Cell → Bool) (n a b : ℕ) (x : Cell) → a + n ≡ b
    → ((k : ℕ) → a ≤ k → k < b → adds (cell_of e k) x ≡ false) → added e adds a x ≡ added e adds b x
added-skip e adds zero a b x at none = let same : a ≡ b = omega arith in ap (λ m. added e adds m x) same
added-skip e adds (suc n) a b x at none =
    let last : a + n + 1 ≡ b = omega arith in
    added-skip e adds n a (a + n) x refl (λ k low high. none k low (omega arith))
    ∙ sym (ap (λ c. added e adds (a + n) x || c) (none (a + n) (omega arith) (omega arith)) ∙ or-false (added e
    adds (a + n) x))
    ∙ added-more e adds (a + n) x
    ∙ ap (λ m. added e adds m x) last

-- the cells of a set, each by its number
pub any_cell-added : (e : Extent) (from : Cells) (q : Cell → Bool) → from ≡ cells_where e (has from)
    → list_any (λ k. has from (cell_of e k) && q (cell_of e k)) (range_with_len 0 (size_of e)) ≡ any_cell q from
any_cell-added e from q own =
    sym (any-filter (λ k. has from (cell_of e k)) (λ k. q (cell_of e k)) (range_with_len 0 (size_of e)))
    ∙ ap (any_cell q) (sym own)

-- a cell of the shape that passes, each by its number
pub same-added : (e : Extent) (p : Cell → Bool) (x : Cell) → holds e x ≡ true
    → list_any (λ k. p (cell_of e k) && is_same x (cell_of e k)) (range_with_len 0 (size_of e)) ≡ p x
same-added e p x held =
    sym (any-filter (λ k. p (cell_of e k)) (λ k. is_same x (cell_of e k)) (range_with_len 0 (size_of e)))
    ∙ any_cell-same e p x held

-- a set with rising indexes is the set of its cells, at each shape that is its own
pub own-at : (set : Cells) (e : Extent) → set.extent ≡ e → AreRising 0 (size_of set.extent) set.indexes
    → set ≡ cells_where e (has set)
own-at set e same rises = subst (λ (f : Extent). set ≡ cells_where f (has set)) same (rising-sets set rises)

-- ---- traces and images

-- an output cell that is not in the set, or is related to none of it, adds nothing
pub traced-not_in : (dir : Dir) (relation : Cell → Cell → Bool) (from : Cells) (o x : Cell) → dir ≡ Back
    → has from o ≡ false → traced dir relation from o x ≡ false
traced-not_in dir relation from o x back out = rw (back, out) refl

pub traced-unrelated : (dir : Dir) (relation : Cell → Cell → Bool) (from : Cells) (o x : Cell) → dir ≡ Forward
    → any_cell (λ c. relation o c) from ≡ false → traced dir relation from o x ≡ false
traced-unrelated dir relation from o x forward none = rw (forward, none) refl

-- a cell that leads nowhere adds nothing to a bitmap
pub traced-none : (dir : Dir) (relation : Cell → Cell → Bool) (from to : Cells) (o : Cell)
    → AreRising 0 (size_of to.extent) to.indexes → ((x : Cell) → traced dir relation from o x ≡ false)
    → to ≡ with_those to (traced dir relation from o)
traced-none dir relation from to o rises none =
    with-none to (traced dir relation from o) (own-at to to.extent refl rises) (λ x held. none x)

-- the cells of the far side that all output cells add are the image
image-traced : (dir : Dir) (s : Site) (i : ℕ) (relation : Cell → Cell → Bool) (from : Cells) (x : Cell)
    → from ≡ cells_where (near_side dir s i) (has from) → holds (far_side dir s i) x ≡ true
    → added s.out (traced dir relation from) (size_of s.out) x ≡ has (image_in dir s i relation from) x
image-traced Back s i relation from x own held =
    any_cell-added s.out from (λ o. relation o x) own
    ∙ sym (has-cells_where (extent_at s.ins i) (λ y. any_cell (λ o. relation o y) from) x held)
image-traced Forward s i relation from x own held =
    same-added s.out (λ o. any_cell (λ c. relation o c) from) x held
    ∙ sym (has-cells_where s.out (λ o. any_cell (λ c. relation o c) from) x held)

pub traced-all : (dir : Dir) (s : Site) (i : ℕ) (relation : Cell → Cell → Bool) (from to : Cells)
    → from ≡ cells_where (near_side dir s i) (has from) → to.extent ≡ far_side dir s i
    → with_those to (added s.out (traced dir relation from) (size_of s.out)) ≡ with_those to (has (image_in dir s
    i relation from))
traced-all dir s i relation from to own far =
    with-ext to (added s.out (traced dir relation from) (size_of s.out)) (has (image_in dir s i relation from))
    (λ x held. image-traced dir s i relation from x own (rw (← far) held))

-- the cells of the far side that all cells of the near side add are the image
image-stepped : (dir : Dir) (s : Site) (i : ℕ) (relation : Cell → Cell → Bool) (from : Cells) (x : Cell)
    → from ≡ cells_where (near_side dir s i) (has from) → holds (far_side dir s i) x ≡ true
    → added (near_side dir s i) (stepped dir relation from) (size_of (near_side dir s i)) x ≡ has (image_in dir s
    i relation from) x
image-stepped Back s i relation from x own held =
    any_cell-added s.out from (λ o. relation o x) own
    ∙ sym (has-cells_where (extent_at s.ins i) (λ y. any_cell (λ o. relation o y) from) x held)
image-stepped Forward s i relation from x own held =
    any_cell-added (extent_at s.ins i) from (λ c. relation x c) own
    ∙ sym (has-cells_where s.out (λ o. any_cell (λ c. relation o c) from) x held)

pub stepped-all : (dir : Dir) (s : Site) (i : ℕ) (relation : Cell → Cell → Bool) (from to : Cells)
    → from ≡ cells_where (near_side dir s i) (has from) → to.extent ≡ far_side dir s i
    → with_those to (added (near_side dir s i) (stepped dir relation from) (size_of (near_side dir s i)))
    ≡ with_those to (has (image_in dir s i relation from))
stepped-all dir s i relation from to own far =
    with-ext to (added (near_side dir s i) (stepped dir relation from) (size_of (near_side dir s i))) (has (image_in
    dir s i relation from))
    (λ x held. image-stepped dir s i relation from x own (rw (← far) held))

-- one output cell more
pub traced-next : (dir : Dir) (e : Extent) (relation : Cell → Cell → Bool) (from to so_far new : Cells) (n : ℕ)
    (cell : Cell)
    → so_far ≡ with_those to (added e (traced dir relation from) n) → cell ≡ cell_of e n
    → new ≡ with_those so_far (traced dir relation from cell)
    → new ≡ with_those to (added e (traced dir relation from) (n + 1))
traced-next dir e relation from to so_far new n cell is at more =
    more
    ∙ (rw (is, at) (with-more to (added e (traced dir relation from) n) (traced dir relation from (cell_of e n))
    (added e (traced dir relation from) (n + 1)) (λ x held. added-more e (traced dir relation from) n x)))

-- the next index of a set at or after a number: its cell is in the set, and none between
pub record IsNext (set : Cells) (e : Extent) (start i : ℕ) : Type 0 where
  pub low : start ≤ i
  pub high : i < size_of e
  pub here : has set (cell_of e i) ≡ true
  pub before : (k : ℕ) → start ≤ k → k < i → has set (cell_of e k) ≡ false

pub next-is : (set : Cells) (e : Extent) (start i : ℕ) → set.extent ≡ e → AreRising 0 (size_of set.extent)
    set.indexes
    → next_index set start ≡ Some i → IsNext set e start i
next-is set e start i same rises found =
    let first = next-least set start i rises found in
    let below = rising-below 0 (size_of set.extent) i set.indexes rises first.1 in
    let high : i < size_of e = subst (λ (f : Extent). i < size_of f) same below in
    record {
      low = first.0;
      high = high;
      here = has-index set e i same high ∙ first.1;
      before = λ k low under.
          has-index set e k same (omega arith)
          ∙ false_from_ne_true (list_any (λ x. x == k) set.indexes) (λ there. absurd (omega (
            arith,
            first.2 k low
                there,
          )));
    }

-- where there is none, no cell from the number on is in the set
pub next-none : (set : Cells) (e : Extent) (start : ℕ) → set.extent ≡ e → next_index set start ≡ None
    → (k : ℕ) → start ≤ k → k < size_of e → has set (cell_of e k) ≡ false
next-none set e start same none k low high =
    has-index set e k same high
    ∙ false_from_ne_true (list_any (λ x. x == k) set.indexes) (λ there. absurd (omega (
      arith,
      none-next set start
          k none there,
    )))

-- the next cell of the set more
pub stepped-next : (dir : Dir) (e : Extent) (relation : Cell → Cell → Bool) (from to so_far new : Cells) (start i
    : ℕ)
    (cell : Cell) → IsNext from e start i → so_far ≡ with_those to (added e (stepped dir relation from) start)
    → cell ≡ cell_of e i → new ≡ with_those so_far (steps dir relation cell)
    → new ≡ with_those to (added e (stepped dir relation from) (i + 1))
stepped-next dir e relation from to so_far new start i cell next is at more =
    let adds = stepped dir relation from in
    let gap : start + (i - start) ≡ i = omega (arith, next.low) in
    more
    ∙ (rw (is, at) (with-more to (added e adds start) (steps dir relation (cell_of e i)) (added e adds (i + 1))
    (λ x held.
    ap₂ (λ (a b : Bool). a || b)
    (added-skip e adds (i - start) start i x gap (λ k low high. ap (λ b. b && steps dir relation (cell_of e k) x)
    (next.before k low high)))
    (sym (ap (λ b. b && steps dir relation (cell_of e i) x) next.here))
    ∙ added-more e adds i x)))

-- numbers without a cell of the set
pub stepped-skip : (dir : Dir) (e : Extent) (relation : Cell → Cell → Bool) (from to so_far : Cells) (start end :
    ℕ)
    → start ≤ end → ((k : ℕ) → start ≤ k → k < end → has from (cell_of e k) ≡ false)
    → so_far ≡ with_those to (added e (stepped dir relation from) start)
    → so_far ≡ with_those to (added e (stepped dir relation from) end)
stepped-skip dir e relation from to so_far start end order none is =
    let adds = stepped dir relation from in
    let gap : start + (end - start) ≡ end = omega arith in
    is
    ∙ with-ext to (added e adds start) (added e adds end)
    (λ x held. added-skip e adds (end - start) start end x gap (λ k low high. ap (λ b. b && steps dir relation
    (cell_of e k) x) (none k low high)))

-- the cell behind the one of a number
pub cell-next : (e shape : Extent) (n : ℕ) (cell next : Cell) → shape ≡ e → cell ≡ cell_of e n
    → next ≡ cell_of shape (index_of shape cell + 1) → next ≡ cell_of e (n + 1)
cell-next e shape n cell next same at is = is ∙ (rw (same, at) (ap (λ k. cell_of e (k + 1)) (index-cell e n)))

-- ---- outputs

-- the shape of the output at an operator's inputs is that of its site
pub out-at_work : (s : Site) (inputs : List Grid) → IsAtWork s inputs → output_extent s.op (extents_of inputs)
    ≡ s.out
out-at_work s inputs work =
    ap (output_extent s.op) work.shapes ∙ ap (λ (r : Result Extent ShapeFault). result_unwrap_or r no_extent)
    work.site.shape

-- the values of all cells are the output
pub values-all : (s : Site) (inputs : List Grid) → IsAtWork s inputs
    → record { extent = s.out; values = values_before s inputs (size_of s.out) } ≡ output_of s.op inputs
values-all s inputs work =
    let make : Extent → Grid = λ e. record {
      extent = e;
      values = map (λ k. value_of s.op inputs (cell_of e k)) (range_with_len 0 (size_of e));
    } in
    ap make (sym (out-at_work s inputs work))

-- one value more
pub values-next : (s : Site) (inputs : List Grid) (n : ℕ) (cell : Cell) (v : Option ℤ) (so_far new : List (Option
    ℤ))
    → so_far ≡ values_before s inputs n → cell ≡ cell_of s.out n → v ≡ value_of s.op inputs cell
    → new ≡ so_far ++ v ∷ [] → new ≡ values_before s inputs (n + 1)
values-next s inputs n cell v so_far new is at value more =
    more
    ∙ (rw (is, value, at) (sym (map-range_with_len_more (λ k. value_of s.op inputs (cell_of s.out k)) 0 n n (omega
    arith))))

-- how many values there are
pub values-length : (s : Site) (inputs : List Grid) (n : ℕ) → length (values_before s inputs n) ≡ n
values-length s inputs n = length-map-range_with_len (λ k. value_of s.op inputs (cell_of s.out k)) 0 n

-- ---- values that are made in another way than one by one

-- the value of the cell of an index
pub value-index : (g : Grid) (e : Extent) (k : ℕ) → g.extent ≡ e
    → value_at g (cell_of e k) ≡ get_or g.values k None
value-index g e k same =
    unwrap_or-slice_get g.values (index_of g.extent (cell_of e k)) None
    ∙ ap (λ (i : ℕ). get_or g.values i None) (ap (λ (d : Extent). index_of d (cell_of e k)) same ∙ index-cell e k)

-- several values more
pub values-append : (s : Site) (inputs : List Grid) (n m : ℕ) (so_far xs : List (Option ℤ))
    → so_far ≡ values_before s inputs n → length xs ≡ m
    → ((k : ℕ) → k < m → get_or xs k None ≡ value_of s.op inputs (cell_of s.out (n + k)))
    → so_far ++ xs ≡ values_before s inputs (n + m)
values-append s inputs n m so_far xs is long each =
    let f = λ (k : ℕ). value_of s.op inputs (cell_of s.out k) in
    let from : 0 + n ≡ n = omega arith in
    let tail : xs ≡ map f (range_with_len n m) =
    ext_get_or None xs (map f (range_with_len n m)) (long ∙ sym (length-map-range_with_len f n m))
    (λ k low.
    let below : k < m = subst (λ (l : ℕ). k < l) long low in
    each k below ∙ sym (get_or-map-range_with_len f n m k (n + k) None below refl)) in
    ap₂ (λ (us vs : List (Option ℤ)). us ++ vs) is tail
    ∙ sym (ap (λ (ks : List ℕ). map f ks)
    (range-append n 0 m ∙ ap (λ (a : ℕ). range_with_len 0 n ++ range_with_len a m) from)
    ∙ map-append f (range_with_len 0 n) (range_with_len n m))

-- all values, each made of that of an array at the same cell
pub values-mapped : (s : Site) (inputs : List Grid) (h : Option ℤ → Option ℤ) (g : Grid) → g.extent ≡ s.out
    → length g.values ≡ size_of g.extent
    → ((o : Cell) → holds s.out o ≡ true → value_of s.op inputs o ≡ h (value_at g o))
    → map h g.values ≡ values_before s inputs (size_of s.out)
values-mapped s inputs h g same long each =
    let f = λ (k : ℕ). value_of s.op inputs (cell_of s.out k) in
    let size : length g.values ≡ size_of s.out = long ∙ ap size_of same in
    fill_by_all f (map h g.values) (size_of s.out) None (length-map g.values h ∙ size)
    (λ k below.
    let inside : k < length g.values = omega (arith, below, size) in
    get_or-map h g.values k None None inside
    ∙ ap h (sym (value-index g s.out k same))
    ∙ sym (each (cell_of s.out k) (cell-held s.out k below)))

-- and of those of two arrays
pub values-zipped : (s : Site) (inputs : List Grid) (h : Option ℤ → Option ℤ → Option ℤ) (g g' : Grid)
    → g.extent ≡ s.out → g'.extent ≡ s.out → length g.values ≡ size_of g.extent
    → length g'.values ≡ size_of g'.extent
    → ((o : Cell) → holds s.out o ≡ true → value_of s.op inputs o ≡ h (value_at g o) (value_at g' o))
    → map (λ p. h p.0 p.1) (zip g.values g'.values) ≡ values_before s inputs (size_of s.out)
values-zipped s inputs h g g' same same' long long' each =
    let f = λ (k : ℕ). value_of s.op inputs (cell_of s.out k) in
    let both : Option ℤ × Option ℤ → Option ℤ = λ p. h p.0 p.1 in
    let pairs = zip g.values g'.values in
    let size : length g.values ≡ size_of s.out = long ∙ ap size_of same in
    let size' : length g'.values ≡ size_of s.out = long' ∙ ap size_of same' in
    let count : length pairs ≡ size_of s.out = omega (arith, length-zip g.values g'.values, size, size') in
    fill_by_all f (map both pairs) (size_of s.out) None (length-map pairs both ∙ count)
    (λ k below.
    let inside : k < length pairs = omega (arith, below, count) in
    get_or-map both pairs k (None, None) None inside
    ∙ ap both (get_or-zip g.values g'.values k (None, None) (omega (arith, below, size)) (omega (arith, below, size')))
    ∙ ap₂ h (sym (value-index g s.out k same)) (sym (value-index g' s.out k same'))
    ∙ sym (each (cell_of s.out k) (cell-held s.out k below)))
