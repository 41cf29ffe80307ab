-- The pairs of the machine's shelf say the tag's relation, so its looks give the tag's image.
--
-- The key idea: a pair that is asked for names one output cell, one input and one cell of it. Each of the lists that
-- the pairs are made of is a range that is filtered, so what is found in it is found at that one number, or not.
use Rattle.std.proofs.Common.{◌≡◌, ◌≢◌, ℕ, zero, suc, ◌+◌, ◌/◌, ◌<◌, ◌≤◌, ◌==◌, ◌&&◌, ◌||◌, Bool, true, false}
use Rattle.std.proofs.Common.{List, [], ◌∷◌, length, map, None, refl, sym, ap, ap₂, ◌∙◌, arith, true≢false}
use Rattle.std.proofs.Common.{eqb-true, eq-eqb, ne_eqb, inl, inr}
use Rattle.std.specs.List.{list_any, filter, flat_map, range_with_len}
use Rattle.std.proofs.lemmas.Bool.{cases_Bool}
use Rattle.std.proofs.lemmas.List.Folds.{list_any-append}
use Rattle.sz_cells.specs.declared.Cell.{Cell}
use Rattle.sz_cells.specs.Extent.{size_of, holds, index_of, cell_of}
use Rattle.sz_cells.specs.Cells.{Cells, cells_where, has, with_those}
use Rattle.sz_cells.proofs.Sets.{index-below, cell-index}
use Rattle.sz_spec.specs.declared.modes.Dir.{Dir}
use Rattle.sz_spec.specs.declared.modes.Strategy.{Strategy}
use Rattle.sz_spec.specs.Values.{extent_at}
use Rattle.sz_spec.specs.Pieces.{is_in_piece}
use Rattle.sz_spec.specs.Sides.{near_side}
use Rattle.sz_frame.proofs.Added.{any-filter}
use Rattle.sz_frame.proofs.Passing.{any-map, any-ext}
use Rattle.sz_core.specs.declared.pairs.Pair.{Pair}
use Rattle.sz_core.specs.Events.{after_look}
use Rattle.sz_core.specs.Images.{say}
use Rattle.sz_core.specs.States.{Shelf, whole_pairs}
use Rattle.sz_core.proofs.Placing.{all-placed, taken-image}
use Rattle.sz_store.proofs.Placed.{own-piece}
use Rattle.sz_shelf.specs.Tags.{Tag, tag_pieces, tag_relation, tag_image}
use Rattle.sz_shelf.specs.Contents.{missing_in}
use Rattle.sz_shelf.specs.Answers.{look_answer, read_by}
use Rattle.sz_shelf.specs.declared.answers.Look.{Look}
use Rattle.sz_shelf.specs.declared.answers.Look.TheVariants as look
use Rattle.sz_shelf.specs.Machine.{shelf_of, cells_of_piece, pairs_of_cell, pairs_of_piece, first_step}
use Rattle.sz_shelf.specs.LawsMachine.{PairsSayTheRelation, AsksComeToTheTagsImage, LooksHoldTheTagsImage}
use Rattle.sz_shelf.proofs.Stores.{image-same}
use Rattle.sz_shelf.proofs.Telling.{misses}

-- ---- one number of a range

any-none : {X : Type 0} (p : X → Bool) → ((x : X) → p x ≡ false) → (xs : List X) → list_any p xs ≡ false
any-none p none [] = refl
any-none p none (x ∷ xs) = ap₂ (λ (a b : Bool). a || b) (none x) (any-none p none xs)

any-past : (p : ℕ → Bool) (i b n : ℕ) → ((k : ℕ) → k ≢ i → p k ≡ false) → i < b
    → list_any p (range_with_len b n) ≡ false
any-past p i b zero others past = refl
any-past p i b (suc n) others past =
    ap₂ (λ (x y : Bool). x || y) (others b (λ e. absurd (omega (arith, e, past))))
    (any-past p i (b + 1) n others (omega (arith, past)))

or-nothing : (b : Bool) → (b || false) ≡ b
or-nothing true = refl
or-nothing false = refl

-- a test that only one number can pass is passed in a range that has it exactly where that number passes
any-one : (p : ℕ → Bool) (i a n : ℕ) → ((k : ℕ) → k ≢ i → p k ≡ false) → a ≤ i → i < a + n
    → list_any p (range_with_len a n) ≡ p i
any-one p i a zero others low high = absurd (omega (arith, low, high))
any-one p i a (suc n) others low high =
    elim (cases_Bool (a == i)) [
      | inl same ↦
          let e : a ≡ i = eqb-true a i same in
          ap₂ (λ (x y : Bool). x || y) (ap p e) (any-past p i (a + 1) n others (omega (arith, e)))
          ∙ or-nothing (p i)
      | inr other ↦
          let apart : a ≢ i = λ e. true≢false (sym (eq-eqb a i e) ∙ other) in
          ap₂ (λ (x y : Bool). x || y) (others a apart)
          (any-one p i (a + 1) n others (omega (arith, low, apart)) (omega (arith, high)))
    ]

any-range : (p : ℕ → Bool) (i n : ℕ) → ((k : ℕ) → k ≢ i → p k ≡ false) → i < n
    → list_any p (range_with_len 0 n) ≡ p i
any-range p i n others high = any-one p i 0 n others (omega arith) (omega (arith, high))

and-nothing : (b : Bool) → (b && false) ≡ false
and-nothing true = refl
and-nothing false = refl

and-all : (b : Bool) → (b && true) ≡ b
and-all true = refl
and-all false = refl

-- what is found in lists, one after another
any-flat : {X A : Type 0} (p : A → Bool) (f : X → List A) (xs : List X)
    → list_any p (flat_map f xs) ≡ list_any (λ x. list_any p (f x)) xs
any-flat p f [] = refl
any-flat p f (x ∷ xs) =
    list_any-append p (f x) (flat_map f xs) ∙ ap (λ b. list_any p (f x) || b) (any-flat p f xs)

-- ---- a pair that is asked for

abbrev asked : ℕ → ℕ → ℕ → Pair → Bool
asked n i x p = (p.out == n) && ((p.input == i) && (p.cell == x))

-- it is found among those of a cell and an input where the relation has it
of-cell : (t : Tag) (n i x k j : ℕ) → list_any (asked n i x) (pairs_of_cell t k j)
    ≡ list_any (λ y. tag_relation t j (cell_of t.site.out k) (cell_of (extent_at t.site.ins j) y)
    && ((k == n) && ((j == i) && (y == x)))) (range_with_len 0 (size_of (extent_at t.site.ins j)))
of-cell t n i x k j =
    let e = extent_at t.site.ins j in
    let related : ℕ → Bool = λ y. tag_relation t j (cell_of t.site.out k) (cell_of e y) in
    let make : ℕ → Pair = λ y. record { out = k; input = j; cell = y } in
    any-map (asked n i x) make (filter related (range_with_len 0 (size_of e)))
    ∙ any-filter related (λ y. asked n i x (make y)) (range_with_len 0 (size_of e))

no-cell : (t : Tag) (n i x k j : ℕ) → ((y : ℕ) → ((k == n) && ((j == i) && (y == x))) ≡ false)
    → list_any (asked n i x) (pairs_of_cell t k j) ≡ false
no-cell t n i x k j none =
    let e = extent_at t.site.ins j in
    of-cell t n i x k j
    ∙ any-none (λ y. tag_relation t j (cell_of t.site.out k) (cell_of e y) && ((k == n) && ((j == i) && (y == x))))
    (λ y. ap (λ (b : Bool). tag_relation t j (cell_of t.site.out k) (cell_of e y) && b) (none y)
    ∙ and-nothing (tag_relation t j (cell_of t.site.out k) (cell_of e y)))
    (range_with_len 0 (size_of e))

own-cell : (t : Tag) (n i x : ℕ) → x < size_of (extent_at t.site.ins i)
    → list_any (asked n i x) (pairs_of_cell t n i)
    ≡ tag_relation t i (cell_of t.site.out n) (cell_of (extent_at t.site.ins i) x)
own-cell t n i x inside =
    let e = extent_at t.site.ins i in
    let related : ℕ → Bool = λ y. tag_relation t i (cell_of t.site.out n) (cell_of e y) in
    let test : ℕ → Bool = λ y. related y && ((n == n) && ((i == i) && (y == x))) in
    of-cell t n i x n i
    ∙ any-range test x (size_of e)
    (λ y other. ap (λ (b : Bool). related y && ((n == n) && ((i == i) && b))) (ne_eqb y x other)
    ∙ ap (λ (b : Bool). related y && ((n == n) && b)) (and-nothing (i == i))
    ∙ ap (λ (b : Bool). related y && b) (and-nothing (n == n)) ∙ and-nothing (related y))
    inside
    ∙ ap (λ (b : Bool). related x && (b && ((i == i) && (x == x)))) (eq-eqb n n refl)
    ∙ ap (λ (b : Bool). related x && (b && (x == x))) (eq-eqb i i refl)
    ∙ ap (λ (b : Bool). related x && b) (eq-eqb x x refl) ∙ and-all (related x)

-- among those of a cell
no-input : (t : Tag) (n i x k : ℕ) → k ≢ n
    → list_any (asked n i x) (flat_map (pairs_of_cell t k) (range_with_len 0 (length t.site.ins))) ≡ false
no-input t n i x k other =
    any-flat (asked n i x) (pairs_of_cell t k) (range_with_len 0 (length t.site.ins))
    ∙ any-none (λ j. list_any (asked n i x) (pairs_of_cell t k j))
    (λ j. no-cell t n i x k j (λ y. ap (λ (b : Bool). b && ((j == i) && (y == x))) (ne_eqb k n other)))
    (range_with_len 0 (length t.site.ins))

own-input : (t : Tag) (n i x : ℕ) → i < length t.site.ins → x < size_of (extent_at t.site.ins i)
    → list_any (asked n i x) (flat_map (pairs_of_cell t n) (range_with_len 0 (length t.site.ins)))
    ≡ tag_relation t i (cell_of t.site.out n) (cell_of (extent_at t.site.ins i) x)
own-input t n i x few inside =
    any-flat (asked n i x) (pairs_of_cell t n) (range_with_len 0 (length t.site.ins))
    ∙ any-range (λ j. list_any (asked n i x) (pairs_of_cell t n j)) i (length t.site.ins)
    (λ j other. no-cell t n i x n j (λ y. ap (λ (b : Bool). (n == n) && (b && (y == x))) (ne_eqb j i other)
    ∙ and-nothing (n == n)))
    few
    ∙ own-cell t n i x inside

-- among those of a piece, and of all
of-piece : (t : Tag) (n i x k : ℕ) → n < size_of t.site.out → i < length t.site.ins
    → x < size_of (extent_at t.site.ins i)
    → list_any (asked n i x) (pairs_of_piece t k)
    ≡ (is_in_piece t.site.out k (cell_of t.site.out n)
    && tag_relation t i (cell_of t.site.out n) (cell_of (extent_at t.site.ins i) x))
of-piece t n i x k here few inside =
    let out = t.site.out in
    let inputs : ℕ → List Pair = λ m. flat_map (pairs_of_cell t m) (range_with_len 0 (length t.site.ins)) in
    let within : ℕ → Bool = λ m. is_in_piece out k (cell_of out m) in
    let found : ℕ → Bool = λ m. list_any (asked n i x) (inputs m) in
    any-flat (asked n i x) inputs (cells_of_piece out k)
    ∙ any-filter within found (range_with_len 0 (size_of out))
    ∙ any-range (λ m. within m && found m) n (size_of out)
    (λ m other. ap (λ (b : Bool). within m && b) (no-input t n i x m other) ∙ and-nothing (within m))
    here
    ∙ ap (λ (b : Bool). within n && b) (own-input t n i x few inside)

of-all : (t : Tag) (placed : List ℕ) (sealed : Bool) (i : ℕ) (o x : Cell) → i < length t.site.ins
    → holds t.site.out o ≡ true → holds (extent_at t.site.ins i) x ≡ true
    → list_any (asked (index_of t.site.out o) i (index_of (extent_at t.site.ins i) x))
    (whole_pairs (shelf_of t placed sealed))
    ≡ tag_relation t i (cell_of t.site.out (index_of t.site.out o))
    (cell_of (extent_at t.site.ins i) (index_of (extent_at t.site.ins i) x))
of-all t placed sealed i o x few here held =
    let out = t.site.out in
    let e = extent_at t.site.ins i in
    let n = index_of out o in
    let y = index_of e x in
    let within : ℕ → Bool = λ k. is_in_piece out k (cell_of out n) in
    let related : Bool = tag_relation t i (cell_of out n) (cell_of e y) in
    let below = index-below out o here in
    let inside = index-below e x held in
    let same : (k : ℕ) → within k ≡ (n / 64 == k) = λ k.
    ap (λ (c : Cell). is_in_piece out k c) (cell-index out o here)
    ∙ ap (λ (b : Bool). b && (n / 64 == k)) here in
    any-flat (asked n i y) (λ ps. ps) (map (pairs_of_piece t) (range_with_len 0 (tag_pieces t)))
    ∙ any-map (λ (ps : List Pair). list_any (asked n i y) ps) (pairs_of_piece t) (range_with_len 0 (tag_pieces t))
    ∙ any-ext (λ k. list_any (asked n i y) (pairs_of_piece t k)) (λ k. within k && related)
    (λ k. of-piece t n i y k below few inside) (range_with_len 0 (tag_pieces t))
    ∙ any-range (λ k. within k && related) (n / 64) (tag_pieces t)
    (λ k other. ap (λ (b : Bool). b && related)
    (same k ∙ ne_eqb (n / 64) k (λ (h : n / 64 ≡ k). other (sym h))))
    (own-piece out o here).0
    ∙ ap (λ (b : Bool). b && related) (same (n / 64) ∙ eq-eqb (n / 64) (n / 64) refl)

pub pairs-say : PairsSayTheRelation
pairs-say t placed sealed i o x few here held =
    let out = t.site.out in
    let e = extent_at t.site.ins i in
    of-all t placed sealed i o x few here held
    ∙ ap₂ (λ (a b : Cell). tag_relation t i a b) (cell-index out o here) (cell-index e x held)

-- ---- images

pub asks-come : AsksComeToTheTagsImage
asks-come t placed sealed dir i from few own near =
    let out = t.site.out in
    let e = extent_at t.site.ins i in
    image-same dir t.site i (say out e (whole_pairs (shelf_of t placed sealed)) i) (tag_relation t i) from own near
    (λ o x here held. pairs-say t placed sealed i o x few here held)

pub looks-hold : LooksHoldTheTagsImage
looks-hold t placed sealed dir i from whole few own near =
    let s : Shelf = shelf_of t placed sealed in
    taken-image s dir i from (λ h. all-placed s (misses t placed sealed ∙ whole h))
    ∙ asks-come t placed sealed dir i from few own near

-- ---- a look that added the tag's image

abbrev is-done : Look → Bool
is-done (look.Done _) = true
is-done (look.Unsealed _) = false

done-sealed : (s : Strategy) (n : ℕ) (found : List ℕ) (sealed : Bool)
    → read_by s ≡ look_answer s n found sealed → sealed ≡ true
done-sealed s n found true is = refl
done-sealed s n found false is = absurd (true≢false (ap is-done is))

-- holds what the machine's ask holds
pub looked-cells : (t : Tag) (u : Strategy) (found : List ℕ) (sealed : Bool) (dir : Dir) (i : ℕ)
    → (from to new : Cells) (r : Look)
    → (sealed ≡ true → missing_in (tag_pieces t) found ≡ None) → i < length t.site.ins
    → from ≡ cells_where from.extent (has from) → from.extent ≡ near_side dir t.site i
    → r ≡ look_answer u (tag_pieces t) found sealed
    → (sealed ≡ true → new ≡ with_those to (has (tag_image dir t i from))) → r ≡ read_by u
    → new ≡ with_those to (has (after_look (shelf_of t found sealed ∷ []) (first_step dir i from)).cells)
looked-cells t u found sealed dir i from to new r whole few own near answer added done =
    added (done-sealed u (tag_pieces t) found sealed (sym done ∙ answer))
    ∙ ap (λ (set : Cells). with_those to (has set)) (sym (looks-hold t found sealed dir i from whole few own near))
