-- What follows of indexes of a shelf's pairs.
--
-- The key idea: an index tells of each two row-major indexes whether some pair leads from the one to the other, and
-- a step's
-- image asks this of the indexes of cells. So the two are one function, once the order of the tests on a pair is
-- turned.
use Rattle.std.proofs.Common.{◌≡◌, ℕ, ◌<◌, Bool, true, false, ◌&&◌, ◌==◌, List, [], ◌∷◌}
use Rattle.std.proofs.Common.{◌++◌, ◌||◌, ◌+◌, inl, inr, length, take, get_or, refl, sym, ap, ap₂}
use Rattle.std.proofs.Common.{◌∙◌, arith}
use Rattle.std.proofs.lemmas.Bool.{cases_lt}
use Rattle.std.proofs.lemmas.Grind.{common_steps, flat_map-append}
use Rattle.std.proofs.lemmas.List.{append-nil, get_or_default, take_more}
use Rattle.std.proofs.lemmas.List.Folds.{list_any-append}
use Rattle.std.proofs.Math.ListN.{get_or-append}
use Rattle.std.proofs.lemmas.Option.{unwrap_or-slice_get}
use Rattle.std.specs.List.{list_any, flat_map}
use mathlib.Core.Path.{fun_ext}
use Rattle.sz_cells.proofs.Sets.{index-cell}
use Rattle.sz_cells.specs.Extent.{Extent, index_of, cell_of}
use Rattle.sz_cells.specs.Cells.{Cells, cells_where}
use Rattle.sz_spec.specs.declared.modes.Dir.{Dir}
use Rattle.sz_spec.specs.declared.modes.Dir.TheVariants.{Back, Forward}
use Rattle.sz_spec.specs.Values.{extent_at, no_extent}
use Rattle.sz_core.specs.declared.pairs.Pair.{Pair}
use Rattle.sz_spec.specs.Sides.{extent_before, extent_after}
use Rattle.sz_core.specs.Images.{image_by}
use Rattle.sz_core.specs.Links.{Links, Relation, leads, cells_linked, pair_leads, no_links}
use Rattle.sz_core.specs.Links.{HasPairs}
use Rattle.sz_core.specs.Links.{AreIndexesOf}

-- ---- truth values

and-turn : (a b c : Bool) → (a && (b && c)) ≡ (b && (a && c))
and-turn true true c = refl
and-turn true false c = refl
and-turn false true c = refl
and-turn false false c = refl

and-roll : (a b c : Bool) → (a && (b && c)) ≡ (c && (a && b))
and-roll true true true = refl
and-roll true true false = refl
and-roll true false true = refl
and-roll true false false = refl
and-roll false b true = refl
and-roll false b false = refl

-- ---- the shapes of one input

-- the shapes before and after a step are told by the input's shape
pub before-at : (dir : Dir) (out taken : Extent) (ins : List Extent) (i : ℕ) → taken ≡ extent_at ins i
    → extent_before dir out (taken ∷ []) 0 ≡ extent_before dir out ins i
before-at Back out taken ins i at = refl
before-at Forward out taken ins i at = at

pub after-at : (dir : Dir) (out taken : Extent) (ins : List Extent) (i : ℕ) → taken ≡ extent_at ins i
    → extent_after dir out (taken ∷ []) 0 ≡ extent_after dir out ins i
after-at Back out taken ins i at = at
after-at Forward out taken ins i at = refl

-- ---- the image by an index

-- the cells of a shape to which the indexes lead, where `lead` tells which pairs do
by_test : Extent → (ℕ → ℕ → Bool) → List ℕ → Cells
by_test e lead ks = cells_where e (λ x. list_any (λ k. lead k (index_of e x)) ks)

-- an index whose leads are tests on pairs leads to the same as other tests that agree with them
tested : (to : Extent) (pairs : List Pair) (links : Links) (s : Cells) (test other : ℕ → ℕ → Pair → Bool)
    → links.to ≡ to → ((k t : ℕ) → leads links k t ≡ list_any (test k t) pairs)
    → ((k t : ℕ) (p : Pair) → test k t p ≡ other k t p)
    → cells_linked links s ≡ by_test to (λ k t. list_any (other k t) pairs) s.indexes
unfolding by_test
tested to pairs links s test other is led same =
    let read : (ℕ → ℕ → Pair → Bool) → Cells = λ t. by_test to (λ k x. list_any (t k x) pairs) s.indexes in
    ap₂ (λ (e : Extent) (lead : ℕ → ℕ → Bool). by_test e lead s.indexes) is (fun_ext (λ k. fun_ext (λ t. led k t)))
    ∙ ap read (fun_ext (λ k. fun_ext (λ t. fun_ext (λ p. same k t p))))

-- the row-major index of a set's cell is its place
index-held : (e : Extent) (s : Cells) (k : ℕ) → s.extent ≡ e → k ≡ index_of e (cell_of s.extent k)
index-held e s k shape = sym (ap (λ (f : Extent). index_of f (cell_of s.extent k)) (sym shape) ∙ index-cell s.extent k)

-- an index of an input's pairs leads to the image under what they say
pub linked-image : (dir : Dir) (out : Extent) (ins : List Extent) (i : ℕ) (pairs : List Pair) (links : Links)
    (s : Cells)
    → HasPairs dir i (extent_before dir out ins i) (extent_after dir out ins i) pairs links
    → s.extent ≡ extent_before dir out ins i
    → cells_linked links s ≡ image_by pairs dir out ins i s
unfolding by_test
linked-image Back out ins i pairs links s has shape =
    tested (extent_at ins i) pairs links s (pair_leads Back i)
    (λ k t p. (p.out == index_of out (cell_of s.extent k)) && ((p.input == i) && (p.cell == t))) has.to has.led
    (λ k t p. and-turn (p.input == i) (p.out == k) (p.cell == t)
    ∙ ap (λ (n : ℕ). (p.out == n) && ((p.input == i) && (p.cell == t))) (index-held out s k shape))
linked-image Forward out ins i pairs links s has shape =
    let e = extent_at ins i in
    tested out pairs links s (pair_leads Forward i)
    (λ k t p. (p.out == t) && ((p.input == i) && (p.cell == index_of e (cell_of s.extent k)))) has.to has.led
    (λ k t p. and-roll (p.input == i) (p.cell == k) (p.out == t)
    ∙ ap (λ (n : ℕ). (p.out == t) && ((p.input == i) && (p.cell == n))) (index-held e s k shape))

-- the shape of an input that is there
pub extent-at : (ins : List Extent) (i : ℕ) (taken : Extent) → i < length ins → taken ≡ get_or ins i taken
    → taken ≡ extent_at ins i
extent-at ins i taken within at =
    at ∙ get_or_default ins i taken no_extent within ∙ sym (unwrap_or-slice_get ins i no_extent)

-- the image by the index of an input
pub index-image : (dir : Dir) (r : Relation) (indexes : List Links) (i : ℕ) (links : Links) (s : Cells)
    → AreIndexesOf dir r indexes
    → i < length r.ins → links ≡ get_or indexes i links → s.extent ≡ extent_before dir r.out r.ins i
    → cells_linked links s ≡ image_by (flat_map (λ pairs. pairs) r.pieces) dir r.out r.ins i s
index-image dir r indexes i links s are within at shape =
    let e : links ≡ get_or indexes i no_links = at
    ∙ get_or_default indexes i links no_links (rw are.count within) in
    linked-image dir r.out r.ins i (flat_map (λ pairs. pairs) r.pieces) links s (rw e (are.each i within)) shape

-- ---- made one after the other

-- one more list whose elements are tested
pub lists-next : {V A : Type 0} (p : A → Bool) (f : V → List A) (xs : List V) (i : ℕ) (v : V) → i < length xs
    → v ≡ get_or xs i v
    → list_any p (flat_map f (take (i + 1) xs)) ≡ (list_any p (flat_map f (take i xs)) || list_any p (f v))
lists-next p f xs i v within at =
    let more : take (i + 1) xs ≡ take i xs ++ v ∷ [] =
    take_more xs i v within ∙ ap (λ y. take i xs ++ y ∷ []) (sym at) in
    ap (λ ys. list_any p (flat_map f ys)) more
    ∙ ap (list_any p)
    (flat_map-append f (take i xs) (v ∷ []) ∙ ap (λ ys. flat_map f (take i xs) ++ ys) (append-nil (f v)))
    ∙ list_any-append p (flat_map f (take i xs)) (f v)

-- what holds of each element and of one put behind them holds of each
pub each-push : {A : Type 0} (P : ℕ → A → Type 0) (xs : List A) (x d : A) (n : ℕ) → length xs ≡ n
    → ((i : ℕ) → i < n → P i (get_or xs i d)) → P n x → (i : ℕ) → i < n + 1
    → P i (get_or (xs ++ x ∷ []) i d)
each-push P xs x d n long each here i within =
    elim (cases_lt i n) [
      | inl before ↦ rw (get_or-append xs (x ∷ []) d i (rw long before)) (each i before)
      | inr past ↦
          let e : i ≡ n = omega arith in
          let at : get_or (xs ++ x ∷ []) i d ≡ x = grind (arith, common_steps) in
          rw (at, e) here
    ]
