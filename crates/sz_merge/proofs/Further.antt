-- Region pairs that are kinds, one after another.
--
-- The key idea: an output cell of a pair before is seen, and those of a further pair are not; and the sets of one input
-- are different, so the lists of the sets of all inputs are.
use Rattle.std.proofs.Common.{◌≡◌, ◌≢◌, ℕ, zero, suc, ◌<◌, Bool, true, false, ◌&&◌, ◌||◌, ◌==◌}
use Rattle.std.proofs.Common.{◌⊎◌, inl, inr, List, [], ◌∷◌, ◌++◌, map, length, get_or, refl, sym, ap, ◌∙◌}
use Rattle.std.proofs.Common.{arith, All, Option, Some, unwrap_or, true≢false, eqb-true}
use Rattle.std.specs.List.{slice_get, list_any}
use Rattle.std.proofs.lemmas.Bool.{cases_Bool, or_cases, or_left, or_right, and_parts, and_from}
use Rattle.std.proofs.lemmas.List.{map_push, length-map, get_or-map}
use Rattle.std.proofs.lemmas.List.Elements.{All-nil, All-push}
use Rattle.std.proofs.lemmas.List.Folds.{list_any-append}
use Rattle.std.proofs.lemmas.Option.{slice_get_within, slice_get-get_or, same_Some, unwrap_or-slice_get}
use Rattle.sz_cells.specs.declared.Cell.{Cell}
use Rattle.sz_cells.specs.declared.Run.{Run}
use Rattle.sz_cells.specs.Extent.{Extent, holds, index_of, cell_of}
use Rattle.sz_cells.specs.Cells.{Cells, has, any_cell, no_cells, union_of}
use Rattle.sz_cells.specs.Runs.{runs_of}
use Rattle.sz_cells.proofs.Sets.{cell-index, has-cells_where_any}
use Rattle.sz_spec.specs.declared.modes.Dir.TheVariants.{Forward}
use Rattle.sz_spec.specs.Values.{no_extent}
use Rattle.sz_frame.specs.Parts.{Pairing}
use Rattle.sz_frame.specs.Stands.{set_of}
use Rattle.sz_tables.specs.Rows.{RowTable, Row, IsRowOf, pairing_of, pairings, row_at, number_in, sets_of}
use Rattle.sz_tables.specs.Tables.{AreDifferent}
use Rattle.sz_tables.proofs.Scanned.{near-is, row-named}
use Rattle.sz_merge.specs.Lineages.{is_nothing}
use Rattle.sz_merge.specs.Distinct.{AreKinds, HasBothSides}
use Rattle.sz_merge.proofs.Sets.{or-false}
use Rattle.sz_merge.proofs.Counted.{any-at}
use Rattle.sz_merge.specs.Apart.{IsFurther, AreSeen, ArePairsApart}

and-false : (b : Bool) → (b && false) ≡ false
and-false true = refl
and-false false = refl

-- what is at a place of a list with one more
pushed-at : {X : Type 0} (xs : List X) (x y : X) (n : ℕ) → slice_get (xs ++ x ∷ []) n ≡ Some y
    → (slice_get xs n ≡ Some y) ⊎ ((n ≡ length xs) × (x ≡ y))
pushed-at [] x y zero at = inr (refl, same_Some x y at)
pushed-at [] x y (suc n) at = absurd (omega (arith, slice_get_within (x ∷ []) (suc n) y at))
pushed-at (z ∷ xs) x y zero at = inl at
pushed-at (z ∷ xs) x y (suc n) at =
    elim (pushed-at xs x y n at) [
      | inl here ↦ inl here
      | inr last ↦ inr (ap suc last.0, last.1)
    ]

-- ---- one more pair

some-not-none : (xs : List ℕ) → xs ≢ [] → (length xs == 0) ≡ false
some-not-none [] some = absurd (some refl)
some-not-none (x ∷ xs) some =
    elim (cases_Bool (suc (length xs) == 0)) [
      | inl none ↦ absurd (omega (arith, eqb-true (suc (length xs)) 0 none))
      | inr other ↦ other
    ]

-- a list of sets of which one is not empty
not-nothing : (ins : List Cells) (i : ℕ) (r : Pairing) → r.ins ≡ ins → (set_of r i).indexes ≢ []
    → is_nothing ins ≡ false
not-nothing [] i r is some = absurd (some (ap (λ (ss : List Cells). (set_of (record r { ins = ss }) i).indexes) is))
not-nothing (s ∷ ins) zero r is some =
    rw (some-not-none s.indexes
    (λ none. some (ap (λ (ss : List Cells). (set_of (record r { ins = ss }) 0).indexes) is ∙ none))) refl
not-nothing (s ∷ ins) (suc i) r is some =
    rw (not-nothing ins i (record r { ins = ins }) refl
    (λ none. some (ap (λ (ss : List Cells). (set_of (record r { ins = ss }) (suc i)).indexes) is ∙ none)))
    (and-false (length s.indexes == 0))

apart-more : (rs : List Pairing) (r : Pairing) (seen : Cells) → ArePairsApart rs
    → ((o : Cell) → list_any (λ p. has p.out o) rs ≡ true → has seen o ≡ true)
    → ((o : Cell) → has r.out o ≡ true → has seen o ≡ false) → ArePairsApart (rs ++ r ∷ [])
apart-more rs r seen apart all none m n a b o at too one two =
    let clash : (k : ℕ) (p : Pairing) → slice_get rs k ≡ Some p → has p.out o ≡ true → has r.out o ≡ true → ⊥ =
    λ k p here has_p has_r.
    true≢false (sym (all o (any-at (λ (q : Pairing). has q.out o) rs k p here has_p)) ∙ none o has_r) in
    elim (pushed-at rs r a m at) [
      | inl here ↦
          elim (pushed-at rs r b n too) [
            | inl there ↦ apart m n a b o here there one two
            | inr last ↦ absurd (clash m a here one (ap (λ (p : Pairing). has p.out o) last.1 ∙ two))
          ]
      | inr last ↦
          elim (pushed-at rs r b n too) [
            | inl there ↦ absurd (clash n b there two (ap (λ (p : Pairing). has p.out o) last.1 ∙ one))
            | inr final ↦ last.0 ∙ sym final.0
          ]
    ]

pub seen-none : (i : ℕ) (seen : Cells) (known : List Cells) → known ≡ [] → AreSeen i [] seen known
seen-none i seen known none = record {
  sides = All-nil HasBothSides;
  apart = λ m n a b o at too one two. absurd (omega (arith, slice_get_within [] m a at));
  all_seen = λ o any. absurd (true≢false (sym any));
  named = none;
}

pub seen-more : (i : ℕ) (rs : List Pairing) (r : Pairing) (out set before after : Cells) (known more : List Cells)
    → r.out ≡ out → set_of r i ≡ set → AreSeen i rs before known → IsFurther out set before after known more
    → AreSeen i (rs ++ r ∷ []) after more
seen-more i rs r out set before after known more is_out is_set was further =
    let none : (o : Cell) → has r.out o ≡ true → has before o ≡ false =
    λ o here. further.apart o (ap (λ (s : Cells). has s o) (sym is_out) ∙ here) in
    record {
      sides = All-push HasBothSides rs r was.sides (record {
        out = λ empty. further.some_out (ap (λ (s : Cells). s.indexes) (sym is_out) ∙ empty);
        ins = not-nothing r.ins i r refl
            (λ empty. further.some_set (ap (λ (s : Cells). s.indexes) (sym is_set) ∙ empty));
      });
      apart = apart-more rs r before was.apart was.all_seen none;
      all_seen = λ o any.
          let both = sym (list_any-append (λ (p : Pairing). has p.out o) rs (r ∷ [])) ∙ any in
          elim (or_cases (list_any (λ (p : Pairing). has p.out o) rs) (has r.out o || false) both) [
            | inl old ↦ further.seen o (was.all_seen o old)
            | inr new ↦
                further.added o (ap (λ (s : Cells). has s o) (sym is_out) ∙ sym (or-false (has r.out o)) ∙ new)
          ];
      named = further.named ∙ ap (λ (ss : List Cells). ss ++ set ∷ []) was.named
          ∙ ap (λ (s : Cells). map (λ (p : Pairing). set_of p i) rs ++ s ∷ []) (sym is_set)
          ∙ sym (map_push (λ (p : Pairing). set_of p i) rs r);
    }

-- there are as many known sets as region pairs
pub seen-count : (i : ℕ) (rs : List Pairing) (seen : Cells) (known : List Cells) → AreSeen i rs seen known
    → length known ≡ length rs
seen-count i rs seen known are =
    ap length are.named ∙ length-map rs (λ (p : Pairing). set_of p i)

-- ---- all of them

known-at : (i : ℕ) (rs : List Pairing) (m : ℕ) (x : List Cells) (p : Pairing) → p.ins ≡ x
    → slice_get (map (λ (r : Pairing). r.ins) rs) m ≡ Some x
    → slice_get (map (λ (r : Pairing). set_of r i) rs) m ≡ Some (set_of p i)
known-at i [] m x p is at = absurd (omega (arith, slice_get_within [] m x at))
known-at i (r ∷ rs) zero x p is at =
    ap (λ (ss : List Cells). Some (set_of (record p { ins = ss }) i)) (same_Some r.ins x at ∙ sym is)
known-at i (r ∷ rs) (suc m) x p is at = known-at i rs m x p is at

pub seen-kinds : (i : ℕ) (rs : List Pairing) (seen : Cells) (known : List Cells) → AreSeen i rs seen known
    → AreDifferent known → AreKinds rs
seen-kinds i rs seen known are different = record {
  different = λ m n x at too.
      let p : Pairing = record { out = seen; ins = x } in
      different m n (set_of p i)
      (ap (λ (ss : List Cells). slice_get ss m) are.named ∙ known-at i rs m x p refl at)
      (ap (λ (ss : List Cells). slice_get ss n) are.named ∙ known-at i rs n x p refl too);
  apart = are.apart;
  sides = are.sides;
}

-- ---- seen cells

-- what is so of an index is so of some of a list that has it
met : (e : Extent) (out : Cells) (o : Cell) (ks : List ℕ) → holds e o ≡ true → has out o ≡ true
    → list_any (λ k. k == index_of e o) ks ≡ true → list_any (λ k. has out (cell_of e k)) ks ≡ true
met e out o [] held here any = absurd (true≢false (sym any))
met e out o (k ∷ ks) held here any =
    elim (or_cases (k == index_of e o) (list_any (λ j. j == index_of e o) ks) any) [
      | inl one ↦
          let same : cell_of e k ≡ o = ap (cell_of e) (eqb-true k (index_of e o) one) ∙ cell-index e o held in
          or_left (has out (cell_of e k)) (list_any (λ j. has out (cell_of e j)) ks) (ap (has out) same ∙ here)
      | inr later ↦
          or_right (has out (cell_of e k)) (list_any (λ j. has out (cell_of e j)) ks) (met e out o ks held here later)
    ]

-- where no seen cell is one of a set, no cell of the set is seen
unmet : (out seen : Cells) → any_cell (has out) seen ≡ false → (o : Cell) → has out o ≡ true → has seen o ≡ false
unmet out seen none o here =
    elim (cases_Bool (has seen o)) [
      | inl there ↦
          let e = seen.extent in
          let parts = and_parts (holds e o) (list_any (λ k. k == index_of e o) seen.indexes) there in
          absurd (true≢false (sym (met e out o seen.indexes parts.0 here parts.1) ∙ none))
      | inr not ↦ not
    ]

union-left : (a b : Cells) (o : Cell) → has a o ≡ true → has (union_of a b) o ≡ true
union-left a b o here =
    has-cells_where_any a.extent (λ c. has a c || has b c) o
    ∙ and_from (holds a.extent o) (has a o || has b o)
    (and_parts (holds a.extent o) (list_any (λ k. k == index_of a.extent o) a.indexes) here).0
    (or_left (has a o) (has b o) here)

union-right : (a b : Cells) (o : Cell) → b.extent ≡ a.extent → has b o ≡ true → has (union_of a b) o ≡ true
union-right a b o same here =
    has-cells_where_any a.extent (λ c. has a c || has b c) o
    ∙ and_from (holds a.extent o) (has a o || has b o)
    (ap (λ (e : Extent). holds e o) (sym same)
    ∙ (and_parts (holds b.extent o) (list_any (λ k. k == index_of b.extent o) b.indexes) here).0)
    (or_right (has a o) (has b o) here)

-- a set that has a run is not empty
pub some-cell : (set : Cells) (runs : List Run) (b : Bool) → runs ≡ runs_of set.indexes → b ≡ (length runs == 0)
    → b ≡ false → set.indexes ≢ []
some-cell set runs b are is some none =
    true≢false
    (sym (is ∙ ap (λ (rs : List Run). length rs == 0) are
    ∙ ap (λ (ks : List ℕ). length (runs_of ks) == 0) none) ∙ some)

-- one more set is seen
pub further : (out set before after : Cells) (sets : List Cells) → out.extent ≡ before.extent → out.indexes ≢ []
    → set.indexes ≢ [] → any_cell (has out) before ≡ false → after ≡ union_of before out
    → IsFurther out set before after sets (sets ++ set ∷ [])
further out set before after sets same some other none joined = record {
  some_out = some;
  some_set = other;
  apart = unmet out before none;
  shape = ap (λ (s : Cells). s.extent) joined;
  seen = λ o here. ap (λ (s : Cells). has s o) joined ∙ union-left before out o here;
  added = λ o here. ap (λ (s : Cells). has s o) joined ∙ union-right before out o same here;
  named = refl;
}

-- ---- numbers of sets

-- sets of numbers that are different are different
pub numbered-different : (t : RowTable) (i : ℕ) → All (IsRowOf t) t.rows → i < length t.ins
    → AreDifferent (sets_of t.sets i)
    → ((m n : ℕ) → m < length t.rows → n < length t.rows
    → number_in (row_at t.rows m) i ≡ number_in (row_at t.rows n) i → m ≡ n)
    → AreDifferent (map (λ (r : Pairing). set_of r i) (pairings t))
numbered-different t i named inside different fresh m n x at too =
    let long : length (map (λ (r : Pairing). set_of r i) (pairings t)) ≡ length t.rows =
    length-map (pairings t) (λ (r : Pairing). set_of r i) ∙ length-map t.rows (pairing_of t.outs t.sets) in
    let below : m < length t.rows = omega (arith, slice_get_within _ m x at, long) in
    let under : n < length t.rows = omega (arith, slice_get_within _ n x too, long) in
    fresh m n below under
    (different (number_in (row_at t.rows m) i) (number_in (row_at t.rows n) i) x
    (numbered t i m x named inside below at) (numbered t i n x named inside under too)) where
      numbered : (t : RowTable) (i m : ℕ) (x : Cells) → All (IsRowOf t) t.rows → i < length t.ins → m < length t.rows
          → slice_get (map (λ (r : Pairing). set_of r i) (pairings t)) m ≡ Some x
          → slice_get (sets_of t.sets i) (number_in (row_at t.rows m) i) ≡ Some x
      numbered t i m x named inside below at =
          let f : Pairing → Cells = λ r. set_of r i in
          let g = pairing_of t.outs t.sets in
          let row = row_at t.rows m in
          let own = row-named t m named below in
          let sets = sets_of t.sets i in
          let n = number_in row i in
          let none = no_cells no_extent in
          let r : Row = record { out = 0; ins = [] } in
          let here : g (get_or t.rows m r) ≡ g row = ap g (sym (unwrap_or-slice_get t.rows m r)) in
          let long : m < length (pairings t) = omega (arith, below, length-map t.rows g) in
          let read : x ≡ set_of (g row) i =
          sym (ap (λ (o : Option Cells). unwrap_or o none) at)
          ∙ unwrap_or-slice_get (map f (pairings t)) m none
          ∙ get_or-map f (pairings t) m (g r) none long
          ∙ ap f (get_or-map g t.rows m r (g r) below ∙ here) in
          slice_get-get_or sets n none (own.ins i inside)
          ∙ ap (λ (s : Cells). Some s)
          (sym (unwrap_or-slice_get sets n none) ∙ sym (near-is Forward t row i own inside) ∙ sym read)
