-- How many kinds of lineage region pairs have that are the kinds.
--
-- The key idea: where no output cell is in two pairs, what they stand for at a cell of a pair's output set are the
-- pair's input sets. So the pairs have exactly the lineages of the cells, but that of no cell, and each of them once.
use Rattle.std.proofs.Common.{◌≡◌, ◌≢◌, ◌∙◌, ℕ, zero, suc, ◌+◌, ◌<◌, ◌≤◌, Bool, true, false, ◌&&◌, ◌==◌, not}
use Rattle.std.proofs.Common.{List, [], ◌∷◌, map, length, get_or, refl, sym, ap, ap₂, subst, arith, inl, inr, All, Some}
use Rattle.std.proofs.Common.{eqb-true, eq-eqb, true≢false}
use Rattle.std.specs.List.{slice_get, list_any, filter, range_with_len, AllZip}
use Rattle.std.specs.Option.{option_map}
use Rattle.std.proofs.lemmas.Bool.{cases_Bool, and_parts, and_from, or_cases, or_left, or_right, false_from_ne_true}
use Rattle.std.proofs.lemmas.List.{length-map, get_or-map, same_lists}
use Rattle.std.proofs.lemmas.List.Elements.{All-nil, All-cons, All-head, All-tail}
use Rattle.std.proofs.lemmas.List.Folds.{list_all-map}
use Rattle.std.proofs.lemmas.List.FromFn.{get_or-map-range_with_len, length-map-range_with_len}
use Rattle.std.proofs.lemmas.Option.{slice_get_within, get_or_from_slice_get}
use Rattle.std.proofs.lemmas.Option.{unwrap_or-slice_get, slice_get-map, same_Some}
use Rattle.sz_cells.specs.declared.Cell.{Cell}
use Rattle.sz_cells.specs.Extent.{Extent, size_of, cell_of}
use Rattle.sz_cells.specs.Cells.{Cells, cells_where, has, no_cells}
use Rattle.sz_cells.specs.Rising.{AreRising}
use Rattle.sz_cells.specs.SetBytes.{IsSetOf}
use Rattle.sz_cells.proofs.Sets.{same_truth, cells_where-ext, filter-range_ext, has-index}
use Rattle.sz_cells.proofs.Rising.{rising-filter, filter-false}
use Rattle.sz_spec.specs.Values.{extent_at, no_extent}
use Rattle.sz_spec.specs.Shapes.{Site}
use Rattle.sz_spec.specs.Kinds.{is_nothing, same_sets, different}
use Rattle.sz_frame.specs.Parts.{Pairing}
use Rattle.sz_frame.specs.Stands.{set_of, full_stands}
use Rattle.sz_region.specs.Putting.{HasShapes}
use Rattle.sz_region.specs.FullBytes.{Listed, IsListed, listed_from, AreNumbersOf, AreNamesOf, BeginsRegions}
use Rattle.sz_region.proofs.ReadShapes.{read-shapes}
use Rattle.sz_tables.specs.Tables.{AreDifferent}
use Rattle.sz_merge.specs.Distinct.{AreKinds, HasBothSides}
use Rattle.sz_merge.proofs.Different.{sets-one, sets-same, different-same, different-length}

-- ---- lists

-- what is at a place of a list is so, where all of it is
all-at : {X : Type 0} (P : X → Type 0) (xs : List X) (n : ℕ) (x : X) → All P xs → slice_get xs n ≡ Some x → P x
all-at P xs n x all at = subst P (get_or_from_slice_get xs n x x at) (all n x (slice_get_within xs n x at))

any-found : {X : Type 0} (p : X → Bool) (xs : List X) → list_any p xs ≡ true
    → (n : ℕ) × (x : X) × (slice_get xs n ≡ Some x) × (p x ≡ true)
any-found p [] found = absurd (true≢false (sym found))
any-found p (x ∷ xs) found =
    elim (or_cases (p x) (list_any p xs) found) [
      | inl here ↦ (0, x, refl, here)
      | inr later ↦ let rest = any-found p xs later in (suc rest.0, rest.1, rest.2, rest.3)
    ]

pub any-at : {X : Type 0} (p : X → Bool) (xs : List X) (n : ℕ) (x : X) → slice_get xs n ≡ Some x → p x ≡ true
    → list_any p xs ≡ true
any-at p [] n x at passes = absurd (omega (arith, slice_get_within [] n x at))
any-at p (y ∷ ys) zero x at passes =
    or_left (p y) (list_any p ys) (ap p (same_Some y x at) ∙ passes)
any-at p (y ∷ ys) (suc n) x at passes = or_right (p y) (list_any p ys) (any-at p ys n x at passes)

mapped-at : {X Y : Type 0} (f : X → Y) (xs : List X) (n : ℕ) (y : Y) → slice_get (map f xs) n ≡ Some y
    → (x : X) × (slice_get xs n ≡ Some x) × (y ≡ f x)
mapped-at f [] n y at = absurd (omega (arith, slice_get_within [] n y at))
mapped-at f (x ∷ xs) zero y at = (x, refl, sym (same_Some (f x) y at))
mapped-at f (x ∷ xs) (suc n) y at = mapped-at f xs n y at

-- one that is made of a number of a range, and passes both tests
kept-found : {X : Type 0} (p q : X → Bool) (f : ℕ → X) (n a : ℕ)
    → list_any q (filter p (map f (range_with_len a n))) ≡ true
    → (k : ℕ) × (k < a + n) × (p (f k) ≡ true) × (q (f k) ≡ true)
kept-found p q f zero a found = absurd (true≢false (sym found))
kept-found p q f (suc n) a found =
    let later : list_any q (filter p (map f (range_with_len (a + 1) n))) ≡ true
    → (k : ℕ) × (k < a + suc n) × (p (f k) ≡ true) × (q (f k) ≡ true) =
    λ rest. let one = kept-found p q f n (a + 1) rest in (one.0, omega (arith, one.1), one.2, one.3) in
    elim (cases_Bool (p (f a))) [
      | inl passes ↦
          elim (or_cases (q (f a)) (list_any q (filter p (map f (range_with_len (a + 1) n)))) (rw passes at found)) [
            | inl here ↦ (a, omega arith, passes, here)
            | inr rest ↦ later rest
          ]
      | inr fails ↦ later (rw fails at found)
    ]

kept-from : {X : Type 0} (p q : X → Bool) (f : ℕ → X) (n a k : ℕ) → a ≤ k → k < a + n → p (f k) ≡ true
    → q (f k) ≡ true → list_any q (filter p (map f (range_with_len a n))) ≡ true
kept-from p q f zero a k low high passes both = absurd (omega arith)
kept-from p q f (suc n) a k low high passes both =
    let rest = list_any q (filter p (map f (range_with_len (a + 1) n))) in
    let later : a ≢ k → rest ≡ true =
    λ other. kept-from p q f n (a + 1) k (omega (arith, other)) (omega arith) passes both in
    elim (cases_Bool (a == k)) [
      | inl same ↦
          let e : k ≡ a = sym (eqb-true a k same) in
          let here : p (f a) ≡ true = subst (λ (j : ℕ). p (f j) ≡ true) e passes in
          rw here (or_left (q (f a)) rest (subst (λ (j : ℕ). q (f j) ≡ true) e both))
      | inr other ↦
          let more : rest ≡ true = later (λ e. true≢false (sym (eq-eqb a k e) ∙ other)) in
          elim (cases_Bool (p (f a))) [
            | inl here ↦ rw here (or_right (q (f a)) rest more)
            | inr not_here ↦ rw not_here more
          ]
    ]

all-empty : (f : ℕ → List ℕ) (n a : ℕ) → ((i : ℕ) → a ≤ i → i < a + n → f i ≡ [])
    → is_nothing (map f (range_with_len a n)) ≡ true
all-empty f zero a empty = refl
all-empty f (suc n) a empty =
    rw (empty a (omega arith) (omega arith))
    (all-empty f n (a + 1) (λ i low high. empty i (omega arith) (omega arith)))

-- ---- sets

-- a region pair of sets of these shapes, each in its one spelling
pub record IsPairOver (out : Extent) (ins : List Extent) (r : Pairing) : Type 0 where
  pub shapes : HasShapes out ins r
  pub own : IsSetOf out r.out
  pub each : (i : ℕ) → i < length ins → IsSetOf (extent_at ins i) (set_of r i)

sets-named : (out : Extent) (ins : List Extent) (table : List Listed) (ns : List ℕ) (a : ℕ) (sets : List Cells)
    (i : ℕ) (x : Cells) → All (IsListed out ins) table → AreNumbersOf table ns (listed_from a sets)
    → slice_get sets i ≡ Some x → IsSetOf (extent_at (out ∷ ins) (a + i)) x
sets-named out ins table ns a [] i x all named at = absurd (omega (arith, slice_get_within [] i x at))
sets-named out ins table [] a (s ∷ sets) i x all named at = absurd named
sets-named out ins table (n ∷ ns) a (s ∷ sets) zero x all named at =
    let own = all-at (IsListed out ins) table n (record { array = a; set = s }) all named.0 in
    let same : a ≡ a + zero = omega arith in
    subst (λ (k : ℕ). IsSetOf (extent_at (out ∷ ins) k) x) same
    (subst (λ (y : Cells). IsSetOf (extent_at (out ∷ ins) a) y) (same_Some s x at) own.set)
sets-named out ins table (n ∷ ns) a (s ∷ sets) (suc i) x all named at =
    let same : (a + 1) + i ≡ a + suc i = omega arith in
    subst (λ (k : ℕ). IsSetOf (extent_at (out ∷ ins) k) x) same
    (sets-named out ins table ns (a + 1) sets i x all named.1 at)

set-at : (sets : List Cells) (i : ℕ) → i < length sets
    → slice_get sets i ≡ Some (get_or sets i (no_cells no_extent))
set-at [] i inside = absurd (omega arith)
set-at (s ∷ sets) zero inside = refl
set-at (s ∷ sets) (suc i) inside = set-at sets i (omega arith)

pair-over : (out : Extent) (ins : List Extent) (table : List Listed) (ns : List ℕ) (r : Pairing)
    → All (IsListed out ins) table → AreNamesOf table (length ins) ns r → HasShapes out ins r → IsPairOver out ins r
pair-over out ins table ns r all names shapes = record {
  shapes = shapes;
  own = sets-named out ins table ns 0 (r.out ∷ r.ins) 0 r.out all names.named refl;
  each = λ i inside.
      let there = set-at r.ins i (omega (arith, names.whole)) in
      let same : 0 + suc i ≡ suc i = omega arith in
      subst (IsSetOf (extent_at ins i)) (sym (unwrap_or-slice_get r.ins i (no_cells no_extent)))
      (subst (λ (k : ℕ). IsSetOf (extent_at (out ∷ ins) k) (get_or r.ins i (no_cells no_extent))) same
      (sets-named out ins table ns 0 (r.out ∷ r.ins) (suc i)
      (get_or r.ins i (no_cells no_extent)) all names.named there));
}

pairs-over : (out : Extent) (ins : List Extent) (table : List Listed) (names : List (List ℕ)) (rs : List Pairing)
    → All (IsListed out ins) table → AllZip (AreNamesOf table (length ins)) names rs → All (HasShapes out ins) rs
    → All (IsPairOver out ins) rs
pairs-over out ins table [] [] all named shapes = All-nil (IsPairOver out ins)
pairs-over out ins table [] (r ∷ rs) all named shapes = absurd named
pairs-over out ins table (ns ∷ names) [] all named shapes = absurd named
pairs-over out ins table (ns ∷ names) (r ∷ rs) all named shapes =
    All-cons (IsPairOver out ins) r rs
    (pair-over out ins table ns r all named.0 (All-head (HasShapes out ins) r rs shapes))
    (pairs-over out ins table names rs all named.1 (All-tail (HasShapes out ins) r rs shapes))

-- region pairs that some bytes spell are such
pub read-over : (out : Extent) (ins : List Extent) (bytes : List ℕ) (at next : ℕ) (rs : List Pairing)
    → BeginsRegions out ins bytes at next rs → All (IsPairOver out ins) rs
read-over out ins bytes at next rs begins =
    pairs-over out ins begins.table begins.is_word.names rs begins.is_word.each begins.is_word.named
    (read-shapes out ins bytes at next rs begins)

-- a set has the indexes of the cells that are in it
set-own : (e : Extent) (set : Cells) → IsSetOf e set → (cells_where e (has set)).indexes ≡ set.indexes
set-own e set is =
    filter-range_ext (λ k. has set (cell_of e k)) (λ k. list_any (λ x. x == k) set.indexes) 0 (size_of e)
    (λ k low high. has-index set e k is.extent (omega arith))
    ∙ rising-filter (size_of e) 0 (size_of e) set.indexes (omega arith) is.rising

-- sets of the same shapes with the same indexes are the same
sets-are : (xs ys : List Cells) → map (λ s. s.extent) xs ≡ map (λ s. s.extent) ys
    → map (λ s. s.indexes) xs ≡ map (λ s. s.indexes) ys → xs ≡ ys
sets-are [] [] shapes same = refl
sets-are [] (y ∷ ys) shapes same = absurd (omega (arith, ap length same))
sets-are (x ∷ xs) [] shapes same = absurd (omega (arith, ap length same))
sets-are (x ∷ xs) (y ∷ ys) shapes same =
    let make : Extent → List ℕ → Cells = λ e ns. record { extent = e; indexes = ns } in
    let shape : x.extent ≡ y.extent = cc in
    let own : x.indexes ≡ y.indexes = cc in
    let one : x ≡ y = ap₂ make shape own in
    ap₂ (λ (z : Cells) (zs : List Cells). z ∷ zs) one (sets-are xs ys (cc) (cc))

-- the indexes of some sets
abbrev pub indexes_in : List Cells → List (List ℕ)
indexes_in sets = map (λ s. s.indexes) sets

-- the first index of a set
first-index : (bound : ℕ) (xs : List ℕ) → AreRising 0 bound xs → xs ≢ []
    → (k : ℕ) × (k < bound) × (list_any (λ x. x == k) xs ≡ true)
first-index bound [] rises some = absurd (some refl)
first-index bound (x ∷ xs) rises some =
    (x, rises.1, or_left (x == x) (list_any (λ y. y == x) xs) (eq-eqb x x refl))

-- ---- lineages

-- the lineage of output cell o by a test of cells: of each input the cells that pass
abbrev pub lineage_by : Site → (ℕ → Cell → Cell → Bool) → Cell → List (List ℕ)
lineage_by s stands o =
    map (λ i. (cells_where (extent_at s.ins i) (stands i o)).indexes) (range_with_len 0 (length s.ins))

-- the lineages of all output cells, but those of no cell
abbrev pub lineages_by : Site → (ℕ → Cell → Cell → Bool) → List (List (List ℕ))
lineages_by s stands =
    filter (λ sets. not (is_nothing sets))
    (map (λ k. lineage_by s stands (cell_of s.out k)) (range_with_len 0 (size_of s.out)))

-- what the lemmas below take: region pairs that are the kinds, of sets of the operator's shapes
pub record AreKindsOver (s : Site) (rs : List Pairing) : Type 0 where
  pub over : All (IsPairOver s.out s.ins) rs
  pub kinds : AreKinds rs

-- what stands for a cell of a pair's output set are the pair's input sets
stands-own : (rs : List Pairing) (m : ℕ) (r : Pairing) (i : ℕ) (o x : Cell) → AreKinds rs → slice_get rs m ≡ Some r
    → has r.out o ≡ true → full_stands rs i o x ≡ has (set_of r i) x
stands-own rs m r i o x kinds at here =
    let p : Pairing → Bool = λ b. has b.out o && has (set_of b i) x in
    same_truth (list_any p rs) (has (set_of r i) x)
    (λ found.
    let one = any-found p rs found in
    let both = and_parts (has one.1.out o) (has (set_of one.1 i) x) one.3 in
    let place : m ≡ one.0 = kinds.apart m one.0 r one.1 o at one.2 here both.0 in
    let own : one.1 ≡ r = same_Some one.1 r (sym one.2 ∙ (ap (slice_get rs) (sym place) ∙ at)) in
    subst (λ (b : Pairing). has (set_of b i) x ≡ true) own both.1)
    (λ there. any-at p rs m r at (and_from (has r.out o) (has (set_of r i) x) here there))

-- so the lineage of such a cell is the pair's
lineage-own : (s : Site) (rs : List Pairing) (m : ℕ) (r : Pairing) (o : Cell) → AreKindsOver s rs
    → slice_get rs m ≡ Some r → has r.out o ≡ true → lineage_by s (full_stands rs) o ≡ indexes_in r.ins
lineage-own s rs m r o are at here =
    let over = all-at (IsPairOver s.out s.ins) rs m r are.over at in
    let wide : length r.ins ≡ length s.ins =
    sym (length-map r.ins (λ (x : Cells). x.extent)) ∙ ap length over.shapes.ins in
    let f : ℕ → List ℕ = λ i. (cells_where (extent_at s.ins i) (full_stands rs i o)).indexes in
    let set : (i : ℕ) → i < length s.ins → f i ≡ (set_of r i).indexes =
    λ i inside.
    let e = extent_at s.ins i in
    ap (λ (c : Cells). c.indexes) (cells_where-ext e (full_stands rs i o) (has (set_of r i))
    (λ x cell. stands-own rs m r i o x are.kinds at here))
    ∙ set-own e (set_of r i) (over.each i inside) in
    same_lists (map f (range_with_len 0 (length s.ins))) (indexes_in r.ins)
    (length-map-range_with_len f 0 (length s.ins) ∙ (sym wide ∙ sym (length-map r.ins (λ (x : Cells). x.indexes))))
    (λ i d within.
    let inside : i < length s.ins = omega (arith, length-map-range_with_len f 0 (length s.ins), within) in
    let there : i < length r.ins = omega (arith, inside, wide) in
    get_or-map-range_with_len f 0 (length s.ins) i i d inside (omega arith)
    ∙ set i inside
    ∙ ap (λ (c : Cells). c.indexes) (unwrap_or-slice_get r.ins i (no_cells no_extent))
    ∙ sym (get_or-map (λ (x : Cells). x.indexes) r.ins i (no_cells no_extent) d there))

-- the lineage of a cell that is in no pair's output set is nothing
lineage-none : (s : Site) (rs : List Pairing) (o : Cell) → list_any (λ (r : Pairing). has r.out o) rs ≡ false
    → is_nothing (lineage_by s (full_stands rs) o) ≡ true
lineage-none s rs o none =
    let f : ℕ → List ℕ = λ i. (cells_where (extent_at s.ins i) (full_stands rs i o)).indexes in
    all-empty f (length s.ins) 0
    (λ i low high.
    let e = extent_at s.ins i in
    ap (λ (c : Cells). c.indexes) (cells_where-ext e (full_stands rs i o) (λ x. false)
    (λ x cell.
    false_from_ne_true (full_stands rs i o x)
    (λ stands.
    let one = any-found (λ (r : Pairing). has r.out o && has (set_of r i) x) rs stands in
    let both = and_parts (has one.1.out o) (has (set_of one.1 i) x) one.3 in
    true≢false (sym (any-at (λ (r : Pairing). has r.out o) rs one.0 one.1 one.2 both.0) ∙ none))))
    ∙ filter-false (range_with_len 0 (size_of e)))

-- ---- how many

codes-different : (s : Site) (rs : List Pairing) → AreKindsOver s rs
    → AreDifferent (map (λ (r : Pairing). indexes_in r.ins) rs)
codes-different s rs are m n x at too =
    let code : Pairing → List (List ℕ) = λ r. indexes_in r.ins in
    let sets : Pairing → List Cells = λ r. r.ins in
    let a = mapped-at code rs m x at in
    let b = mapped-at code rs n x too in
    let first = all-at (IsPairOver s.out s.ins) rs m a.0 are.over a.1 in
    let second = all-at (IsPairOver s.out s.ins) rs n b.0 are.over b.1 in
    let one : a.0.ins ≡ b.0.ins =
    sets-are a.0.ins b.0.ins (first.shapes.ins ∙ sym second.shapes.ins) (sym a.2 ∙ b.2) in
    are.kinds.different m n a.0.ins (slice_get-map sets rs m ∙ ap (option_map sets) a.1)
    (slice_get-map sets rs n ∙ (ap (option_map sets) b.1 ∙ ap Some (sym one)))

not-from : (b : Bool) → b ≡ false → not b ≡ true
not-from b fails = rw fails refl

-- a lineage of a cell is a pair's
cell-pair : (s : Site) (rs : List Pairing) (b : List (List ℕ)) → AreKindsOver s rs
    → list_any (same_sets b) (lineages_by s (full_stands rs)) ≡ true
    → list_any (same_sets b) (map (λ (r : Pairing). indexes_in r.ins) rs) ≡ true
cell-pair s rs b are found =
    let code : Pairing → List (List ℕ) = λ r. indexes_in r.ins in
    let lineage : Cell → List (List ℕ) = lineage_by s (full_stands rs) in
    let one = kept-found (λ sets. not (is_nothing sets)) (same_sets b) (λ k. lineage (cell_of s.out k))
    (size_of s.out) 0 found in
    let o = cell_of s.out one.0 in
    elim (cases_Bool (list_any (λ (r : Pairing). has r.out o) rs)) [
      | inl some ↦
          let pair = any-found (λ (r : Pairing). has r.out o) rs some in
          any-at (same_sets b) (map code rs) pair.0 (code pair.1)
          (slice_get-map code rs pair.0 ∙ ap (option_map code) pair.2)
          (sets-same b (code pair.1) (sets-one b (lineage o) one.3
          ∙ lineage-own s rs pair.0 pair.1 o are pair.2 pair.3))
      | inr none ↦ absurd (true≢false (sym one.2 ∙ (ap not (lineage-none s rs o none))))
    ]

-- a pair's lineage is that of a cell
pair-cell : (s : Site) (rs : List Pairing) (b : List (List ℕ)) → AreKindsOver s rs
    → list_any (same_sets b) (map (λ (r : Pairing). indexes_in r.ins) rs) ≡ true
    → list_any (same_sets b) (lineages_by s (full_stands rs)) ≡ true
pair-cell s rs b are found =
    let code : Pairing → List (List ℕ) = λ r. indexes_in r.ins in
    let lineage : Cell → List (List ℕ) = lineage_by s (full_stands rs) in
    let one = any-found (same_sets b) (map code rs) found in
    let pair = mapped-at code rs one.0 one.1 one.2 in
    let r = pair.0 in
    let over = all-at (IsPairOver s.out s.ins) rs one.0 r are.over pair.1 in
    let sides = all-at HasBothSides rs one.0 r are.kinds.sides pair.1 in
    let first = first-index (size_of s.out) r.out.indexes over.own.rising sides.out in
    let here : has r.out (cell_of s.out first.0) ≡ true =
    has-index r.out s.out first.0 over.own.extent first.1 ∙ first.2 in
    let own = lineage-own s rs one.0 r (cell_of s.out first.0) are pair.1 here in
    let some : is_nothing (indexes_in r.ins) ≡ false =
    list_all-map (λ (set : List ℕ). length set == 0) (λ (x : Cells). x.indexes) r.ins ∙ sides.ins in
    kept-from (λ sets. not (is_nothing sets)) (same_sets b) (λ k. lineage (cell_of s.out k)) (size_of s.out)
    0 first.0 (omega arith) (omega (arith, first.1))
    (not-from (is_nothing (lineage (cell_of s.out first.0))) (ap is_nothing own ∙ some))
    (sets-same b (lineage (cell_of s.out first.0)) (sets-one b one.1 one.3 ∙ (pair.2 ∙ sym own)))

-- there are as many pairs as kinds of lineage
pub kinds-counted : (s : Site) (rs : List Pairing) → AreKindsOver s rs
    → length rs ≡ different (lineages_by s (full_stands rs))
kinds-counted s rs are =
    let code : Pairing → List (List ℕ) = λ r. indexes_in r.ins in
    sym (length-map rs code)
    ∙ sym (different-length (map code rs) (codes-different s rs are))
    ∙ different-same (map code rs) (lineages_by s (full_stands rs))
    (λ b. same_truth (list_any (same_sets b) (map code rs)) (list_any (same_sets b) (lineages_by s (full_stands rs)))
    (pair-cell s rs b are) (cell-pair s rs b are))
