-- Lineages of one input, each of them a set alone.
--
-- The key idea: no cell joined with a set is the set, so the lineage of a set's number is the next after that of
-- nothing by each region pair that has the set.
use Rattle.std.proofs.Common.{◌≡◌, ◌≢◌, ◌∙◌, ℕ, zero, suc, ◌+◌, ◌<◌, false, Some, unwrap_or}
use Rattle.std.proofs.Common.{List, [], ◌∷◌, map, length, get_or, refl, sym, ap, ap₂, subst, arith, All, add-one}
use Rattle.std.specs.List.{slice_get, range_with_len, flat_map, zip}
use Rattle.std.specs.Prelude.{slice_index}
use Rattle.std.specs.Option.{option_map}
use Rattle.std.proofs.lemmas.Option.{slice_get-map, slice_get_within, slice_get-get_or, same_Some, unwrap_or-slice_get}
use Rattle.std.proofs.lemmas.Option.{get_or_from_slice_get}
use Rattle.std.proofs.lemmas.List.{length-map}
use Rattle.sz_cells.specs.Extent.{Extent, size_of}
use Rattle.sz_cells.specs.Rising.{AreRising}
use Rattle.sz_cells.specs.Cells.{Cells, cells_where, has, no_cells}
use Rattle.sz_cells.specs.SetBytes.{IsSetOf}
use Rattle.sz_cells.specs.Runs.{AreRunsFrom, indexes_of, runs_of}
use Rattle.sz_cells.specs.declared.Run.{Run}
use Rattle.sz_cells.proofs.Runs.{runs_of-longest, spelled-runs_of}
use Rattle.sz_cells.proofs.LawsOfSets.{rising-sets}
use Rattle.sz_cells.proofs.Rising.{filter-false}
use Rattle.sz_spec.specs.declared.modes.Dir.TheVariants.{Forward}
use Rattle.sz_spec.specs.Values.{extent_at, no_extent}
use Rattle.sz_region.specs.Putting.{HasShapes}
use Rattle.sz_tables.specs.Rows.{RowTable, IsRowOf, pairings, row_at, number_in, set_at, sets_of}
use Rattle.sz_tables.specs.Scans.{pairing_at}
use Rattle.sz_tables.specs.Tables.{AreDifferent, spelled}
use Rattle.sz_tables.proofs.Scanned.{near-is, row-named}
use Rattle.sz_merge.specs.Lineages.{nothing, joined, list_at, lists_of}
use Rattle.sz_merge.specs.Marks.{IsNext, AreLabels, AreGroups}
use Rattle.sz_merge.proofs.Sets.{set-where, joined-where}
use Rattle.sz_merge.proofs.Marked.{next-joined}
use Rattle.sz_merge.proofs.Sorting.{AreSorted, sorted-from}

-- a list of one has the first alone
pub single : {X : Type 0} (d : X) (xs : List X) → length xs ≡ 1 → xs ≡ unwrap_or (slice_get xs 0) d ∷ []
single d [] long = absurd (omega (arith, long))
single d (x ∷ []) long = refl
single d (x ∷ y ∷ xs) long = absurd (omega (arith, long))

-- ---- one set

-- no cell joined with a set is the set
joined-none : (e : Extent) (s : Cells) → IsSetOf e s → joined (nothing (e ∷ [])) (s ∷ []) ≡ s ∷ []
joined-none e s is =
    let rising : AreRising 0 (size_of s.extent) s.indexes =
    subst (λ (f : Extent). AreRising 0 (size_of f) s.indexes) (sym is.extent) is.rising in
    let whole : s ≡ cells_where e (has s) =
    subst (λ (f : Extent). s ≡ cells_where f (has s)) is.extent (rising-sets s rising) in
    joined-where (e ∷ []) (λ i x. false) (s ∷ []) ∙ ap (λ (t : Cells). t ∷ []) (sym whole)

-- the lineage of a set's number
at-set : (ins : List Extent) (sets : List Cells) (k : ℕ) → k < length sets
    → slice_get (lists_of ins sets) (k + 1) ≡ Some (set_at sets k ∷ [])
at-set ins sets k inside =
    let d = no_cells no_extent in
    let list : Cells → List Cells = λ s. s ∷ [] in
    ap (λ (n : ℕ). slice_get (lists_of ins sets) n) (add-one k)
    ∙ slice_get-map list sets k
    ∙ ap (option_map list) (slice_get-get_or sets k d inside ∙ ap Some (sym (unwrap_or-slice_get sets k d)))

-- what a row names of the one input
ins-alone : (sets : List (List Cells)) (ns : List ℕ) → length ns ≡ 1 → slice_index ns 0 < length (sets_of sets 0)
    → map (λ (p : List Cells × ℕ). set_at p.0 p.1) (zip sets ns) ≡ set_at (sets_of sets 0) (slice_index ns 0) ∷ []
ins-alone [] ns long below = absurd (omega (arith, below))
ins-alone (s ∷ ss) [] long below = absurd (omega (arith, long))
ins-alone (s ∷ []) (n ∷ []) long below = refl
ins-alone (s ∷ u ∷ ss) (n ∷ []) long below = refl
ins-alone (s ∷ ss) (n ∷ m ∷ ns) long below = absurd (omega (arith, long))

-- the region pair of a row has the table's shapes where its output set has the output's
pub row-shapes : (t : RowTable) (out : Extent) (n : ℕ) → All (IsRowOf t) t.rows → n < length t.rows → length t.ins ≡ 1
    → (pairing_at t n).out.extent ≡ out → All (IsSetOf (extent_at t.ins 0)) (sets_of t.sets 0)
    → HasShapes out t.ins (pairing_at t n)
row-shapes t out n named inside one shape own =
    let row = row_at t.rows n in
    let sets = sets_of t.sets 0 in
    let k = number_in row 0 in
    let d = no_cells no_extent in
    let is = row-named t n named inside in
    let below : k < length sets = is.ins 0 (omega (arith, one)) in
    let right : IsSetOf (extent_at t.ins 0) (set_at sets k) =
    subst (IsSetOf (extent_at t.ins 0)) (sym (unwrap_or-slice_get sets k d)) (own k d below) in
    let alone : (pairing_at t n).ins ≡ set_at sets k ∷ [] = ins-alone t.sets row.ins (is.arity ∙ one) below in
    record {
      out = shape;
      ins =
          ap (map (λ (s : Cells). s.extent)) alone
          ∙ ap (λ (e : Extent). e ∷ []) right.extent
          ∙ sym (single no_extent t.ins one);
    }

-- a row leads from nothing to the lineage of its set
pub row-next : (t : RowTable) (out : Extent) (n : ℕ) → All (IsRowOf t) t.rows → n < length t.rows → length t.ins ≡ 1
    → HasShapes out t.ins (pairing_at t n) → All (IsSetOf (extent_at t.ins 0)) (sets_of t.sets 0)
    → IsNext t.ins (pairing_at t n) (lists_of t.ins (sets_of t.sets 0)) 0 (number_in (row_at t.rows n) 0 + 1)
row-next t out n named inside one shapes own =
    let ins = t.ins in
    let sets = sets_of t.sets 0 in
    let lists = lists_of ins sets in
    let r = pairing_at t n in
    let d = no_cells no_extent in
    let row = row_at t.rows n in
    let k = number_in row 0 in
    let is = row-named t n named inside in
    let some : 0 < length ins = omega (arith, one) in
    let below : k < length sets = is.ins 0 some in
    let s = set_at sets k in
    let alone : r.ins ≡ s ∷ [] =
    single d r.ins (sym (length-map r.ins (λ (c : Cells). c.extent)) ∙ ap length shapes.ins ∙ one)
    ∙ ap (λ (c : Cells). c ∷ []) (near-is Forward t row 0 is some) in
    let right : IsSetOf (extent_at ins 0) s =
    subst (IsSetOf (extent_at ins 0)) (sym (unwrap_or-slice_get sets k d)) (own k d below) in
    next-joined ins r lists lists 0 (k + 1) (omega arith) (λ m x at. at)
    (at-set ins sets k below
    ∙ ap Some (sym (ap₂ (λ (es : List Extent) (ss : List Cells). joined (nothing es) ss) (single no_extent ins one)
    alone
    ∙ joined-none (extent_at ins 0) s right)))

-- the runs of a set spell it
pub spelled-own : (e : Extent) (set : Cells) (runs : List Run) → IsSetOf e set → runs ≡ runs_of set.indexes
    → spelled e runs ≡ set
spelled-own e set runs is are =
    let make : Extent → List ℕ → Cells = λ f xs. record { extent = f; indexes = xs } in
    ap₂ make (sym is.extent)
    (ap (flat_map indexes_of) are ∙ spelled-runs_of 0 (size_of e) set.indexes is.rising)

-- the runs of a set are in order
pub runs-own : (e : Extent) (set : Cells) (runs : List Run) → IsSetOf e set → runs ≡ runs_of set.indexes
    → AreRunsFrom 0 (size_of e) runs
runs-own e set runs is are =
    subst (AreRunsFrom 0 (size_of e)) (sym are) (runs_of-longest 0 (size_of e) set.indexes is.rising)

-- the lineage of a set's number is the set alone
pub list-of-set : (ins : List Extent) (sets : List Cells) (k : ℕ) → k < length sets
    → list_at (lists_of ins sets) (k + 1) ≡ set_at sets k ∷ []
list-of-set ins sets k inside =
    let lists = lists_of ins sets in
    unwrap_or-slice_get lists (k + 1) []
    ∙ get_or_from_slice_get lists (k + 1) (set_at sets k ∷ []) [] (at-set ins sets k inside)

-- ---- all sets

-- the set of a lineage
unlisted : (sets : List Cells) (m : ℕ) (x : List Cells) → slice_get (map (λ (s : Cells). s ∷ []) sets) m ≡ Some x
    → slice_get sets m ≡ Some (set_at x 0)
unlisted [] m x at = absurd (omega (arith, slice_get_within [] m x at))
unlisted (s ∷ sets) zero x at = ap (λ (ss : List Cells). Some (set_at ss 0)) (same_Some (s ∷ []) x at)
unlisted (s ∷ sets) (suc m) x at = unlisted sets m x at

none-first : (ins : List Extent) → 0 < length ins → (set_at (nothing ins) 0).indexes ≡ []
none-first ins some =
    ap (λ (s : Cells). s.indexes) (set-where ins (λ i x. false) 0 some)
    ∙ filter-false (range_with_len 0 (size_of (extent_at ins 0)))

-- a lineage of some cell is not that of none
some-other : (ins : List Extent) (sets : List Cells) (n : ℕ) (x : List Cells) → 0 < length ins
    → All (λ s. s.indexes ≢ []) sets → Some (nothing ins) ≡ Some x
    → slice_get (map (λ (s : Cells). s ∷ []) sets) n ≡ Some x → ⊥
some-other ins sets n x some full at too =
    let d = no_cells no_extent in
    let here : slice_get sets n ≡ Some (set_at x 0) = unlisted sets n x too in
    let inside : n < length sets = slice_get_within sets n (set_at x 0) here in
    let own : get_or sets n d ≡ set_at x 0 =
    same_Some (get_or sets n d) (set_at x 0) (sym (slice_get-get_or sets n d inside) ∙ here) in
    full n d inside
    (ap (λ (s : Cells). s.indexes) own
    ∙ ap (λ (ss : List Cells). (set_at ss 0).indexes) (sym (same_Some (nothing ins) x at))
    ∙ none-first ins some)

-- different sets, none of them empty, are different lineages
pub lists-differ : (ins : List Extent) (sets : List Cells) → 0 < length ins → All (λ s. s.indexes ≢ []) sets
    → AreDifferent sets → AreDifferent (lists_of ins sets)
lists-differ ins sets some full different zero zero x at too = refl
lists-differ ins sets some full different zero (suc n) x at too = absurd (some-other ins sets n x some full at too)
lists-differ ins sets some full different (suc m) zero x at too = absurd (some-other ins sets m x some full too at)
lists-differ ins sets some full different (suc m) (suc n) x at too =
    ap suc (different m n (set_at x 0) (unlisted sets m x at) (unlisted sets n x too))

-- ---- labels by these lineages

-- rows whose cells are labelled and grouped by these lineages are sorted
pub lists-sorted : (t : RowTable) (out : Extent) (ins : List Extent) (labels seen : List ℕ) (groups : List (List Run))
    (count : ℕ) (lists : List (List Cells)) → length ins ≡ 1 → t.ins ≡ ins → All (HasShapes out ins) (pairings t)
    → AreDifferent (sets_of t.sets 0) → All (λ s. s.indexes ≢ []) (sets_of t.sets 0)
    → lists ≡ lists_of ins (sets_of t.sets 0)
    → AreLabels out t.ins (pairings t) labels (lists_of t.ins (sets_of t.sets 0)) → seen ≡ labels
    → count ≡ length lists → AreGroups seen count (length seen) groups
    → AreSorted out ins (pairings t) labels groups (lists_of ins (sets_of t.sets 0))
lists-sorted t out ins labels seen groups count lists one same shapes different some are numbers was many cells =
    let sets = sets_of t.sets 0 in
    sorted-from out ins (pairings t) labels seen groups (lists_of ins sets) count
    (subst (λ (es : List Extent). AreLabels out es (pairings t) labels (lists_of es sets)) same numbers) was
    (many ∙ ap length are) cells
    (lists-differ ins sets (omega (arith, one)) some different) shapes
