-- Sets that are one or apart are known by their first cells, and those of a table are those of its region pairs.
--
-- The key idea: the first cell of the first run is one of the set, so two sets that begin with it are not apart.
use Rattle.std.proofs.Common.{◌≡◌, ℕ, zero, suc, ◌+◌, ◌<◌, ◌≤◌, List, [], ◌∷◌, ◌++◌, Some, map, length, get_or}
use Rattle.std.proofs.Common.{take, drop, true, refl, sym, ap, ap₂, subst, ◌∙◌, ◌⊎◌, inl, inr, arith, All}
use Rattle.std.proofs.Common.{length-append}
use Rattle.std.specs.List.{slice_get, flat_map}
use Rattle.std.proofs.lemmas.Bool.Decides.{nat_tests}
use Rattle.std.proofs.lemmas.Option.{slice_get_within, slice_get-get_or, unwrap_or-slice_get, get_or_from_slice_get}
use Rattle.std.proofs.lemmas.List.{get_or-append-add, append_assoc, take-append-drop, length-map}
use Rattle.sz_spec.proofs.FlowOutputs.{slice_get-left}
use Rattle.sz_spec.specs.Values.{no_extent}
use Rattle.sz_cells.specs.declared.Run.{Run}
use Rattle.sz_cells.specs.Extent.{Extent, size_of, cell_of}
use Rattle.sz_cells.specs.Cells.{Cells, has, no_cells}
use Rattle.sz_cells.specs.Runs.{AreRunsFrom, indexes_of, covers, Spells}
use Rattle.sz_cells.proofs.Sets.{has-index}
use Rattle.sz_cells.proofs.Runs.{any-covers}
use Rattle.sz_frame.specs.Parts.{Pairing}
use Rattle.sz_frame.specs.Stands.{set_of}
use Rattle.sz_tables.specs.Tables.{SetsByNumber, HasAtMostOneMore, spelled, first_of}
use Rattle.sz_tables.specs.Rows.{set_at, sets_of, pairings, empty_sets, rows_of, table_of, pairing_of}
use Rattle.sz_tables.specs.Apart.{IsOneOrApart, AreOneOrApart, HaveInputsApart, AreOfPairs}

-- ---- sets by their first cells

-- the first cell of runs is one that they spell
has-first : (e : Extent) (r : Run) (runs : List Run) → AreRunsFrom 0 (size_of e) (r ∷ runs)
    → has (spelled e (r ∷ runs)) (cell_of e r.first) ≡ true
has-first e r runs long =
    let order : r.first ≤ r.last = long.1 in
    let below : r.first < size_of e = omega (arith, long.2) in
    let covered : covers (r ∷ runs) r.first ≡ true = grind (arith, nat_tests) in
    has-index (spelled e (r ∷ runs)) e r.first refl below
    ∙ (any-covers 0 (size_of e) r.first (r ∷ runs) long ∙ covered)

-- a set is the one that runs of its shape spell
pub spelled-is : (set : Cells) (e : Extent) (runs : List Run) → set.extent ≡ e → flat_map indexes_of runs ≡ set.indexes
    → spelled e runs ≡ set
spelled-is set e runs shape spells =
    ap₂ (λ (x : Extent) (xs : List ℕ). record { extent = x; indexes = xs }) (sym shape) spells

-- runs that begin alike spell one set where these are one or apart
begun-one : (e : Extent) (a b : List Run) → AreRunsFrom 0 (size_of e) a → AreRunsFrom 0 (size_of e) b
    → length a ≡ length b → first_of a ≡ first_of b → IsOneOrApart (spelled e b) (spelled e a)
    → spelled e b ≡ spelled e a
begun-one e a b long longer many first (inl same) = same
begun-one e [] [] long longer many first (inr apart) = refl
begun-one e [] (q ∷ b) long longer many first (inr apart) = absurd (omega arith)
begun-one e (r ∷ a) [] long longer many first (inr apart) = absurd (omega arith)
begun-one e (r ∷ a) (q ∷ b) long longer many first (inr apart) =
    absurd (apart (cell_of e q.first) (has-first e q b longer)
    (subst (λ (k : ℕ). has (spelled e (r ∷ a)) (cell_of e k) ≡ true) first (has-first e r a long)))

pub begun-met : (sets : List Cells) (n : ℕ) (e : Extent) (a more : List Run) → n < length sets
    → AreRunsFrom 0 (size_of e) a → AreRunsFrom 0 (size_of e) more → Spells a (set_at sets n)
    → (set_at sets n).extent ≡ e → All (IsOneOrApart (spelled e more)) sets → length a ≡ length more
    → first_of a ≡ first_of more → slice_get sets n ≡ Some (spelled e more)
begun-met sets n e a more within long longer spells shape all many first =
    let none = no_cells no_extent in
    let own : spelled e a ≡ set_at sets n = spelled-is (set_at sets n) e a shape spells.spelled in
    let here : get_or sets n none ≡ spelled e a = sym (unwrap_or-slice_get sets n none) ∙ sym own in
    let one : spelled e more ≡ spelled e a =
    begun-one e a more long longer many first
    (subst (IsOneOrApart (spelled e more)) here (all n none within)) in
    slice_get-get_or sets n none within ∙ ap (λ (s : Cells). Some s) (here ∙ sym one)

-- ---- a list with one more

get-push : {X : Type 0} (xs : List X) (x : X) (n : ℕ) (y : X) → slice_get (xs ++ x ∷ []) n ≡ Some y
    → (slice_get xs n ≡ Some y) ⊎ (x ≡ y)
get-push [] x zero y there = inr (cc)
get-push [] x (suc n) y there = cc
get-push (z ∷ xs) x zero y there = inl there
get-push (z ∷ xs) x (suc n) y there = get-push xs x n y there

pub get-last : {X : Type 0} (xs : List X) (x : X) → slice_get (xs ++ x ∷ []) (length xs) ≡ Some x
get-last [] x = refl
get-last (z ∷ xs) x = get-last xs x

get-left : {X : Type 0} (xs ys : List X) (n : ℕ) (y : X) → slice_get xs n ≡ Some y → slice_get (xs ++ ys) n ≡ Some y
get-left xs ys n y there = slice_get-left xs ys n (slice_get_within xs n y there) ∙ there

-- ---- the sets of region pairs

-- tables without a set have none
no-set : (shapes : List Extent) (i n : ℕ) (s : Cells)
    → slice_get (sets_of (map (λ (t : SetsByNumber). t.sets) (map empty_sets shapes)) i) n ≡ Some s → ⊥
no-set [] i n s there = cc
no-set (e ∷ shapes) zero n s there = cc
no-set (e ∷ shapes) (suc i) n s there = no-set shapes i n s there

pub pairs-none : (shapes : List Extent) (rs : List Pairing)
    → AreOfPairs (map (λ (t : SetsByNumber). t.sets) (map empty_sets shapes)) rs
pairs-none shapes rs i n s there = absurd (no-set shapes i n s there)

-- a region pair more, whose sets are those that came
pub pairs-more : (old new : List (List Cells)) (rs : List Pairing) (r : Pairing)
    → ((i : ℕ) → HasAtMostOneMore (sets_of old i) (sets_of new i) (set_of r i)) → AreOfPairs old rs
    → AreOfPairs new (rs ++ r ∷ [])
pairs-more old new rs r more are i n s there =
    let before : slice_get (sets_of old i) n ≡ Some s → (m : ℕ) × (q : Pairing)
    × (slice_get (rs ++ r ∷ []) m ≡ Some q) × (set_of q i ≡ s) =
    λ known. let one = are i n s known in (one.0, one.1, get-left rs (r ∷ []) one.0 one.1 one.2, one.3) in
    elim (more i) [
      | inl same ↦ before (subst (λ (xs : List Cells). slice_get xs n ≡ Some s) same there)
      | inr further ↦
          elim (get-push (sets_of old i) (set_of r i) n s
          (subst (λ (xs : List Cells). slice_get xs n ≡ Some s) further there)) [
            | inl known ↦ before known
            | inr own ↦ (length rs, r, get-last rs r, own)
          ]
    ]

-- tables that change but for their sets
pub pairs-kept : (outs outs' : SetsByNumber) (ins ins' : List SetsByNumber) (names : List ℕ) (count : ℕ)
    → outs'.sets ≡ outs.sets
    → map (λ (s : SetsByNumber). s.sets) ins' ≡ map (λ (s : SetsByNumber). s.sets) ins
    → AreOfPairs (map (λ (s : SetsByNumber). s.sets) ins) (pairings (table_of outs ins names count 0 0))
    → AreOfPairs (map (λ (s : SetsByNumber). s.sets) ins') (pairings (table_of outs' ins' names count 0 0))
pairs-kept outs outs' ins ins' names count same sets are =
    let own = λ (s : SetsByNumber). s.sets in
    let long : length ins' ≡ length ins = sym (length-map ins' own) ∙ (ap length sets ∙ length-map ins own) in
    let pairs : pairings (table_of outs' ins' names count 0 0) ≡ pairings (table_of outs ins names count 0 0) =
    ap (λ (n : ℕ). map (pairing_of outs'.sets (map own ins')) (rows_of n count names)) long
    ∙ ap₂ (λ (xs : List Cells) (ys : List (List Cells)). map (pairing_of xs ys) (rows_of (length ins) count names)) same
    sets in
    subst (AreOfPairs (map own ins')) (sym pairs)
    (subst (λ (ys : List (List Cells)). AreOfPairs ys (pairings (table_of outs ins names count 0 0))) (sym sets) are)

-- a region pair's set is one with each set of its input, or apart from it, where it is so with the other pairs'
pub apart-each : (sets : List (List Cells)) (rs : List Pairing) (r : Pairing) → AreOfPairs sets rs
    → All (AreOneOrApart r) rs → (i : ℕ) → All (IsOneOrApart (set_of r i)) (sets_of sets i)
apart-each sets rs r are all i n d inside =
    let one = are i n (get_or (sets_of sets i) n d) (slice_get-get_or (sets_of sets i) n d inside) in
    let m : ℕ = one.0 in
    let q : Pairing = one.1 in
    let alike : AreOneOrApart r q =
    subst (AreOneOrApart r) (get_or_from_slice_get rs m q q one.2) (all m q (slice_get_within rs m q one.2)) in
    subst (IsOneOrApart (set_of r i)) one.3 (alike i)

-- ---- region pairs one after the other

-- the sets of the next of some region pairs are one with those of the pairs before it, or apart from them
pub apart-next : (given rs : List Pairing) (i : ℕ) (r : Pairing) → HaveInputsApart (given ++ rs) → i < length rs
    → get_or rs i r ≡ r → All (AreOneOrApart r) (given ++ take i rs)
apart-next given rs i r part inside is m d below =
    let all = given ++ rs in
    let front = given ++ take i rs in
    let split : front ++ drop i rs ≡ all =
    append_assoc given (take i rs) (drop i rs) ∙ ap (λ (xs : List Pairing). given ++ xs) (take-append-drop i rs) in
    let far : length given + i < length all = omega (arith, length-append given rs) in
    let own : slice_get all (length given + i) ≡ Some r =
    slice_get-get_or all (length given + i) r far
    ∙ ap (λ (x : Pairing). Some x) (get_or-append-add given rs i r ∙ is) in
    let q = get_or front m d in
    let other : slice_get all m ≡ Some q =
    subst (λ (xs : List Pairing). slice_get xs m ≡ Some q) split
    (get-left front (drop i rs) m q (slice_get-get_or front m d below)) in
    part (length given + i) m r q own other
