-- What follows of indexes of pairs.
--
-- The key idea: a bitmap in which cells were added is the first one `with_those` that pass a test, so one more
-- cell, one
-- more group and one more run each only make the test wider, and the tests are joined by `or`.
use Rattle.std.proofs.Common.{◌≡◌, ℕ, ◌<◌, ◌≢◌, Bool, true, false, inl, inr, ◌&&◌, ◌||◌}
use Rattle.std.proofs.Common.{◌==◌, List, [], ◌∷◌, ◌++◌, length, map, get_or, set, take, zero, suc}
use Rattle.std.proofs.Common.{true≢false, refl, sym, ap, ◌∙◌, arith, eqb-true, eq-eqb}
use Rattle.std.proofs.Common.{get_or-set_other, ap₂, ◌+◌, ◌-◌, ◌≤◌}
use Rattle.std.proofs.lemmas.Bool.{cases_Bool, cases_lt, false_from_ne_true}
use Rattle.std.proofs.lemmas.Bool.Decides.{nat_tests}
use Rattle.std.proofs.lemmas.Grind.{get_or-set_at, flat_map-append}
use Rattle.std.proofs.lemmas.List.{append-nil, get_or-map, get_or-replicate, length-map}
use Rattle.std.proofs.lemmas.List.{length-replicate, map-set, take_more}
use Rattle.std.proofs.lemmas.List.Folds.{list_any-append}
use Rattle.std.proofs.Math.ListN.{get_or-eq_default}
use Rattle.std.proofs.Math.Seq.{map-set_same}
use Rattle.std.specs.Prelude.{replicate}
use Rattle.std.specs.List.{list_any, filter, flat_map, range_with_len}
use Rattle.sz_cells.specs.declared.Cell.{Cell}
use Rattle.sz_cells.specs.Extent.{Extent, size_of, holds, index_of, cell_of}
use Rattle.sz_cells.specs.Cells.{Cells, has, is_same, cells_where, no_cells, with_those, with_cell}
use Rattle.sz_cells.specs.declared.Run.{Run}
use Rattle.sz_cells.specs.Runs.{AreRunsFrom, indexes_of}
use Rattle.sz_cells.proofs.Sets.{has-cells_where, cells_where-ext, cells_where-has, index-is_same}
use Rattle.sz_cells.proofs.Sets.{is_same-flip}
use Rattle.sz_core.specs.Links.{Links, LeadInto, near_cell, far_cell, leads, pair_leads, is_among}
use Rattle.sz_core.specs.Links.{groups_lead, is_linked_from, IsSpelled}
use Rattle.sz_core.specs.declared.pairs.Pair.{Pair}
use Rattle.sz_spec.specs.declared.modes.Dir.{Dir}

-- ---- truth values

pub or-false : (b : Bool) → (b || false) ≡ b
or-false true = refl
or-false false = refl

pub or-assoc : (a b c : Bool) → ((a || b) || c) ≡ (a || (b || c))
or-assoc true b c = refl
or-assoc false b c = refl

pub and-false : (b : Bool) → (b && false) ≡ false
and-false true = refl
and-false false = refl

-- ---- groups

-- an index is in a group with one more where it was in it, or is that one
pub is_among-push : (group : List ℕ) (t u : ℕ)
    → is_among (group ++ t ∷ []) u ≡ (is_among group u || (t == u))
is_among-push group t u = list_any-append (λ j. j == u) group (t ∷ [])
    ∙ ap (λ b. is_among group u || b) (or-false (t == u))

-- groups with one more index in one of them
pub lead-set : (groups : List (List ℕ)) (n t k u : ℕ) → n < length groups
    → groups_lead (set groups n (get_or groups n [] ++ t ∷ [])) k u ≡
    (groups_lead groups k u || ((n == k) && (t == u)))
lead-set groups n t k u within =
    let more = get_or groups n [] ++ t ∷ [] in
    elim (cases_Bool (n == k)) [
      | inl same ↦
          let e : k ≡ n = sym (eqb-true n k same) in
          ap (λ (g : List ℕ). is_among g u) (get_or-set_at groups n k more [] e within)
          ∙ is_among-push (get_or groups n []) t u
          ∙ ap (λ (j : ℕ). is_among (get_or groups j []) u || (t == u)) (sym e)
          ∙ (rw same refl)
      | inr other ↦
          let apart : k ≢ n = λ e. absurd (true≢false (sym (eq-eqb n k (sym e)) ∙ other)) in
          ap (λ (g : List ℕ). is_among g u) (get_or-set_other groups n k more [] apart)
          ∙ sym (rw other (or-false (groups_lead groups k u)))
    ]

-- the same of the groups that lists of another kind are seen as
pub lead-link : {V : Type 0} (f : V → List ℕ) (groups : List V) (n t : ℕ) (old new : V) → n < length groups
    → old ≡ get_or groups n old → f new ≡ f old ++ t ∷ [] → (k u : ℕ)
    → groups_lead (map f (set groups n new)) k u ≡ (groups_lead (map f groups) k u || ((n == k) && (t == u)))
lead-link f groups n t old new within at more k u =
    let here : f old ≡ get_or (map f groups) n [] = ap f at ∙ sym (get_or-map f groups n old [] within) in
    let long : n < length (map f groups) = rw (length-map groups f) within in
    rw (map-set f groups n new, more, here) (lead-set (map f groups) n t k u long)

-- the same where nothing was put there
pub lead-same : {V : Type 0} (f : V → List ℕ) (groups : List V) (n : ℕ) (old new : V)
    → old ≡ get_or groups n old → f new ≡ f old → map f (set groups n new) ≡ map f groups
lead-same f groups n old new at same = map-set_same f groups n new old (same ∙ ap f at)

-- ---- cells added to a set

-- those that pass one test, and then those that pass another
pub with_those-both : (s : Cells) (p q : Cell → Bool)
    → with_those (with_those s p) q ≡ with_those s (λ c. p c || q c)
with_those-both s p q =
    cells_where-ext s.extent (λ c. has (with_those s p) c || q c) (λ c. has s c || (p c || q c))
    (λ c held. ap (λ b. b || q c) (has-cells_where s.extent (λ x. has s x || p x) c held)
    ∙ or-assoc (has s c) (p c) (q c))

-- tests that agree on the cells of the shape add the same
pub with_those-ext : (s : Cells) (p q : Cell → Bool) → ((c : Cell) → holds s.extent c ≡ true → p c ≡ q c)
    → with_those s p ≡ with_those s q
with_those-ext s p q h =
    cells_where-ext s.extent (λ c. has s c || p c) (λ c. has s c || q c)
    (λ c held. ap (λ b. has s c || b) (h c held))

-- a test that no cell passes adds nothing
pub with_those-none : (s : Cells) → IsSpelled s → with_those s (λ _. false) ≡ s
with_those-none s spelled = cells_where-ext s.extent (λ c. has s c || false) (has s) (λ c _. or-false (has s c))
    ∙ spelled

-- a set to which cells were added is seen as the cells that it has
pub with_those-spelled : (s : Cells) (p : Cell → Bool) → IsSpelled (with_those s p)
with_those-spelled s p = cells_where-has s.extent (λ c. has s c || p c)

-- a cell of the shape is the cell of an index exactly where that is its index
same-index : (e : Extent) (x : Cell) (t : ℕ) → holds e x ≡ true
    → is_same x (cell_of e t) ≡ (t == index_of e x)
same-index e x t held =
    let flip : (index_of e x == t) ≡ (t == index_of e x) = grind (arith, nat_tests) in
    is_same-flip x (cell_of e t) ∙ sym (index-is_same e x t held) ∙ flip

-- one index of a group more
pub added-next : (s : Cells) (g : List ℕ) (i : ℕ) → i < length g
    → with_cell (with_those s (λ x. is_among (take i g) (index_of s.extent x))) (cell_of s.extent (get_or g i 0))
    ≡ with_those s (λ x. is_among (take (i + 1) g) (index_of s.extent x))
added-next s g i within =
    let e = s.extent in
    let t = get_or g i 0 in
    let before : Cell → Bool = λ x. is_among (take i g) (index_of e x) in
    let after : Cell → Bool = λ x. is_among (take (i + 1) g) (index_of e x) in
    with_those-both s before (λ x. is_same x (cell_of e t))
    ∙ with_those-ext s (λ x. before x || is_same x (cell_of e t)) after
    (λ x held.
    ap (λ b. before x || b) (same-index e x t held)
    ∙ sym (ap (λ (l : List ℕ). is_among l (index_of e x)) (take_more g i 0 within)
    ∙ is_among-push (take i g) t (index_of e x)))

-- the cells to which some indexes are linked, and then those to which others are
pub linked-both : (s : Cells) (groups : List (List ℕ)) (ks js : List ℕ)
    → with_those (with_those s (is_linked_from groups ks s.extent)) (is_linked_from groups js s.extent)
    ≡ with_those s (is_linked_from groups (ks ++ js) s.extent)
linked-both s groups ks js =
    with_those-both s (is_linked_from groups ks s.extent) (is_linked_from groups js s.extent)
    ∙ with_those-ext s (λ x. is_linked_from groups ks s.extent x || is_linked_from groups js s.extent x)
    (is_linked_from groups (ks ++ js) s.extent)
    (λ x _. sym (list_any-append (λ k. groups_lead groups k (index_of s.extent x)) ks js))

-- a range with one number more
range-more : (a n : ℕ) → range_with_len a (n + 1) ≡ range_with_len a n ++ (a + n) ∷ []
range-more a zero = grind arith
range-more a (suc n) = let rest = range-more (a + 1) n in grind (arith, rest)

-- one index more to which cells are linked
pub linked-next : (s : Cells) (groups : List (List ℕ)) (a n : ℕ)
    → with_those (with_those s (is_linked_from groups (range_with_len a n) s.extent))
    (λ x. groups_lead groups (a + n) (index_of s.extent x))
    ≡ with_those s (is_linked_from groups (range_with_len a (n + 1)) s.extent)
linked-next s groups a n =
    with_those-ext (with_those s (is_linked_from groups (range_with_len a n) s.extent))
    (λ x. groups_lead groups (a + n) (index_of s.extent x))
    (is_linked_from groups ((a + n) ∷ []) s.extent)
    (λ x _. sym (or-false (groups_lead groups (a + n) (index_of s.extent x))))
    ∙ linked-both s groups (range_with_len a n) ((a + n) ∷ [])
    ∙ ap (λ (ks : List ℕ). with_those s (is_linked_from groups ks s.extent)) (sym (range-more a n))

-- a list of lists seen at a place
pub seen-at : {V A : Type 0} (f : V → List A) (groups : List V) (n : ℕ) (v : V) → n < length groups
    → v ≡ get_or groups n v → f v ≡ get_or (map f groups) n []
seen-at f groups n v within at = ap f at ∙ sym (get_or-map f groups n v [] within)

-- one step of a run
pub run-step : (s found new : Cells) (groups : List (List ℕ)) (a i : ℕ) (g : List ℕ) → a ≤ i
    → found ≡ with_those s (is_linked_from groups (range_with_len a (i - a)) s.extent)
    → g ≡ get_or groups i []
    → new ≡ with_those found (λ x. is_among g (index_of found.extent x))
    → new ≡ with_those s (is_linked_from groups (range_with_len a (i + 1 - a)) s.extent)
run-step s found new groups a i g low before at added =
    let e : a + (i - a) ≡ i = omega arith in
    let n : i - a + 1 ≡ i + 1 - a = omega arith in
    let add : Cells → List ℕ → Cells = λ f h. with_those f (λ x. is_among h (index_of f.extent x)) in
    added ∙ ap₂ add before at ∙ (rw (e, n) at (linked-next s groups a (i - a)))

-- no index is linked to no cell
pub linked-none : (s : Cells) (groups : List (List ℕ)) → IsSpelled s
    → with_those s (is_linked_from groups [] s.extent) ≡ s
linked-none s groups spelled = with_those-none s spelled

-- the set of no cell has none
no_cells-has : (e : Extent) (c : Cell) → has (no_cells e) c ≡ false
no_cells-has e c = and-false (holds e c)

filter-none : (xs : List ℕ) → filter (λ _. false) xs ≡ []
filter-none [] = refl
filter-none (x ∷ xs) = filter-none xs

pub no_cells-spelled : (e : Extent) → IsSpelled (no_cells e)
no_cells-spelled e =
    let make : List ℕ → Cells = λ ks. record { extent = e; indexes = ks } in
    cells_where-ext e (has (no_cells e)) (λ _. false) (λ c _. no_cells-has e c)
    ∙ ap make (filter-none (range_with_len 0 (size_of e)))

-- the cells that pass a test, added to none, are the set of those
pub none-with : (e : Extent) (p : Cell → Bool) → with_those (no_cells e) p ≡ cells_where e p
none-with e p = cells_where-ext e (λ c. has (no_cells e) c || p c) p (λ c _. ap (λ b. b || p c) (no_cells-has e c))

-- ---- pairs

-- one pair more, of the input and of another one
pub pair-added : (dir : Dir) (input : ℕ) (pairs : List Pair) (i : ℕ) (d : Pair) (links new : Links) (old : ℕ
    → ℕ → Bool) (near' far' : ℕ)
    → i < length pairs → (get_or pairs i d).input ≡ input → near' ≡ near_cell dir (get_or pairs i d)
    → far' ≡ far_cell dir (get_or pairs i d)
    → ((k t : ℕ) → leads links k t ≡ (old k t || list_any (pair_leads dir input k t) (take i pairs)))
    → ((k t : ℕ) → leads new k t ≡ (leads links k t || ((near' == k) && (far' == t))))
    → (k t : ℕ) → leads new k t ≡ (old k t || list_any (pair_leads dir input k t) (take (i + 1) pairs))
pair-added dir input pairs i d links new old near' far' within same at to before added k t =
    let p = get_or pairs i d in
    let test = pair_leads dir input k t in
    let one : test p ≡ ((near' == k) && (far' == t)) = rw (at, to, eq-eqb p.input input same) refl in
    added k t ∙ ap (λ b. b || ((near' == k) && (far' == t))) (before k t)
    ∙ or-assoc (old k t) (list_any test (take i pairs)) ((near' == k) && (far' == t))
    ∙ ap (λ b. old k t || b)
    (sym (ap (list_any test) (take_more pairs i d within) ∙ list_any-append test (take i pairs) (p ∷ [])
    ∙ ap (λ b. list_any test (take i pairs) || b) (or-false (test p) ∙ one)))

pub pair-passed : (dir : Dir) (input : ℕ) (pairs : List Pair) (i : ℕ) (d : Pair) (links : Links) (old : ℕ
    → ℕ → Bool)
    → i < length pairs → ((get_or pairs i d).input ≡ input → ⊥)
    → ((k t : ℕ) → leads links k t ≡ (old k t || list_any (pair_leads dir input k t) (take i pairs)))
    → (k t : ℕ) → leads links k t ≡ (old k t || list_any (pair_leads dir input k t) (take (i + 1) pairs))
pair-passed dir input pairs i d links old within other before k t =
    let p = get_or pairs i d in
    let test = pair_leads dir input k t in
    let not_it : (p.input == input) ≡ false =
    false_from_ne_true (p.input == input) (λ same. other (eqb-true p.input input same)) in
    let one : test p ≡ false = rw not_it refl in
    before k t ∙ ap (λ b. old k t || b)
    (sym (ap (list_any test) (take_more pairs i d within) ∙ list_any-append test (take i pairs) (p ∷ [])
    ∙ (rw one (or-false (list_any test (take i pairs))))))

-- ---- runs

-- the indexes of the runs so far, and of one run more
pub indexes-next : (runs : List Run) (i : ℕ) (d : Run) → i < length runs
    → flat_map indexes_of (take (i + 1) runs) ≡ flat_map indexes_of (take i runs) ++ indexes_of (get_or runs i d)
indexes-next runs i d within =
    ap (flat_map indexes_of) (take_more runs i d within)
    ∙ flat_map-append indexes_of (take i runs) (get_or runs i d ∷ [])
    ∙ ap (λ (l : List ℕ). flat_map indexes_of (take i runs) ++ l) (append-nil (indexes_of (get_or runs i d)))

-- each run lies within the bound
pub run-within : (least bound : ℕ) (runs : List Run) (i : ℕ) (d : Run) → AreRunsFrom least bound runs
    → i < length runs
    → ((get_or runs i d).first ≤ (get_or runs i d).last) × ((get_or runs i d).last < bound)
run-within least bound [] i d runs within = absurd (omega arith)
run-within least bound (r ∷ rs) zero d runs within = (runs.1, runs.2)
run-within least bound (r ∷ rs) (suc i) d runs within = run-within (r.last + 2) bound rs i d runs.3 (omega arith)

-- ---- no pairs

-- groups of no index lead nowhere
pub lead-none : (to : Extent) (n : ℕ) → LeadInto to (replicate n [])
lead-none to n k t found =
    elim (cases_lt k n) [
      | inl within ↦ absurd (true≢false (sym (rw (get_or-replicate {A = List ℕ} n k [] [] within) at found)))
      | inr past ↦ absurd (true≢false
          (sym (rw (get_or-eq_default {A = List ℕ} (replicate n []) [] {n = k}
          (rw (length-replicate {A = List ℕ} n []) past)) at found)))
    ]
