-- Runs of row-major indexes: how a list of rising indexes is spelled by runs, and how an index is found among them.
--
-- The key idea: a run is added at the end, and its place there shows by induction over the runs before it. Runs are
-- known by the indexes that they cover: what they spell rises, so it is the filter of a range by that test.
use Rattle.std.proofs.Common.{drop, drop-cons, eqb, nat_cmp, ◌≡◌, ℕ, zero, suc, ◌+◌, ◌-◌, ◌<◌}
use Rattle.std.proofs.Common.{◌≤◌, max, Bool, true, false, ◌&&◌, ◌||◌}
use Rattle.std.proofs.Common.{◌==◌, nat_lt, nat_le, ◌⊎◌, List, [], ◌∷◌, ◌++◌, map, length, get_or}
use Rattle.std.proofs.Common.{set, take, refl, sym, ap, ap₂, subst, ◌∙◌, arith, inl, inr, eqb-true, eq-eqb}
use Rattle.std.proofs.Common.{ne_eqb, ltb-true, lt-ltb, le-ltb, append-nil, length-append}
use Rattle.std.specs.List.{All, filter, list_any, range_with_len, flat_map, dedup, dedup_from}
use Rattle.std.specs.List.Sorted.{IsPermutation, IsSorted, IsNonDecreasingBy, IsPartitionPoint}
use Rattle.std.proofs.Math.Bool.{or-false, or_assoc}
use Rattle.std.proofs.lemmas.Bool.{cases_Bool, cond_both, eqb-false}
use Rattle.std.proofs.lemmas.Bool.Decides.{nat_tests}
use Rattle.std.proofs.lemmas.List.{take_more}
use Rattle.std.proofs.lemmas.List.Concat.{flat_map-append}
use Rattle.std.proofs.lemmas.List.FromFn.{length-range_with_len}
use Rattle.std.proofs.lemmas.List.Folds.{list_any-append}
use Rattle.std.proofs.lemmas.List.Filters.{All-dedup}
use Rattle.std.proofs.lemmas.List.Elements.{All-nil, All-head, All-tail, All-map, All-push, All-take, All-get_or}
use Rattle.std.proofs.lemmas.Map.Keys.{IsStrictlyIncreasing-dedup}
use Rattle.std.proofs.lemmas.List.Sorted.{All-permutation, list_any-IsPermutation}
use Rattle.sz_cells.specs.declared.Run.{Run}
use Rattle.sz_cells.specs.declared.Cell.{Cell}
use Rattle.sz_cells.specs.Extent.{Extent, size_of, holds, index_of, cell_of}
use Rattle.sz_cells.specs.Cells.{Cells, is_same, named_in}
use Rattle.sz_cells.specs.Runs.{indexes_of, is_in, covers, before_runs, runs_of, AreRunsFrom}
use Rattle.sz_cells.specs.Rising.{AreRising}
use Rattle.sz_cells.proofs.Sets.{any-range, filter-range_ext, index-below, index-is_same}
use Rattle.sz_cells.proofs.Rising.{rising-filter, rising-length, rising-range, rising-lower, rising-from}

-- ---- a run added at the end

-- a list whose last element is x, as what stands before it and x
pub split-last : {X : Type 0} (xs : List X) (i : ℕ) (x : X) → i + 1 ≡ length xs → x ≡ get_or xs i x
    → (xs ≡ take i xs ++ x ∷ []) × ((y : X) → set xs i y ≡ take i xs ++ y ∷ [])
split-last [] i x some last = absurd (omega arith)
split-last (z ∷ []) zero x some last = (ap (λ w. w ∷ []) (sym last), λ y. refl)
split-last (z ∷ w ∷ xs) zero x some last = absurd (omega arith)
split-last (z ∷ xs) (suc i) x some last =
    let rest = split-last xs i x (omega arith) last in
    (ap (λ ys. z ∷ ys) rest.0, λ y. ap (λ ys. z ∷ ys) (rest.1 y))

-- a run that ends no earlier than another
abbrev longer : Run → Run → Run
longer r next = record { first = r.first; last = max r.last next.last }

-- the indexes of runs and of one run more
pub covers-push : (front : List Run) (r : Run) (k : ℕ) → covers (front ++ r ∷ []) k
    ≡ (covers front k || is_in r k)
covers-push front r k =
    list_any-append (λ x. is_in x k) front (r ∷ []) ∙ ap (λ b. covers front k || b) (or-false (is_in r k))

-- the last of the runs is in order
pub runs-last : (least bound : ℕ) (front : List Run) (r : Run) → AreRunsFrom least bound (front ++ r ∷ [])
    → (least ≤ r.first) × (r.first ≤ r.last) × (r.last < bound)
runs-last least bound [] r runs = (runs.0, runs.1, runs.2)
runs-last least bound (x ∷ front) r runs =
    let rest = runs-last (x.last + 2) bound front r runs.3 in
    (omega arith, rest.1, rest.2)

-- the last run may end later
grow-longest : (least bound : ℕ) (front : List Run) (r next : Run) → AreRunsFrom least bound (front ++ r ∷ [])
    → next.last < bound
    → AreRunsFrom least bound (front ++ longer r next ∷ [])
grow-longest least bound [] r next runs h = (runs.0, omega arith, omega arith, tt)
grow-longest least bound (x ∷ front) r next runs h = (
  runs.0,
  runs.1,
  runs.2,
  grow-longest (x.last + 2) bound front r
      next runs.3 h,
)

-- a run may follow after a gap
push-longest : (least bound : ℕ) (front : List Run) (r next : Run) → AreRunsFrom least bound (front ++ r ∷ [])
    → r.last + 1 < next.first
    → next.first ≤ next.last → next.last < bound → AreRunsFrom least bound ((front ++ r ∷ []) ++ next ∷ [])
push-longest least bound [] r next runs gap order h = (runs.0, runs.1, runs.2, (omega arith, order, h, tt))
push-longest least bound (x ∷ front) r next runs gap order h =
    (runs.0, runs.1, runs.2, push-longest (x.last + 2) bound front r next runs.3 gap order h)

-- a run that another touches or overlaps, and that ends no earlier, has the indexes of both
grown-is_in : (r next : Run) (k : ℕ) → r.first ≤ next.first → next.first ≤ r.last + 1
    → next.first ≤ next.last
    → is_in (longer r next) k ≡ (is_in r k || is_in next k)
grown-is_in r next k low touch order = grind (arith, nat_tests)

-- what is said of runs to which one more was added
pub record Added (old new : List Run) (next : Run) : Type 0 where
  pub longest : (bound : ℕ) → AreRunsFrom 0 bound old → next.last < bound → AreRunsFrom 0 bound new
  pub begun : All (λ r. r.first ≤ next.first) new
  pub added : (k : ℕ) → covers new k ≡ (covers old k || is_in next k)

-- it touches or overlaps the last run
pub added-touching : (runs : List Run) (long : ℕ) (r next : Run) → long ≡ length runs → 0 < long
    → r ≡ get_or runs (long - 1) r
    → next.first ≤ next.last → All (λ x. x.first ≤ next.first) runs → next.first ≤ r.last + 1
    → Added runs (set runs (long - 1) (record { first = r.first; last = max r.last next.last })) next
added-touching runs long r next len some at order later touch =
    let parts = split-last runs (long - 1) r (omega arith) at in
    let front = take (long - 1) runs in
    let begun : All (λ x. x.first ≤ next.first) front = All-take (λ x. x.first ≤ next.first) (long - 1) runs
    later in
    let low : r.first ≤ next.first =
    subst (λ (x : Run). x.first ≤ next.first) (sym at) (All-get_or (λ x. x.first ≤ next.first) runs (long - 1) r
    (omega arith) later) in
    let fields : Added (front ++ r ∷ []) (front ++ longer r next ∷ []) next = record {
      longest = λ bound spell below. grow-longest 0 bound front r next spell below;
      begun = All-push (λ x. x.first ≤ next.first) front (longer r next) begun low;
      added = λ k.
          covers-push front (longer r next) k
          ∙ ap (λ b. covers front k || b) (grown-is_in r next k low touch order)
          ∙ sym (or_assoc (covers front k) (is_in r k) (is_in next k))
          ∙ ap (λ b. b || is_in next k) (sym (covers-push front r k));
    } in
    subst (λ (old : List Run). Added old (set runs (long - 1) (longer r next)) next) (sym parts.0)
    (subst (λ (new : List Run). Added (front ++ r ∷ []) new next) (sym (parts.1 (longer r next))) fields)

-- it follows the last run after a gap
pub added-apart : (runs : List Run) (long : ℕ) (r next : Run) → long ≡ length runs → 0 < long
    → r ≡ get_or runs (long - 1) r
    → next.first ≤ next.last → All (λ x. x.first ≤ next.first) runs → r.last + 1 < next.first
    → Added runs (set runs (long - 1) r ++ next ∷ []) next
added-apart runs long r next len some at order later apart =
    let parts = split-last runs (long - 1) r (omega arith) at in
    let front = take (long - 1) runs in
    let fields : Added (front ++ r ∷ []) ((front ++ r ∷ []) ++ next ∷ []) next = record {
      longest = λ bound spell below. push-longest 0 bound front r next spell apart order below;
      begun = All-push (λ x. x.first ≤ next.first) (front ++ r ∷ []) next
          (subst (All (λ x. x.first ≤ next.first)) parts.0 later) (omega arith);
      added = covers-push (front ++ r ∷ []) next;
    } in
    subst (λ (old : List Run). Added old (set runs (long - 1) r ++ next ∷ []) next) (sym parts.0)
    (subst (λ (new : List Run). Added (front ++ r ∷ []) (new ++ next ∷ []) next) (sym (parts.1 r)) fields)

-- it is the first run
pub added-first : (runs : List Run) (long : ℕ) (next : Run) → long ≡ length runs → (0 < long → ⊥)
    → next.first ≤ next.last
    → Added runs (runs ++ next ∷ []) next
added-first [] long next len none order = record {
  longest = λ bound spell below. (omega arith, order, below, tt);
  begun = All-push (λ x. x.first ≤ next.first) [] next (All-nil (λ x. x.first ≤ next.first)) (omega arith);
  added = covers-push [] next;
}
added-first (r ∷ runs) long next len none order = absurd (none (omega arith))

-- what runs spell is found exactly where they cover it
pub any-covers : (least bound k : ℕ) (runs : List Run) → AreRunsFrom least bound runs
    → list_any (λ x. x == k) (flat_map indexes_of runs) ≡ covers runs k
any-covers least bound k [] runs = refl
any-covers least bound k (r ∷ rest) runs =
    list_any-append (λ x. x == k) (indexes_of r) (flat_map indexes_of rest)
    ∙ (rw (any-range k r.first (r.last - r.first + 1), any-covers (r.last + 2) bound k rest runs.3)
    (ap (λ b. b || covers rest k) (let order : r.first ≤ r.last = runs.1 in grind (arith, nat_tests))))

-- what runs spell rises
pub runs-rising : (least bound : ℕ) (runs : List Run) → AreRunsFrom least bound runs → AreRising least bound
    (flat_map indexes_of runs)
runs-rising least bound [] runs = tt
runs-rising least bound (r ∷ rest) runs =
    let end : r.first + (r.last - r.first + 1) ≡ r.last + 1 = omega arith in
    let later = rising-lower (r.last + 2) (r.last + 1) bound (flat_map indexes_of rest) (omega arith)
    (runs-rising (r.last + 2) bound rest runs.3) in
    rising-lower r.first least bound (indexes_of r ++ flat_map indexes_of rest) runs.0
    (rising-range (r.last - r.first + 1) r.first bound (flat_map indexes_of rest) (rw end later) (omega arith))

-- what runs spell are the numbers that they cover
pub runs-filter : (bound : ℕ) (runs : List Run) → AreRunsFrom 0 bound runs → flat_map indexes_of runs
    ≡ filter (covers runs) (range_with_len 0 bound)
runs-filter bound runs spell =
    sym (rising-filter bound 0 bound (flat_map indexes_of runs) (omega arith) (runs-rising 0 bound runs spell))
    ∙ filter-range_ext (λ k. list_any (λ x. x == k) (flat_map indexes_of runs)) (covers runs) 0 bound
    (λ k low high. any-covers 0 bound k runs spell)

-- the run of one index has that index alone
pub in-one : (x k : ℕ) → (nat_le x k && nat_le k x) ≡ (x == k)
in-one x k = grind (arith, nat_tests)

-- runs that cover exactly some rising numbers spell them
pub spelled-rising : (bound : ℕ) (runs : List Run) (xs : List ℕ) → AreRunsFrom 0 bound runs
    → AreRising 0 bound xs
    → ((k : ℕ) → covers runs k ≡ list_any (λ x. x == k) xs) → flat_map indexes_of runs ≡ xs
spelled-rising bound runs xs spell rises same =
    runs-filter bound runs spell
    ∙ filter-range_ext (covers runs) (λ k. list_any (λ x. x == k) xs) 0 bound (λ k low high. same k)
    ∙ rising-filter bound 0 bound xs (omega arith) rises

-- a bound may be any greater number
pub runs-widen : (least bound more : ℕ) (runs : List Run) → bound ≤ more → AreRunsFrom least bound runs
    → AreRunsFrom least more runs
runs-widen least bound more [] h runs = tt
runs-widen least bound more (r ∷ rest) h runs = (
  runs.0,
  runs.1,
  omega arith,
  runs-widen (r.last + 2) bound more rest
      h runs.3,
)

-- each of the runs is in order
pub runs-at : (least bound : ℕ) (runs : List Run) (i : ℕ) (d : Run) → AreRunsFrom least bound runs
    → i < length runs
    → (least ≤ (get_or runs i d).first) × ((get_or runs i d).first ≤ (get_or runs i d).last)
    × ((get_or runs i d).last < bound)
runs-at least bound [] i d runs h = absurd (omega arith)
runs-at least bound (r ∷ rest) zero d runs h = (runs.0, runs.1, runs.2)
runs-at least bound (r ∷ rest) (suc i) d runs h =
    let later = runs-at (r.last + 2) bound rest i d runs.3 (omega arith) in
    (omega arith, later.1, later.2)

-- the first of what is left of runs begins no earlier than a number below which none begins, and the rest follows it
pub runs-head : (least bound : ℕ) (runs : List Run) (i : ℕ) (d : Run) → i < length runs
    → AreRunsFrom least bound (drop i runs)
    → (least ≤ (get_or runs i d).first) × ((get_or runs i d).first ≤ (get_or runs i d).last)
    × ((get_or runs i d).last < bound)
    × AreRunsFrom ((get_or runs i d).last + 2) bound (drop (i + 1) runs)
runs-head least bound runs i d inside rest =
    let one : i + 1 ≡ suc i = omega arith in
    let parts = subst (AreRunsFrom least bound) (drop-cons runs i d inside) rest in
    (parts.0, parts.1, parts.2, rw one parts.3)

-- runs that begin no earlier than a number begin no earlier than a lower one
pub runs-lower : (least less bound : ℕ) (runs : List Run) → less ≤ least → AreRunsFrom least bound runs
    → AreRunsFrom less bound runs
runs-lower least less bound [] h runs = tt
runs-lower least less bound (r ∷ rest) h runs = (omega arith, runs.1, runs.2, runs.3)

-- what is left of runs begins no earlier than a number at or below the first of it
pub runs-from : (least more bound : ℕ) (runs : List Run) (i : ℕ) (d : Run)
    → (i < length runs → more ≤ (get_or runs i d).first)
    → AreRunsFrom least bound (drop i runs) → AreRunsFrom more bound (drop i runs)
runs-from least more bound [] zero d low rest = tt
runs-from least more bound [] (suc i) d low rest = tt
runs-from least more bound (r ∷ runs) zero d low rest = (low (omega arith), rest.1, rest.2, rest.3)
runs-from least more bound (r ∷ runs) (suc i) d low rest = runs-from least more bound runs i d
    (λ h. low (omega arith)) rest

-- the cells of the runs are no more than the bound
pub spelled-length : (bound : ℕ) (runs : List Run) → AreRunsFrom 0 bound runs
    → length (flat_map indexes_of runs) ≤ bound
spelled-length bound runs spell = rising-length bound 0 bound (flat_map indexes_of runs) (omega arith)
    (runs-rising 0 bound runs spell)

-- there are no more runs than numbers from the least one on
runs-length_from : (least bound : ℕ) (runs : List Run) → AreRunsFrom least bound runs → (length runs ≡ 0)
    ⊎ (length runs + least ≤ bound)
runs-length_from least bound [] runs = inl refl
runs-length_from least bound (r ∷ rest) runs =
    inr (elim (runs-length_from (r.last + 2) bound rest runs.3) [ inl none ↦ omega arith | inr some ↦ omega arith ])

-- each run has a cell, so there are no more runs than cells
pub runs-length : (bound : ℕ) (runs : List Run) → AreRunsFrom 0 bound runs → length runs ≤ bound
runs-length bound runs spell = elim (runs-length_from 0 bound runs spell) [
  | inl none ↦ omega arith
  | inr some ↦
      omega arith
]

-- the cells of the runs so far, and of one more
pub spelled-more : (runs : List Run) (i : ℕ) (d : Run) → i < length runs
    → length (flat_map indexes_of (take (i + 1) runs))
    ≡ length (flat_map indexes_of (take i runs)) + ((get_or runs i d).last - (get_or runs i d).first + 1)
spelled-more runs i d inside =
    let r = get_or runs i d in
    rw (
      take_more runs i d inside,
      flat_map-append indexes_of (take i runs) (r ∷ []),
      length-append (flat_map indexes_of (take i runs)) (indexes_of r ++ []),
      append-nil (indexes_of r),
      length-range_with_len r.first (r.last - r.first + 1),
    ) refl

-- ---- the longest runs of a list of indexes

-- a range in front of runs that begin above it, with a gap, is one run
runs_of-range : (n a bound : ℕ) (rest : List ℕ) (runs : List Run) → runs_of rest ≡ runs
    → AreRunsFrom (a + n + 2) bound runs
    → runs_of (range_with_len a (suc n) ++ rest) ≡ record { first = a; last = a + n } ∷ runs
runs_of-range zero a bound rest [] is apart = rw is (let none : a ≡ a + 0 = omega arith in
    ap (λ (n : ℕ). record { first = a; last = n } ∷ []) none)
runs_of-range zero a bound rest (r ∷ runs) is apart =
    let none : a ≡ a + 0 = omega arith in
    rw (is, ne_eqb r.first (a + 1) (omega arith)) (ap (λ (n : ℕ). record { first = a; last = n } ∷ r ∷ runs)
    none)
runs_of-range (suc n) a bound rest runs is apart =
    let next : a + suc n + 2 ≡ a + 1 + n + 2 = omega arith in
    let end : a + 1 + n ≡ a + suc n = omega arith in
    rw (runs_of-range n (a + 1) bound rest runs is (rw next at apart), eq-eqb (a + 1) (a + 1) refl)
    (ap (λ (z : ℕ). record { first = a; last = z } ∷ runs) end)

-- the longest runs are the longest runs of what they spell
pub runs_of-spelled : (least bound : ℕ) (runs : List Run) → AreRunsFrom least bound runs
    → runs_of (flat_map indexes_of runs) ≡ runs
runs_of-spelled least bound [] runs = refl
runs_of-spelled least bound (r ∷ rest) runs =
    let long : r.last - r.first + 1 ≡ suc (r.last - r.first) = omega arith in
    let gap : r.last + 2 ≡ r.first + (r.last - r.first) + 2 = omega arith in
    let end : r.first + (r.last - r.first) ≡ r.last = omega arith in
    rw long
    (runs_of-range (r.last - r.first) r.first bound (flat_map indexes_of rest) rest (runs_of-spelled (r.last + 2) bound
    rest runs.3) (rw gap at runs.3)
    ∙ ap (λ (z : ℕ). record { first = r.first; last = z } ∷ rest) end)

-- an index before runs that begin above it
before-longest : (k least bound : ℕ) (runs : List Run) → AreRunsFrom (k + 1) bound runs → least ≤ k
    → k < bound → AreRunsFrom least bound (before_runs k runs)
before-longest k least bound [] runs low high = (low, omega arith, high, tt)
before-longest k least bound (r ∷ rest) runs low high =
    cond_both (r.first == k + 1) (record { first = k; last = r.last } ∷ rest)
    (record { first = k; last = k } ∷ r ∷ rest) (AreRunsFrom least bound)
    (λ touch. (low, omega arith, runs.2, runs.3))
    (λ apart. let no = eqb-false r.first (k + 1) apart in
    (low, omega arith, high, (omega arith, runs.1, runs.2, runs.3)))

before-spelled : (k bound : ℕ) (runs : List Run) → AreRunsFrom (k + 1) bound runs
    → flat_map indexes_of (before_runs k runs) ≡ k ∷ flat_map indexes_of runs
before-spelled k bound [] runs = let one : k - k + 1 ≡ 1 = omega arith in rw one refl
before-spelled k bound (r ∷ rest) runs =
    cond_both (r.first == k + 1) (record { first = k; last = r.last } ∷ rest)
    (record { first = k; last = k } ∷ r ∷ rest)
    (λ (xs : List Run). flat_map indexes_of xs ≡ k ∷ flat_map indexes_of (r ∷ rest))
    (λ touch.
    let at : k + 1 ≡ r.first = sym (eqb-true r.first (k + 1) touch) in
    let long : r.last - k + 1 ≡ suc (r.last - r.first + 1) = omega arith in
    rw (long, at) refl)
    (λ apart. let one : k - k + 1 ≡ 1 = omega arith in rw one refl)

-- rising indexes have longest runs that spell them
pub runs_of-longest : (least bound : ℕ) (xs : List ℕ) → AreRising least bound xs → AreRunsFrom least bound
    (runs_of xs)
runs_of-longest least bound [] rises = tt
runs_of-longest least bound (k ∷ ks) rises =
    before-longest k least bound (runs_of ks) (runs_of-longest (k + 1) bound ks rises.2) rises.0 rises.1

pub spelled-runs_of : (least bound : ℕ) (xs : List ℕ) → AreRising least bound xs
    → flat_map indexes_of (runs_of xs) ≡ xs
spelled-runs_of least bound [] rises = refl
spelled-runs_of least bound (k ∷ ks) rises =
    before-spelled k bound (runs_of ks) (runs_of-longest (k + 1) bound ks rises.2)
    ∙ ap (λ (xs : List ℕ). k ∷ xs) (spelled-runs_of (k + 1) bound ks rises.2)

-- ---- an index among the runs

-- an index below all the runs is in none
any-runs_below : (least bound k : ℕ) (runs : List Run) → AreRunsFrom least bound runs → k < least
    → list_any (λ x. x == k) (flat_map indexes_of runs) ≡ false
any-runs_below least bound k [] runs h = refl
any-runs_below least bound k (r ∷ rest) runs h =
    list_any-append (λ x. x == k) (indexes_of r) (flat_map indexes_of rest)
    ∙ (rw (any-range k r.first (r.last - r.first + 1), any-runs_below (r.last + 2) bound k rest runs.3 (omega arith))
    (grind (arith, nat_tests)))

-- no run ends before the least index
runs-last_from : (least bound : ℕ) (runs : List Run) (j : ℕ) (d : Run) → AreRunsFrom least bound runs
    → j < length runs → least ≤ (get_or runs j d).last
runs-last_from least bound [] j d runs h = absurd (omega arith)
runs-last_from least bound (r ∷ rest) zero d runs h = omega arith
runs-last_from least bound (r ∷ rest) (suc j) d runs h = omega (
  arith,
  runs-last_from (r.last + 2) bound rest j d
      runs.3 (omega arith),
)

-- the ends of the runs do not fall
pub runs-rise : (least bound : ℕ) (runs : List Run) → AreRunsFrom least bound runs
    → IsNonDecreasingBy (λ r. r.last) runs
runs-rise least bound [] runs i j d order h = absurd (omega arith)
runs-rise least bound (r ∷ rest) runs zero zero d order h = omega arith
runs-rise least bound (r ∷ rest) runs zero (suc j) d order h = omega (
  arith,
  runs-last_from (r.last + 2) bound rest j
      d runs.3 (omega arith),
)
runs-rise least bound (r ∷ rest) runs (suc i) zero d order h = absurd (omega arith)
runs-rise least bound (r ∷ rest) runs (suc i) (suc j) d order h = runs-rise (r.last + 2) bound rest runs.3 i j d
    (omega arith) (omega arith)

-- an index is spelled exactly where the first run that does not end before it begins at it or before it
pub any-runs : (least bound k place : ℕ) (d : Run) (runs : List Run) → AreRunsFrom least bound runs
    → place ≤ length runs → IsPartitionPoint (λ r. nat_lt r.last k ≡ true) (λ r. nat_lt r.last k ≡ false)
    runs place → list_any (λ x. x == k) (flat_map indexes_of runs) ≡ (nat_lt place (length runs)
    && nat_le (get_or runs place d).first k)
any-runs least bound k place d [] runs inside point = rw (le-ltb place 0 (omega arith)) refl
any-runs least bound k zero d (r ∷ rest) runs inside point =
    let after : k ≤ r.last = grind (arith, nat_tests, point.1 0 d (omega arith) (omega arith)) in
    list_any-append (λ x. x == k) (indexes_of r) (flat_map indexes_of rest)
    ∙ (rw (any-range k r.first (r.last - r.first + 1), any-runs_below (r.last + 2) bound k rest runs.3 (omega arith))
    (grind (arith, nat_tests)))
any-runs least bound k (suc place) d (r ∷ rest) runs inside point =
    let before : r.last < k = ltb-true r.last k (point.0 0 d (omega arith) (omega arith)) in
    let later = any-runs (r.last + 2) bound k place d rest runs.3 (omega arith) (
      λ i e low high. point.0 (suc i) e (omega arith) (omega arith),
      λ i e low high. point.1 (suc i) e (omega arith)
          (omega arith),
    ) in
    list_any-append (λ x. x == k) (indexes_of r) (flat_map indexes_of rest)
    ∙ (rw (any-range k r.first (r.last - r.first + 1), later) (grind (arith, nat_tests)))

-- the search by halves stopped at a run: the index is spelled where that run begins at it or before it
pub any-runs_inside : (bound k place : ℕ) (r : Run) (runs : List Run) → AreRunsFrom 0 bound runs
    → IsPartitionPoint (λ r. nat_lt r.last k ≡ true) (λ r. nat_lt r.last k ≡ false) runs place
    → place < length runs → r ≡ get_or runs place r → nat_le r.first k ≡ list_any (λ x. x == k)
    (flat_map indexes_of runs)
any-runs_inside bound k place r runs spell point inside at =
    ap (λ (x : Run). nat_le x.first k) at
    ∙ sym (any-runs 0 bound k place r runs spell (omega arith) point
    ∙ (rw (lt-ltb place (length runs) inside) refl))

-- it stopped past the last run: the index is not spelled
pub any-runs_past : (bound k place : ℕ) (runs : List Run) → AreRunsFrom 0 bound runs
    → IsPartitionPoint (λ r. nat_lt r.last k ≡ true) (λ r. nat_lt r.last k ≡ false) runs place
    → place ≡ length runs → false ≡ list_any (λ x. x == k) (flat_map indexes_of runs)
any-runs_past bound k place runs spell point past =
    sym (any-runs 0 bound k place (record { first = 0; last = 0 }) runs spell (omega arith) point
    ∙ (rw (le-ltb place (length runs) (omega arith)) refl))

-- ---- the indexes that cells name, sorted and each once

-- a number that is left once is found where it was found before
any-dedup_from : (k z : ℕ) (xs : List ℕ) → list_any (λ x. x == k) (dedup_from eqb z xs)
    ≡ ((z == k) || list_any (λ x. x == k) xs)
any-dedup_from k z [] = refl
any-dedup_from k z (x ∷ xs) =
    elim (cases_Bool (eqb x z)) [
      | inl t ↦
          let same = eqb-true x z t in
          rw (t, any-dedup_from k z xs, same) (elim (cases_Bool (z == k)) [
            | inl here ↦ rw here refl
            | inr gone ↦
                rw gone refl
          ])
      | inr f ↦ rw (f, any-dedup_from k x xs) refl
    ]

pub any-dedup : (k : ℕ) (xs : List ℕ) → list_any (λ x. x == k) (dedup eqb xs) ≡ list_any (λ x. x == k) xs
any-dedup k [] = refl
any-dedup k (x ∷ xs) = any-dedup_from k x xs

-- an index is among those that cells name exactly where its cell is among the cells
pub any-index : (e : Extent) (k : ℕ) (cells : List Cell) → All (λ c. holds e c ≡ true) cells
    → list_any (λ x. x == k) (map (index_of e) cells) ≡ list_any (is_same (cell_of e k)) cells
any-index e k [] held = refl
any-index e k (c ∷ cells) held =
    ap₂ (λ (a b : Bool). a || b) (index-is_same e c k (All-head (λ c. holds e c ≡ true) c cells held))
    (any-index e k cells (All-tail (λ c. holds e c ≡ true) c cells held))

-- rising indexes that are found exactly where the cells name them are the indexes of the set that the cells name
pub named-indexes : (e : Extent) (cells : List Cell) (xs : List ℕ) → AreRising 0 (size_of e) xs
    → ((k : ℕ) → list_any (λ x. x == k) xs ≡ list_any (is_same (cell_of e k)) cells) → named_in e cells
    ≡ record { extent = e; indexes = xs }
named-indexes e cells xs rises alike =
    let make : List ℕ → Cells = λ ys. record { extent = e; indexes = ys } in
    ap make
    (filter-range_ext (λ k. list_any (is_same (cell_of e k)) cells) (λ k. list_any (λ x. x == k) xs) 0 (size_of e)
    (λ k low high. sym (alike k))
    ∙ rising-filter (size_of e) 0 (size_of e) xs (omega arith) rises)

-- what a sort and a dedup leave of the indexes that cells name
pub named-sorted : (e : Extent) (cells : List Cell) (ys zs : List ℕ) → All (λ c. holds e c ≡ true) cells
    → IsPermutation (map (index_of e) cells) ys → IsSorted nat_cmp ys → zs ≡ dedup eqb ys
    → AreRising 0 (size_of e) zs × (named_in e cells ≡ record { extent = e; indexes = zs })
named-sorted e cells ys zs held moved sorted left =
    let below : All (λ x. x < size_of e) ys = All-permutation (λ x. x < size_of e) (map (index_of e) cells) ys moved
    (All-map (λ x. x < size_of e) (index_of e) cells (λ i d h. index-below e (get_or cells i d) (held i d h))) in
    let kept : All (λ x. x < size_of e) zs = rw left (All-dedup eqb (λ x. x < size_of e) ys below) in
    let rises : AreRising 0 (size_of e) zs = rising-from zs 0 (size_of e)
    (rw left (IsStrictlyIncreasing-dedup ys sorted)) (λ some. omega arith) kept in (
      rises,
      named-indexes e cells zs rises
          (λ k. (rw left (any-dedup k ys)) ∙ sym (list_any-IsPermutation (λ x. x == k) (map (index_of e) cells) ys
          moved) ∙ any-index e k cells held),
    )
