-- What follows of the runs of each number, and of the sets that they make.
--
-- The key idea: the runs of a number cover exactly the indexes so far that have it, so in the end they spell the
-- cells of that number; and these are the component of each of them, since two cells have one number exactly where
-- they are connected.
use Rattle.std.proofs.Common.{◌≡◌, ◌≢◌, ℕ, zero, suc, ◌+◌, ◌<◌, ◌≤◌, ℤ, Bool, true, false, ◌&&◌, ◌||◌, ◌==◌}
use Rattle.std.proofs.Common.{List, [], ◌∷◌, length, map, get_or, refl, sym, ap, ap₂, subst, ◌∙◌, arith, inl, inr}
use Rattle.std.proofs.Common.{Option, Some, None, get_or-set_other, get_or-set_same, lt-ltb}
use Rattle.std.specs.Prelude.{nat_lt, nat_le, ◌⊎◌}
use Rattle.std.specs.List.{flat_map, range_with_len, filter}
use Rattle.std.proofs.Math.ListN.{set, length-set}
use Rattle.std.proofs.Math.Bool.{or-false}
use Rattle.std.proofs.lemmas.Bool.{cases_Bool, le-ltb, le-leb, lt-leb, true≢false, eqb-true, eq-eqb, ne_eqb}
use Rattle.std.proofs.lemmas.Bool.{false_from_ne_true}
use Rattle.std.proofs.lemmas.Bool.Decides.{eqb_tells, leb_tells}
use Rattle.std.proofs.lemmas.List.Elements.{filter_agree}
use Rattle.std.proofs.lemmas.List.FromFn.{length-map-range_with_len, get_or-map-range_with_len}
use Rattle.sz_cells.specs.declared.Cell.{Cell}
use Rattle.sz_cells.specs.declared.Run.{Run}
use Rattle.sz_cells.specs.Extent.{Extent, size_of, cell_of}
use Rattle.sz_cells.specs.Cells.{Cells, no_cells}
use Rattle.sz_cells.specs.Runs.{AreRunsFrom, covers, is_in, indexes_of}
use Rattle.sz_cells.proofs.Runs.{runs-filter, runs-widen}
use Rattle.sz_cells.proofs.Rising.{filter-false}
use Rattle.sz_cells.proofs.Sets.{filter-range_ext, same_truth, cell-held}
use Rattle.sz_spec.specs.Values.{Grid}
use Rattle.sz_spec.specs.Operators.Regions.{is_high, is_connected, component_of}
use Rattle.sz_spec.proofs.Components.{component-made, connected-both_high, connected-self}
use Rattle.sz_ops_region.specs.declared.marks.Mark.{Mark}
use Rattle.sz_ops_region.specs.declared.marks.Mark.TheVariants.{Low, Alone, Numbered}
use Rattle.sz_ops_region.specs.Marks.{mark_at, number_in, number_of, is_tall}
use Rattle.sz_ops_region.specs.Numbers.{AreNumbers, AreUsed, high_at, joined_at}
use Rattle.sz_ops_region.specs.Regions.{components_of}
use Rattle.sz_ops_region.specs.Sets.{is_number, cells_numbered, set_of, sets_by, HaveSets, HasRuns, AreLists}
use Rattle.sz_ops_region.proofs.Apart.{apart-joined}

-- ---- small facts

lt_tells : (a b : ℕ) → ((nat_lt a b ≡ true) × (a < b)) ⊎ ((nat_lt a b ≡ false) × (b ≤ a))
lt_tells a b =
    elim (leb_tells (suc a) b) [
      | inl under ↦ let low : a < b = omega (arith, under.1) in inl (lt-ltb a b low, low)
      | inr over ↦ let high : b ≤ a = omega (arith, over.1) in inr (le-ltb a b high, high)
    ]

none-and : (a : Bool) → (a && false) ≡ false
none-and true = refl
none-and false = refl

is-number-of : (x : Option ℕ) (j : ℕ) → is_number x j ≡ true → x ≡ Some j
is-number-of None j there = absurd (true≢false (sym there))
is-number-of (Some i) j there = ap (λ (k : ℕ). Some k) (eqb-true i j there)

add-none : (k : ℕ) → 0 + k ≡ k
add-none k = omega arith

-- a mark that is no number has none
pub none-other : (m : Mark) → ((j : ℕ) → m ≡ Numbered j → ⊥) → number_in m ≡ None
none-other Low never = refl
none-other Alone never = refl
none-other (Numbered j) never = absurd (never j refl)

-- what a map of a range has at a place
pub range-at : {X : Type 0} (f : ℕ → X) (k a n : ℕ) (d : X) → k < n
    → get_or (map f (range_with_len a n)) k d ≡ f (a + k)
range-at f k a zero d below = absurd (omega arith)
range-at f zero a (suc n) d below = ap f (omega arith)
range-at f (suc k) a (suc n) d below = range-at f k (a + 1) n d (omega arith) ∙ ap f (omega arith)

-- maps of a range are one where they agree on it
pub map-range_ext : {X : Type 0} (f h : ℕ → X) (a n : ℕ) → ((k : ℕ) → a ≤ k → k < a + n → f k ≡ h k)
    → map f (range_with_len a n) ≡ map h (range_with_len a n)
map-range_ext f h a zero agree = refl
map-range_ext f h a (suc n) agree =
    ap₂ (λ y ys. y ∷ ys) (agree a (omega arith) (omega arith))
    (map-range_ext f h (a + 1) n (λ k low high. agree k (omega arith) (omega arith)))

-- of a range one index is one
filter-past : (k a n : ℕ) → k < a → filter (λ l. k == l) (range_with_len a n) ≡ []
filter-past k a n below =
    filter-range_ext (λ l. k == l) (λ l. false) a n (λ l low high. ne_eqb k l (λ same. omega (arith, same)))
    ∙ filter-false (range_with_len a n)

filter-one_from : (k a n : ℕ) → a ≤ k → k < a + n → filter (λ l. k == l) (range_with_len a n) ≡ k ∷ []
filter-one_from k a zero low high = absurd (omega arith)
filter-one_from k a (suc n) low high =
    elim (eqb_tells k a) [
      | inl at ↦ rw at.0 (ap₂ (λ y ys. y ∷ ys) (sym at.1) (filter-past k (a + 1) n (omega (arith, at.1))))
      | inr apart ↦ rw apart.0 (filter-one_from k (a + 1) n (omega (arith, apart.1)) (omega arith))
    ]

filter-one : (n k : ℕ) → k < n → filter (λ l. k == l) (range_with_len 0 n) ≡ k ∷ []
filter-one n k below = filter-one_from k 0 n (omega arith) (omega arith)

-- what passes a test is in what is filtered by it
filter-some_from : (p : ℕ → Bool) (k a n : ℕ) → a ≤ k → k < a + n → p k ≡ true
    → 0 < length (filter p (range_with_len a n))
filter-some_from p k a zero low high passes = absurd (omega arith)
filter-some_from p k a (suc n) low high passes =
    elim (cases_Bool (p a)) [
      | inl here ↦ rw here (omega arith)
      | inr not ↦
          let apart : k ≢ a = λ at. true≢false (sym passes ∙ ap p at ∙ not) in
          rw not (filter-some_from p k (a + 1) n (omega (arith, apart)) (omega arith) passes)
    ]

filter-some : (p : ℕ → Bool) (k n : ℕ) → k < n → p k ≡ true → 0 < length (filter p (range_with_len 0 n))
filter-some p k n below passes = filter-some_from p k 0 n (omega arith) (omega arith) passes

-- only a cell that has a mark has a number
number-below : (marks : List Mark) (k j : ℕ) → number_of marks k ≡ Some j → k < length marks
number-below [] k j is = let both : None ≡ Some j = is in cc both
number-below (m ∷ marks) zero j is = omega arith
number-below (m ∷ marks) (suc k) j is = omega (arith, number-below marks k j is)

-- ---- runs of a number

-- the next indexes, that have the number
pub runs-add : (marks : List Mark) (j : ℕ) (run : Run) (old new : List Run) → HasRuns marks run.first j old
    → run.first ≤ run.last → ((k : ℕ) → run.first ≤ k → k ≤ run.last → number_of marks k ≡ Some j)
    → ((bound : ℕ) → AreRunsFrom 0 bound old → run.last < bound → AreRunsFrom 0 bound new)
    → ((k : ℕ) → covers new k ≡ (covers old k || is_in run k))
    → HasRuns marks (run.last + 1) j new
runs-add marks j run old new has order is longest added =
    let q : ℕ → Bool = λ k. is_number (number_of marks k) j in
    let n = run.first in
    record {
      longest = longest (run.last + 1) (runs-widen 0 n (run.last + 1) old (omega arith) has.longest) (omega arith);
      covered = λ k. added k ∙ ap (λ (b : Bool). b || is_in run k) (has.covered k)
          ∙ (elim (lt_tells k n) [
            | inl low ↦
                let out : nat_le n k ≡ false = lt-leb n k low.1 in
                let under : nat_lt k (run.last + 1) ≡ true = lt-ltb k (run.last + 1) (omega (arith, low.1)) in
                rw (low.0, out, under) (or-false (q k))
            | inr high ↦
                elim (lt_tells k (run.last + 1)) [
                  | inl under ↦
                      let there : q k ≡ true = ap (λ (x : Option ℕ). is_number x j)
                      (is k high.1 (omega (arith, under.1))) ∙ eq-eqb j j refl in
                      let from : nat_le n k ≡ true = le-leb n k high.1 in
                      let upto : nat_le k run.last ≡ true = le-leb k run.last (omega (arith, under.1)) in
                      rw (high.0, under.0, there, from, upto) refl
                  | inr over ↦
                      let past : nat_le k run.last ≡ false = lt-leb k run.last (omega (arith, over.1)) in
                      rw (high.0, over.0, past) (none-and (nat_le n k))
                ]
          ]);
    }

-- indexes that have another number, or none
pub runs-skip : (marks : List Mark) (n m j : ℕ) (runs : List Run) → HasRuns marks n j runs → n ≤ m
    → ((k : ℕ) → n ≤ k → k < m → is_number (number_of marks k) j ≡ false) → HasRuns marks m j runs
runs-skip marks n m j runs has order none =
    let q : ℕ → Bool = λ k. is_number (number_of marks k) j in
    record {
      longest = runs-widen 0 n m runs order has.longest;
      covered = λ k. has.covered k
          ∙ (elim (lt_tells k n) [
            | inl low ↦
                let under : nat_lt k m ≡ true = lt-ltb k m (omega (arith, low.1)) in
                rw (low.0, under) refl
            | inr high ↦
                elim (lt_tells k m) [
                  | inl under ↦
                      let away : q k ≡ false = none k high.1 under.1 in
                      rw (high.0, under.0, away) refl
                  | inr over ↦ rw (high.0, over.0) refl
                ]
          ]);
    }

-- the set that all runs of a number make
pub set-made : (e : Extent) (marks : List Mark) (j : ℕ) (runs : List Run)
    → HasRuns marks (size_of e) j runs
    → record { extent = e; indexes = flat_map indexes_of runs } ≡ cells_numbered e marks j
set-made e marks j runs has =
    let q : ℕ → Bool = λ k. is_number (number_of marks k) j in
    let make : List ℕ → Cells = λ xs. record { extent = e; indexes = xs } in
    ap make (runs-filter (size_of e) runs has.longest
    ∙ filter-range_ext (covers runs) q 0 (size_of e)
    (λ k low high. has.covered k ∙ ap (λ (b : Bool). b && q k) (lt-ltb k (size_of e) (omega arith))))

-- ---- lists of runs

-- lists without a run, of which each is right so far
pub lists-none : (marks : List Mark) (count : ℕ) (lists : List (List Run)) → length lists ≡ count
    → ((j : ℕ) → get_or lists j [] ≡ []) → AreLists marks 0 count lists
lists-none marks count lists long none = record {
  long = long;
  each = λ j below.
      subst (HasRuns marks 0 j) (sym (none j)) (record {
        longest = tt;
        covered = λ k. rw (le-ltb k 0 (omega
            arith)) refl;
      });
}

-- further indexes without a number
pub lists-skip : (marks : List Mark) (n m count : ℕ) (lists : List (List Run))
    → AreLists marks n count lists → n ≤ m
    → ((k : ℕ) → n ≤ k → k < m → number_of marks k ≡ None) → AreLists marks m count lists
lists-skip marks n m count lists are order none = record {
  long = are.long;
  each = λ j below. runs-skip marks n m j (get_or lists j []) (are.each j below) order
      (λ k low high. ap (λ (x : Option ℕ). is_number x j) (none k low high));
}

-- further indexes with a number, and the runs of that number with them
pub lists-add : (marks : List Mark) (n m count i : ℕ) (lists : List (List Run)) (runs : List Run)
    → AreLists marks n count lists → n ≤ m
    → ((k : ℕ) → n ≤ k → k < m → number_of marks k ≡ Some i) → i < count
    → HasRuns marks m i runs → AreLists marks m count (set lists i runs)
lists-add marks n m count i lists runs are order is inside has = record {
  long = length-set lists i runs ∙ are.long;
  each = λ j below.
      elim (eqb_tells i j) [
        | inl at ↦
            let here : get_or (set lists i runs) j [] ≡ runs =
            ap (λ (k : ℕ). get_or (set lists i runs) k []) (sym at.1)
            ∙ get_or-set_same lists i runs [] (omega (arith, are.long)) in
            subst (HasRuns marks m j) (sym here) (subst (λ (k : ℕ). HasRuns marks m k runs) at.1 has)
        | inr apart ↦
            let other : j ≢ i = λ same. apart.1 (sym same) in
            let there = get_or-set_other lists i j runs [] other in
            subst (HasRuns marks m j) (sym there)
            (runs-skip marks n m j (get_or lists j []) (are.each j below) order
            (λ k low high. ap (λ (x : Option ℕ). is_number x j) (is k low high) ∙ apart.0))
      ];
}

-- ---- components

-- the cells of the number of a cell are its component
pub numbered-component : (t : ℤ) (g : Grid) (marks : List Mark) (count k j : ℕ)
    → AreNumbers t g marks count → number_of marks k ≡ Some j
    → cells_numbered g.extent marks j ≡ component_of t g (cell_of g.extent k)
numbered-component t g marks count k j are is =
    let e = g.extent in
    let make : List ℕ → Cells = λ xs. record { extent = e; indexes = xs } in
    ap make (filter-range_ext (λ l. is_number (number_of marks l) j)
    (λ l. is_connected t g (cell_of e k) (cell_of e l)) 0 (size_of e)
    (λ l low high. same_truth (is_number (number_of marks l) j) (joined_at t g k l)
    (λ there. are.one k l j is (is-number-of (number_of marks l) j there))
    (λ joined. ap (λ (x : Option ℕ). is_number x j) (are.joined k l j is (omega arith) joined) ∙ eq-eqb j j refl)))
    ∙ sym (component-made t g (cell_of e k))

-- the component of a cell that is not high is empty
pub low-component : (t : ℤ) (g : Grid) (o : Cell) → is_high t g o ≡ false
    → component_of t g o ≡ no_cells g.extent
low-component t g o low =
    let e = g.extent in
    let make : List ℕ → Cells = λ xs. record { extent = e; indexes = xs } in
    let none : (k : ℕ) → is_connected t g o (cell_of e k) ≡ false =
    λ k. false_from_ne_true (is_connected t g o (cell_of e k))
    (λ inside. true≢false (sym (connected-both_high t g o (cell_of e k) inside).1 ∙ low)) in
    component-made t g o
    ∙ ap make (filter_agree (λ k. is_connected t g o (cell_of e k)) (λ _. false) none (range_with_len 0 (size_of e))
    ∙ filter-false (range_with_len 0 (size_of e)))

-- that of a cell without a high neighbour is the cell
pub lone-component : (t : ℤ) (g : Grid) (marks : List Mark) (count k : ℕ) → AreNumbers t g marks count
    → k < size_of g.extent → mark_at marks k ≡ Alone
    → record { extent = g.extent; indexes = k ∷ [] } ≡ component_of t g (cell_of g.extent k)
lone-component t g marks count k are below alone =
    let e = g.extent in
    let make : List ℕ → Cells = λ xs. record { extent = e; indexes = xs } in
    let high : high_at t g k ≡ true = sym (are.tall k below) ∙ ap is_tall alone in
    let itself : joined_at t g k k ≡ true = connected-self t g (cell_of e k) (cell-held e k below) high in
    ap make (sym (filter-one (size_of e) k below)
    ∙ filter-range_ext (λ l. k == l) (λ l. is_connected t g (cell_of e k) (cell_of e l)) 0 (size_of e)
    (λ l low under. same_truth (k == l) (joined_at t g k l)
    (λ same. sym (ap (joined_at t g k) (eqb-true k l same)) ∙ itself)
    (λ joined. eq-eqb k l (apart-joined t g k l (are.apart k alone) joined))))
    ∙ sym (component-made t g (cell_of e k))

-- what is made of each mark is the component of the cell
set-by_mark : (t : ℤ) (g : Grid) (marks : List Mark) (count k : ℕ) (sets : List Cells) (m : Mark)
    → AreNumbers t g marks count
    → sets ≡ map (cells_numbered g.extent marks) (range_with_len 0 count) → k < size_of g.extent
    → mark_at marks k ≡ m → set_of g.extent sets k m ≡ component_of t g (cell_of g.extent k)
set-by_mark t g marks count k sets Low are is below at =
    sym (low-component t g (cell_of g.extent k) (sym (are.tall k below) ∙ ap is_tall at))
set-by_mark t g marks count k sets Alone are is below at = lone-component t g marks count k are below at
set-by_mark t g marks count k sets (Numbered j) are is below at =
    let e = g.extent in
    let has : number_of marks k ≡ Some j = ap number_in at in
    ap (λ (ss : List Cells). get_or ss j (no_cells e)) is
    ∙ range-at (cells_numbered e marks) j 0 count (no_cells e) (are.high k j has).2
    ∙ ap (cells_numbered e marks) (add-none j)
    ∙ numbered-component t g marks count k j are has

-- so all of them are
pub aid-right : (t : ℤ) (g : Grid) (e : Extent) (marks : List Mark) (count : ℕ) (sets : List Cells)
    → AreNumbers t g marks count → e ≡ g.extent
    → sets ≡ map (cells_numbered e marks) (range_with_len 0 count)
    → sets_by e sets marks ≡ components_of t g
aid-right t g e marks count sets are same is =
    subst (λ (d : Extent). sets_by d sets marks ≡ components_of t g) (sym same)
    (map-range_ext (λ k. set_of g.extent sets k (mark_at marks k)) (λ k. component_of t g (cell_of g.extent k)) 0
    (size_of g.extent)
    (λ k low below. set-by_mark t g marks count k sets (mark_at marks k) are
    (subst (λ (d : Extent). sets ≡ map (cells_numbered d marks) (range_with_len 0 count)) same is) (omega arith) refl))

-- each number has a set
pub aid-sets : (t : ℤ) (g : Grid) (e : Extent) (marks : List Mark) (count : ℕ) (sets : List Cells)
    → AreNumbers t g marks count → sets ≡ map (cells_numbered e marks) (range_with_len 0 count)
    → HaveSets sets marks
aid-sets t g e marks count sets are is k j has =
    omega (
      arith,
      (are.high k j has).2,
      ap (λ (ss : List Cells). length ss) is,
      length-map-range_with_len (cells_numbered e marks) 0 count,
    )

-- of one cell at least
pub used-full : (e : Extent) (marks : List Mark) (count j : ℕ) → AreUsed marks count → length marks ≡ size_of e
    → j < count → 0 < length (cells_numbered e marks j).indexes
used-full e marks count j used long below =
    let has = used j below in
    let q : ℕ → Bool = λ k. is_number (number_of marks k) j in
    let inside : has.0 < size_of e =
    omega (arith, long, number-below marks has.0 j has.1) in
    filter-some q has.0 (size_of e) inside (ap (λ (x : Option ℕ). is_number x j) has.1 ∙ eq-eqb j j refl)

-- ---- what is kept of all components

pub sets-length : (e : Extent) (sets : List Cells) (marks : List Mark) → length (sets_by e sets marks) ≡ size_of e
sets-length e sets marks = length-map-range_with_len (λ k. set_of e sets k (mark_at marks k)) 0 (size_of e)

pub sets-at : (e : Extent) (sets : List Cells) (marks : List Mark) (k : ℕ) (d : Cells) → k < size_of e
    → get_or (sets_by e sets marks) k d ≡ set_of e sets k (mark_at marks k)
sets-at e sets marks k d below =
    get_or-map-range_with_len (λ i. set_of e sets i (mark_at marks i)) 0 (size_of e) k k d below (add-none k)

-- a mark that is neither alone nor a number has no cell
pub other-set : (e : Extent) (sets : List Cells) (k : ℕ) (m : Mark) → (m ≡ Alone → ⊥)
    → ((j : ℕ) → m ≡ Numbered j → ⊥) → (set_of e sets k m).indexes ≡ []
other-set e sets k Low lone numbered = refl
other-set e sets k Alone lone numbered = absurd (lone refl)
other-set e sets k (Numbered j) lone numbered = absurd (numbered j refl)
