-- Cells by their numbers: what the first cells and the next ones tell.
--
-- The key idea: from the last cell to the first, each cell tells what was told of its number before, and is told in its
-- place. So behind a told cell there is no cell of its number before the next told one, and the cells that are told one
-- after another are all of a number, rising. A walk over them puts each into the runs: what the runs cover and what is
-- still told are the cells of the number all the way.
use Rattle.std.proofs.Common.{◌≡◌, ◌∙◌, ℕ, zero, suc, ◌+◌, ◌-◌, ◌<◌, ◌≤◌, Bool, true, false, ◌&&◌, ◌||◌, ◌==◌, not}
use Rattle.std.proofs.Common.{nat_lt, nat_le}
use Rattle.std.proofs.Common.{inl, inr, List, [], ◌∷◌, length, get_or, set, refl, sym, ap, subst}
use Rattle.std.proofs.Common.{lt-ltb, length-append, le-leb, if◌then◌else◌}
use Rattle.std.proofs.Common.{arith, All, eqb-true, eq-eqb, ltb-true, leb-true, true≢false}
use Rattle.std.proofs.Common.{get_or-set_other, length-set}
use Rattle.std.specs.Prelude.{replicate}
use Rattle.std.specs.List.{list_any, flat_map, filter, range_with_len}
use Rattle.std.proofs.lemmas.Bool.{cases_Bool, cond_both, and_parts}
use Rattle.std.proofs.lemmas.Bool.Decides.{nat_tests}
use Rattle.std.proofs.lemmas.List.{get_or-set_same, get_or-replicate, length-replicate, length-map, get_or-map}
use Rattle.std.proofs.lemmas.List.Elements.{All-nil, All-from_get_or, filter-append}
use Rattle.sz_cells.specs.declared.Run.{Run}
use Rattle.sz_cells.specs.Rising.{AreRising}
use Rattle.sz_cells.specs.Runs.{AreRunsFrom, covers, runs_of, before_runs, indexes_of}
use Rattle.sz_cells.proofs.Sets.{same_truth}
use Rattle.sz_cells.proofs.Runs.{runs-at, runs_of-longest, runs_of-spelled, spelled-runs_of, spelled-rising, any-covers}
use Rattle.sz_merge.specs.Links.{TellsNext, AreTold, AreLinks, cells_told, groups_told}
use Rattle.sz_merge.specs.Marks.{AreGroups, HasCellMore, is_kind}
use Rattle.sz_merge.proofs.Sorting.{range-more}

-- ---- from the last cell to the first

pub told-none : (labels : List ℕ) (count : ℕ)
    → AreTold labels count (length labels) (replicate count 0) (replicate (length labels) 0)
told-none labels count = record {
  many = length-replicate count 0;
  long = length-replicate (length labels) 0;
  firsts = λ number inside.
      rw (get_or-replicate {A = ℕ} count number 0 0 inside) (record {
        within = omega arith;
        is = λ some. absurd (omega (arith, some));
        least = λ k low high is. absurd (omega (arith, low, high));
      });
  nexts = λ k low high. absurd (omega (arith, low, high));
}

-- a cell of another number changes nothing
tells-other : (labels : List ℕ) (number n told : ℕ) → TellsNext labels number (n + 1) told
    → (get_or labels n 0 ≡ number → ⊥) → TellsNext labels number n told
tells-other labels number n told tells other = record {
  within = tells.within;
  is = λ some. let was = tells.is some in (omega (arith, was.0), was.1);
  least = λ k low high is.
      elim (cases_Bool (n == k)) [
        | inl same ↦
            let e : n ≡ k = eqb-true n k same in
            absurd (other (ap (λ (j : ℕ). get_or labels j 0) e ∙ is))
        | inr apart ↦
            let far : n ≡ k → ⊥ = λ e. true≢false (sym (eq-eqb n k e) ∙ apart) in
            let above : n + 1 ≤ k = omega (arith, far, low) in
            tells.least k above high is
      ];
}

-- a cell of the number is told
tells-own : (labels : List ℕ) (n : ℕ) → n < length labels → TellsNext labels (get_or labels n 0) n (n + 1)
tells-own labels n within =
    let here : n + 1 - 1 ≡ n = omega arith in record {
      within = omega arith;
      is = λ some. (omega arith, ap (λ (j : ℕ). get_or labels j 0) here);
      least = λ k low high is. (omega arith, omega (arith, low));
    }

pub told-more : (labels : List ℕ) (count n : ℕ) (first next : List ℕ) → AreTold labels count (n + 1) first next
    → n < length labels → get_or labels n 0 < count
    → AreTold labels count n (set first (get_or labels n 0) (n + 1)) (set next n (get_or first (get_or labels n 0) 0))
told-more labels count n first next told within below =
    let own = get_or labels n 0 in record {
      many = length-set first own (n + 1) ∙ told.many;
      long = length-set next n (get_or first own 0) ∙ told.long;
      firsts = λ number inside.
          elim (cases_Bool (number == own)) [
            | inl same ↦
                let e : number ≡ own = eqb-true number own same in
                let new : get_or (set first own (n + 1)) own 0 ≡ n + 1 =
                get_or-set_same first own (n + 1) 0 (omega (arith, told.many, below)) in
                rw (e, new) (tells-own labels n within)
            | inr other ↦
                let apart : own ≡ number → ⊥ = λ e. true≢false (sym (eq-eqb number own (sym e)) ∙ other) in
                let new : get_or (set first own (n + 1)) number 0 ≡ get_or first number 0 =
                get_or-set_other first own number (n + 1) 0 (λ e. apart (sym e)) in
                rw new (tells-other labels number n (get_or first number 0) (told.firsts number inside) apart)
          ];
      nexts = λ k low high.
          elim (cases_Bool (n == k)) [
            | inl same ↦
                let e : n ≡ k = eqb-true n k same in
                let new : get_or (set next n (get_or first own 0)) n 0 ≡ get_or first own 0 =
                get_or-set_same next n (get_or first own 0) 0 (omega (arith, told.long, within)) in
                rw (← e, new) (told.firsts own below)
            | inr other ↦
                let apart : n ≡ k → ⊥ = λ e. true≢false (sym (eq-eqb n k e) ∙ other) in
                let new : get_or (set next n (get_or first own 0)) k 0 ≡ get_or next k 0 =
                get_or-set_other next n k (get_or first own 0) 0 (λ e. apart (sym e)) in
                rw new (told.nexts k (omega (arith, apart, low)) high)
          ];
    }

pub told-links : (labels : List ℕ) (count : ℕ) (first next : List ℕ) → AreTold labels count 0 first next
    → AreLinks first next
told-links labels count first next told = record {
  firsts = All-from_get_or (λ (t : ℕ). t ≤ length next) first 0
      (λ n inside.
      omega (arith, told.long, (told.firsts n (omega (arith, told.many, inside))).within));
  nexts = All-from_get_or (λ (t : ℕ). t ≤ length next) next 0
      (λ k inside.
      omega (arith, told.long, (told.nexts k (omega arith) (omega (arith, told.long, inside))).within));
  further = λ k inside some. ((told.nexts k (omega arith) (omega (arith, told.long, inside))).is some).0;
}

-- ---- the cells of a number

-- the cells that are told one after another rise
pub cells-rise : (fuel : ℕ) (first next : List ℕ) (told least : ℕ) → AreLinks first next → told ≤ length next
    → (0 < told → least < told) → AreRising least (length next) (cells_told fuel next told)
cells-rise zero first next told least links within low = tt
cells-rise (suc n) first next zero least links within low = tt
cells-rise (suc n) first next (suc k) least links within low = (
  omega (arith, low (omega arith)),
  omega (arith, within),
  cells-rise n first next (get_or next k 0) (k + 1) links (links.nexts k 0 (omega (arith, within)))
      (λ some. links.further k (omega (arith, within)) some),
)

-- they are the cells of the number from a place on
cells-found : (fuel : ℕ) (labels : List ℕ) (count : ℕ) (first next : List ℕ) (number n told j : ℕ)
    → AreTold labels count 0 first next → TellsNext labels number n told → length labels ≤ n + fuel
    → list_any (λ x. x == j) (cells_told fuel next told)
    ≡ (nat_le n j && nat_lt j (length labels) && (get_or labels j 0 == number))
cells-found zero labels count first next number n told j all tells enough = grind (arith, nat_tests)
cells-found (suc m) labels count first next number n zero j all tells enough =
    same_truth false (nat_le n j && nat_lt j (length labels) && (get_or labels j 0 == number))
    (λ wrong. absurd (true≢false (sym wrong)))
    (λ is.
    let both = and_parts (nat_le n j && nat_lt j (length labels)) (get_or labels j 0 == number) is in
    let ends = and_parts (nat_le n j) (nat_lt j (length labels)) both.0 in
    absurd (omega (
      arith,
      (tells.least j (leb-true n j ends.0) (ltb-true j (length labels) ends.1)
          (eqb-true (get_or labels j 0) number both.1)).0,
    )))
cells-found (suc m) labels count first next number n (suc k) j all tells enough =
    let own = tells.is (omega arith) in
    let less : suc k - 1 ≡ k = omega arith in
    let here : get_or labels k 0 ≡ number = ap (λ (i : ℕ). get_or labels i 0) (sym less) ∙ own.1 in
    let inside : k < length labels = omega (arith, tells.within) in
    let low : n ≤ k = omega (arith, own.0) in
    let further : TellsNext labels number (k + 1) (get_or next k 0) =
    subst (λ (x : ℕ). TellsNext labels x (k + 1) (get_or next k 0)) here (all.nexts k (omega arith) inside) in
    let rest = cells-found m labels count first next number (k + 1) (get_or next k 0) j all further
    (omega (arith, enough, low)) in
    rw rest
    (elim (cases_Bool (get_or labels j 0 == number)) [
      | inl is ↦
          let e : get_or labels j 0 ≡ number = eqb-true (get_or labels j 0) number is in
          elim (cases_Bool (nat_le n j && nat_lt j (length labels))) [
            | inl inner ↦
                let ends = and_parts (nat_le n j) (nat_lt j (length labels)) inner in
                let least : suc k ≤ j + 1 =
                (tells.least j (leb-true n j ends.0) (ltb-true j (length labels) ends.1) e).1 in
                rw is (grind (arith, nat_tests))
            | inr outer ↦ rw is (grind (arith, nat_tests))
          ]
      | inr is_other ↦
          elim (cases_Bool (k == j)) [
            | inl same ↦
                let e : k ≡ j = eqb-true k j same in
                absurd (true≢false (sym (eq-eqb (get_or labels j 0) number
                (ap (λ (i : ℕ). get_or labels i 0) (sym e) ∙ here)) ∙ is_other))
            | inr apart ↦ rw (is_other, apart) (grind (arith, nat_tests))
          ]
    ])

-- runs begin below their bound
begun-below : (bound : ℕ) (runs : List Run) → AreRunsFrom 0 bound runs → All (λ r. r.first ≤ bound) runs
begun-below bound runs longest = λ i d inside.
    let is = runs-at 0 bound runs i d longest inside in omega (arith, is.0, is.1)

pub told-groups : (labels : List ℕ) (count : ℕ) (first next : List ℕ) → AreTold labels count 0 first next
    → AreGroups labels count (length labels) (groups_told first next)
told-groups labels count first next told =
    let links = told-links labels count first next told in
    let bound = length labels in record {
      many = length-map first (λ told. runs_of (cells_told (length next) next told)) ∙ told.many;
      each = λ number inside.
          let one = told.firsts number inside in
          let cells = cells_told (length next) next (get_or first number 0) in
          let rises : AreRising 0 bound cells =
          subst (λ (n : ℕ). AreRising 0 n cells) told.long
          (cells-rise (length next) first next (get_or first number 0) 0 links (omega (arith, told.long, one.within))
          (λ some. some)) in
          let longest = runs_of-longest 0 bound cells rises in
          let is : get_or (groups_told first next) number [] ≡ runs_of cells =
          get_or-map (λ told. runs_of (cells_told (length next) next told)) first number 0 []
          (omega (arith, told.many, inside)) in
          rw is (record {
            longest = longest;
            begun = begun-below bound (runs_of cells) longest;
            covered = λ j.
                sym (any-covers 0 bound j (runs_of cells) longest)
                ∙ ap (list_any (λ x. x == j)) (spelled-runs_of 0 bound cells rises)
                ∙ cells-found (length next) labels count first next number 0 (get_or first number 0) j told one
                (omega (arith, told.long))
                ∙ ap (λ b. b && nat_lt j bound && (get_or labels j 0 == number)) (le-leb 0 j (omega arith));
          });
    }

-- ---- a walk over the cells of a number

-- what the runs cover and the cells that are still told are all cells of the number
pub record HaveWalked (next all : List ℕ) (told : ℕ) (runs : List Run) : Type 0 where
  pub fuel : ℕ
  pub enough : 0 < told → length next < told + fuel
  pub within : told ≤ length next
  pub found : (j : ℕ) → (covers runs j || list_any (λ x. x == j) (cells_told fuel next told))
      ≡ list_any (λ x. x == j) all
  pub longest : AreRunsFrom 0 (length next) runs
  pub begun : 0 < told → All (λ r. r.first < told) runs

pub walk-none : (next : List ℕ) (told : ℕ) → told ≤ length next
    → HaveWalked next (cells_told (length next) next told) told []
walk-none next told within = record {
  fuel = length next;
  enough = λ some. omega (arith, some);
  within = within;
  found = λ j. refl;
  longest = tt;
  begun = λ some. All-nil (λ r. r.first < told);
}

or-both : (a b c : Bool) → ((a || b) || c) ≡ (a || (b || c))
or-both true b c = refl
or-both false b c = refl

-- one cell more
more-found : (fuel : ℕ) (next all : List ℕ) (k j : ℕ) (runs new : List Run) → 0 < fuel
    → (covers runs j || list_any (λ x. x == j) (cells_told fuel next (suc k))) ≡ list_any (λ x. x == j) all
    → covers new j ≡ (covers runs j || (k == j))
    → (covers new j || list_any (λ x. x == j) (cells_told (fuel - 1) next (get_or next k 0)))
    ≡ list_any (λ x. x == j) all
more-found zero next all k j runs new some found more = absurd (omega (arith, some))
more-found (suc m) next all k j runs new some found more =
    let less : suc m - 1 ≡ m = omega arith in
    rw (less, more)
    (or-both (covers runs j) (k == j) (list_any (λ x. x == j) (cells_told m next (get_or next k 0))) ∙ found)

pub walk-more : (first next all : List ℕ) (told k : ℕ) (runs new : List Run) → AreLinks first next → told ≡ suc k
    → HaveWalked next all told runs → HasCellMore runs k new → HaveWalked next all (get_or next k 0) new
walk-more first next all told k runs new links is walked more =
    let inside : k < length next = omega (arith, is, walked.within) in
    let some : 0 < walked.fuel = omega (arith, is, walked.within, walked.enough (omega (arith, is))) in record {
      fuel = walked.fuel - 1;
      enough = λ further.
          omega (arith, is, some, links.further k inside further, walked.enough (omega (arith, is)));
      within = links.nexts k 0 inside;
      found = λ j.
          more-found walked.fuel next all k j runs new some
          (ap (λ (t : ℕ). covers runs j || list_any (λ x. x == j) (cells_told walked.fuel next t)) (sym is)
          ∙ walked.found j)
          (more.covered j);
      longest = more.longest (length next) walked.longest inside;
      begun = λ further i d within.
          omega (arith, more.begun i d within, links.further k inside further);
    }

none-told : (fuel : ℕ) (next : List ℕ) → cells_told fuel next 0 ≡ []
none-told zero next = refl
none-told (suc n) next = refl

or-none : (b : Bool) → (b || false) ≡ b
or-none true = refl
or-none false = refl

pub walk-all : (next all : List ℕ) (runs : List Run) → HaveWalked next all 0 runs → AreRising 0 (length next) all
    → runs ≡ runs_of all
walk-all next all runs walked rises =
    let spelled : flat_map indexes_of runs ≡ all =
    spelled-rising (length next) runs all walked.longest rises
    (λ j.
    sym (or-none (covers runs j))
    ∙ ap (λ (xs : List ℕ). covers runs j || list_any (λ x. x == j) xs) (sym (none-told walked.fuel next))
    ∙ walked.found j) in
    sym (runs_of-spelled 0 (length next) runs walked.longest) ∙ ap runs_of spelled

-- ---- whether a number has a cell

one-more : (n : ℕ) → (suc n == 0) ≡ false
one-more n = grind (arith, nat_tests)

before-some : (k : ℕ) (runs : List Run) → (length (before_runs k runs) == 0) ≡ false
before-some k [] = one-more 0
before-some k (r ∷ runs) =
    cond_both (r.first == k + 1) (record { first = k; last = r.last } ∷ runs)
    (record { first = k; last = k } ∷ r ∷ runs) (λ (rs : List Run). (length rs == 0) ≡ false)
    (λ touch. one-more (length runs)) (λ apart. one-more (suc (length runs)))

cells-none : (fuel : ℕ) (next : List ℕ) → (length (runs_of (cells_told fuel next 0)) == 0) ≡ true
cells-none zero next = refl
cells-none (suc n) next = refl

cells-some : (fuel : ℕ) (next : List ℕ) (told : ℕ) → 0 < told → 0 < fuel
    → (length (runs_of (cells_told fuel next told)) == 0) ≡ false
cells-some zero next told some room = absurd (omega (arith, room))
cells-some (suc n) next zero some room = absurd (omega (arith, some))
cells-some (suc n) next (suc k) some room = before-some k (runs_of (cells_told n next (get_or next k 0)))

-- a number above 0 is that of a kind where a cell is told
pub kind-is : (first next : List ℕ) (n : ℕ) → AreLinks first next → n < length first → 0 < n
    → is_kind (groups_told first next) n ≡ not (get_or first n 0 == 0)
kind-is first next n links inside above =
    let told = get_or first n 0 in
    let within : told ≤ length next = links.firsts n 0 inside in
    let is : get_or (groups_told first next) n [] ≡ runs_of (cells_told (length next) next told) =
    get_or-map (λ told. runs_of (cells_told (length next) next told)) first n 0 [] inside in
    let some : (length (runs_of (cells_told (length next) next told)) == 0) ≡ (told == 0) =
    elim (cases_Bool (told == 0)) [
      | inl none ↦
          let zero_told : told ≡ 0 = eqb-true told 0 none in
          ap (λ (t : ℕ). length (runs_of (cells_told (length next) next t)) == 0) zero_told
          ∙ cells-none (length next) next ∙ sym none
      | inr one ↦
          let far : told ≡ 0 → ⊥ = λ e. true≢false (sym (eq-eqb told 0 e) ∙ one) in
          cells-some (length next) next told (omega (arith, far)) (omega (arith, far, within)) ∙ sym one
    ] in
    rw (lt-ltb 0 n above, is, some) refl

last-counted : (p : ℕ → Bool) (n : ℕ) (one : Bool) → p n ≡ one → length (filter p (n ∷ [])) ≡ (if one then 1 else 0)
last-counted p n true is = rw is refl
last-counted p n false is = rw is refl

-- one number more is counted
pub kinds-counted : (groups : List (List Run)) (n count new : ℕ) (one : Bool)
    → count ≡ length (filter (is_kind groups) (range_with_len 0 n)) → is_kind groups n ≡ one
    → new ≡ count + (if one then 1 else 0)
    → new ≡ length (filter (is_kind groups) (range_with_len 0 (n + 1)))
kinds-counted groups n count new one was is more =
    let p = is_kind groups in
    let last : length (filter p (n ∷ [])) ≡ (if one then 1 else 0) = last-counted p n one is in
    more ∙ sym (ap (λ (ns : List ℕ). length (filter p ns)) (range-more n)
    ∙ ap length (filter-append p (range_with_len 0 n) (n ∷ []))
    ∙ length-append (filter p (range_with_len 0 n)) (filter p (n ∷ []))
    ∙ omega (arith, was, last))
