-- The region pairs of the numbers are the kinds of lineage.
--
-- The key idea: an output cell is in the region pair of its own number alone, and the lineage of that number is what
-- stands behind the cell. Numbers of different region pairs differ, since the numbers that are left of a range rise,
-- and so do their lineages, since each lineage has one number.
use Rattle.std.proofs.Common.{◌≡◌, ℕ, zero, suc, ◌+◌, ◌<◌, ◌≤◌, Bool, true, false, ◌&&◌, ◌||◌, ◌==◌}
use Rattle.std.proofs.Common.{nat_lt, inl, inr, List, [], ◌∷◌, map, length, get_or, refl, sym, ap, ap₂, subst}
use Rattle.std.proofs.Common.{◌++◌}
use Rattle.std.proofs.Common.{◌∙◌, arith, eqb-true, eq-eqb, ltb-true, lt-ltb, le-leb, true≢false, All, Some, not}
use Rattle.std.specs.List.{slice_get, list_any, filter, range_with_len, flat_map}
use Rattle.std.specs.Option.{option_map}
use Rattle.std.proofs.lemmas.Bool.{cases_Bool, or_cases, or_left, or_right, and_parts, and_from}
use Rattle.std.proofs.lemmas.Bool.{false_from_ne_true}
use Rattle.std.proofs.lemmas.Bool.Decides.{nat_tests}
use Rattle.std.proofs.lemmas.List.{length-map, map-append}
use Rattle.std.proofs.lemmas.List.FromFn.{map-range_with_len_more}
use Rattle.std.specs.Prelude.{if◌then◌else◌}
use Rattle.std.proofs.lemmas.List.Elements.{All-head, All-tail, All-from_get_or, filter-append}
use Rattle.std.proofs.lemmas.Option.{slice_get_within, slice_get-get_or, unwrap_or-slice_get, same_Some, slice_get-map}
use Rattle.std.proofs.lemmas.Option.{get_or_from_slice_get}
use Rattle.sz_cells.specs.declared.Cell.{Cell}
use Rattle.sz_cells.specs.declared.Run.{Run}
use Rattle.sz_cells.specs.Extent.{Extent, size_of, holds, index_of, cell_of}
use Rattle.sz_cells.specs.Cells.{Cells, has, cells_where}
use Rattle.sz_cells.specs.Rising.{AreRising}
use Rattle.sz_cells.specs.Runs.{AreRunsFrom, covers, indexes_of, is_in}
use Rattle.sz_cells.proofs.Sets.{same_truth, index-below, cell-index, index-cell, cell-held, has-cells_where_any}
use Rattle.sz_cells.proofs.Sets.{any-filter_range}
use Rattle.sz_cells.proofs.Rising.{filter-rising}
use Rattle.sz_cells.proofs.Runs.{any-covers}
use Rattle.sz_spec.specs.Values.{extent_at}
use Rattle.sz_frame.specs.Parts.{Pairing}
use Rattle.sz_region.specs.Putting.{HasShapes}
use Rattle.sz_frame.specs.Stands.{set_of, full_stands}
use Rattle.sz_tables.specs.Rows.{set_at}
use Rattle.sz_tables.specs.Tables.{AreDifferent, spelled}
use Rattle.sz_merge.specs.Lineages.{nothing, behind, list_at, is_nothing}
use Rattle.sz_merge.specs.Marks.{AreLabels, AreGroups, region_at, is_kind, kinds_below}
use Rattle.sz_merge.specs.Distinct.{AreKinds, HasBothSides}
use Rattle.sz_merge.proofs.Sets.{set-where, has-where, nothing-where, extents-where, extent-of}

-- ---- numbers that rise

rising-at : (least bound : ℕ) (xs : List ℕ) (m x : ℕ) → AreRising least bound xs → slice_get xs m ≡ Some x → least ≤ x
rising-at least bound [] m x rises at = absurd (omega (arith, slice_get_within [] m x at))
rising-at least bound (y ∷ ys) zero x rises at = omega (arith, same_Some y x at, rises.0)
rising-at least bound (y ∷ ys) (suc m) x rises at =
    omega (arith, rising-at (y + 1) bound ys m x rises.2 at, rises.0)

-- numbers that rise differ
rising-different : (least bound : ℕ) (xs : List ℕ) → AreRising least bound xs → AreDifferent xs
rising-different least bound [] rises m n x at too = absurd (omega (arith, slice_get_within [] m x at))
rising-different least bound (y ∷ ys) rises zero zero x at too = refl
rising-different least bound (y ∷ ys) rises zero (suc n) x at too =
    absurd (omega (arith, same_Some y x at, rising-at (y + 1) bound ys n x rises.2 too))
rising-different least bound (y ∷ ys) rises (suc m) zero x at too =
    absurd (omega (arith, same_Some y x too, rising-at (y + 1) bound ys m x rises.2 at))
rising-different least bound (y ∷ ys) rises (suc m) (suc n) x at too =
    ap (λ (k : ℕ). suc k) (rising-different (y + 1) bound ys rises.2 m n x at too)

kept-different : (p : ℕ → Bool) (n : ℕ) → AreDifferent (filter p (range_with_len 0 n))
kept-different p n = rising-different 0 n (filter p (range_with_len 0 n)) (filter-rising p n 0 n (omega arith))

-- what is at a place of a filtered range
kept-first : (p : ℕ → Bool) (n a m x : ℕ) (rest : List ℕ)
    → ((k : ℕ) → slice_get rest k ≡ Some x → (x < a + suc n) × (p x ≡ true)) → p a ≡ true
    → slice_get (a ∷ rest) m ≡ Some x → (x < a + suc n) × (p x ≡ true)
kept-first p n a zero x rest more passes at =
    let e : a ≡ x = same_Some a x at in (omega (arith, e), subst (λ (k : ℕ). p k ≡ true) e passes)
kept-first p n a (suc m) x rest more passes at = more m at

kept-at : (p : ℕ → Bool) (n a m x : ℕ) → slice_get (filter p (range_with_len a n)) m ≡ Some x
    → (x < a + n) × (p x ≡ true)
kept-at p zero a m x at = absurd (omega (arith, slice_get_within [] m x at))
kept-at p (suc n) a m x at =
    elim (cases_Bool (p a)) [
      | inl passes ↦
          kept-first p n a m x (filter p (range_with_len (a + 1) n))
          (λ k there. let rest = kept-at p n (a + 1) k x there in (omega (arith, rest.0), rest.1)) passes
          (rw passes at at)
      | inr fails ↦
          let rest = kept-at p n (a + 1) m x (rw fails at at) in
          (omega (arith, rest.0), rest.1)
    ]

-- ---- the region pair of a number

-- the first index of some runs
group-first : (runs : List Run) (labels : List ℕ) (n number : ℕ) → AreRunsFrom 0 (length labels) runs
    → ((k : ℕ) → covers runs k ≡ (nat_lt k n && (get_or labels k 0 == number))) → (length runs == 0) ≡ false
    → (k : ℕ) × (k < n) × (get_or labels k 0 ≡ number)
group-first [] labels n number longest covered some = absurd (true≢false some)
group-first (r ∷ runs) labels n number longest covered some =
    let here : covers (r ∷ runs) r.first ≡ true =
    or_left (is_in r r.first) (covers runs r.first) (and_from _ _ (le-leb r.first r.first (omega arith))
    (le-leb r.first r.last longest.1)) in
    let both = and_parts (nat_lt r.first n) (get_or labels r.first 0 == number) (sym (covered r.first) ∙ here) in
    (r.first, ltb-true r.first n both.0, eqb-true (get_or labels r.first 0) number both.1)

-- where some cell has the number
group-cell : (labels : List ℕ) (count n number : ℕ) (groups : List (List Run)) → AreGroups labels count n groups
    → number < count → (length (get_or groups number []) == 0) ≡ false
    → (k : ℕ) × (k < n) × (get_or labels k 0 ≡ number)
group-cell labels count n number groups are inside some =
    let is = are.each number inside in
    group-first (get_or groups number []) labels n number is.longest is.covered some

-- a cell is in the region pair of its own number alone
has-kind : (out : Extent) (labels : List ℕ) (count number : ℕ) (groups : List (List Run)) (lists : List (List Cells))
    (o : Cell) → length labels ≡ size_of out → AreGroups labels count (size_of out) groups → number < count
    → holds out o ≡ true
    → has (region_at out groups lists number).out o ≡ (get_or labels (index_of out o) 0 == number)
has-kind out labels count number groups lists o long are inside held =
    let is = are.each number inside in
    let k = index_of out o in
    let runs = get_or groups number [] in
    let below : nat_lt k (size_of out) ≡ true = lt-ltb k (size_of out) (index-below out o held) in
    let covered : list_any (λ j. j == k) (flat_map indexes_of runs) ≡ (get_or labels k 0 == number) =
    any-covers 0 (length labels) k runs is.longest ∙ is.covered k
    ∙ ap (λ b. b && (get_or labels k 0 == number)) below in
    ap (λ b. b && list_any (λ j. j == k) (flat_map indexes_of runs)) held ∙ covered

-- what is known of numbers, lineages and cells at the end
pub record AreSorted (out : Extent) (ins : List Extent) (rs : List Pairing) (labels : List ℕ) (groups : List (List Run))
    (lists : List (List Cells)) : Type 0 where
  pub numbers : AreLabels out ins rs labels lists
  pub cells : AreGroups labels (length lists) (size_of out) groups
  pub apart : AreDifferent lists
  pub shapes : All (HasShapes out ins) rs

-- what stands behind a cell is the lineage of its number
kind-behind : (out : Extent) (ins : List Extent) (rs : List Pairing) (labels : List ℕ) (lists : List (List Cells))
    (o : Cell) → AreLabels out ins rs labels lists → holds out o ≡ true
    → slice_get lists (get_or labels (index_of out o) 0) ≡ Some (behind ins rs o)
kind-behind out ins rs labels lists o are held =
    are.each (index_of out o) (index-below out o held)
    ∙ ap (λ (c : Cell). Some (behind ins rs c)) (cell-index out o held)

list-there : (lists : List (List Cells)) (n : ℕ) → n < length lists → slice_get lists n ≡ Some (list_at lists n)
list-there lists n inside =
    slice_get-get_or lists n [] inside ∙ ap Some (sym (unwrap_or-slice_get lists n []))

list-is : (lists : List (List Cells)) (n : ℕ) (x : List Cells) → slice_get lists n ≡ Some x → list_at lists n ≡ x
list-is lists n x at = unwrap_or-slice_get lists n [] ∙ get_or_from_slice_get lists n x [] at

map-at : {X Y : Type 0} (f : X → Y) (xs : List X) (m : ℕ) (y : Y) (d : X) → slice_get (map f xs) m ≡ Some y
    → (slice_get xs m ≡ Some (get_or xs m d)) × (y ≡ f (get_or xs m d))
map-at f xs m y d at =
    let inside : m < length xs = omega (arith, slice_get_within (map f xs) m y at, length-map xs f) in
    let here = slice_get-get_or xs m d inside in
    (here, same_Some y (f (get_or xs m d)) (sym at ∙ (slice_get-map f xs m ∙ ap (option_map f) here)))

-- the number of a region pair
record IsNumberOf (out : Extent) (groups : List (List Run)) (lists : List (List Cells)) (m : ℕ) (a : Pairing) (n : ℕ)
    : Type 0 where
  place : slice_get (filter (is_kind groups) (range_with_len 0 (length lists))) m ≡ Some n
  inside : n < length lists
  above : 0 < n
  some : (length (get_or groups n []) == 0) ≡ false
  is : a ≡ region_at out groups lists n

not-true : (b : Bool) → not b ≡ true → b ≡ false
not-true true wrong = absurd (true≢false (sym wrong))
not-true false _ = refl

number-at : (out : Extent) (groups : List (List Run)) (lists : List (List Cells)) (m : ℕ) (a : Pairing)
    → slice_get (kinds_below out groups lists (length lists)) m ≡ Some a
    → (n : ℕ) × IsNumberOf out groups lists m a n
number-at out groups lists m a at =
    let xs = filter (is_kind groups) (range_with_len 0 (length lists)) in
    let one = map-at (region_at out groups lists) xs m a 0 at in
    let n = get_or xs m 0 in
    let kept = kept-at (is_kind groups) (length lists) 0 m n one.0 in
    let both = and_parts (nat_lt 0 n) (not (length (get_or groups n []) == 0)) kept.1 in (
      n,
      record {
        place = one.0;
        inside = omega (arith, kept.0);
        above = ltb-true 0 n both.0;
        some = not-true (length (get_or groups n []) == 0) both.1;
        is = one.1;
      },
    )

-- region pairs of one number stand at one place
place-one : (out : Extent) (groups : List (List Run)) (lists : List (List Cells)) (m n : ℕ) (a b : Pairing) (k j : ℕ)
    → IsNumberOf out groups lists m a k → IsNumberOf out groups lists n b j → k ≡ j → m ≡ n
place-one out groups lists m n a b k j first second same =
    kept-different (is_kind groups) (length lists) m n k first.place (second.place ∙ ap Some (sym same))

and-false : (b : Bool) → (b && false) ≡ false
and-false true = refl
and-false false = refl

-- ---- the sides

kind-sides : (out : Extent) (ins : List Extent) (rs : List Pairing) (labels : List ℕ) (groups : List (List Run))
    (lists : List (List Cells)) (n : ℕ) → AreSorted out ins rs labels groups lists → n < length lists → 0 < n
    → (length (get_or groups n []) == 0) ≡ false → HasBothSides (region_at out groups lists n)
kind-sides out ins rs labels groups lists n sorted inside above some =
    let one = group-cell labels (length lists) (size_of out) n groups sorted.cells inside some in
    let o = cell_of out one.0 in
    let held = cell-held out one.0 one.1 in
    let own : get_or labels (index_of out o) 0 ≡ n = ap (λ (k : ℕ). get_or labels k 0) (index-cell out one.0) ∙ one.2 in
    let there : has (region_at out groups lists n).out o ≡ true =
    has-kind out labels (length lists) n groups lists o sorted.numbers.long sorted.cells inside held
    ∙ eq-eqb (get_or labels (index_of out o) 0) n own in
    let at : slice_get lists n ≡ Some (behind ins rs o) =
    subst (λ (k : ℕ). slice_get lists k ≡ Some (behind ins rs o)) own
    (kind-behind out ins rs labels lists o sorted.numbers held) in
    record {
      out = λ none.
          true≢false (sym there
          ∙ (ap (λ (xs : List ℕ). holds out o && list_any (λ j. j == index_of out o) xs) none ∙ and-false
          (holds out o)));
      ins = false_from_ne_true (is_nothing (list_at lists n))
          (λ none.
          let no : is_nothing (behind ins rs o) ≡ true = ap is_nothing (sym (list-is lists n (behind ins rs o) at))
          ∙ none in
          let zero : slice_get lists n ≡ Some (nothing ins) =
          at ∙ ap Some (nothing-where ins (λ i x. full_stands rs i o x) no) in
          omega (arith, sorted.apart n 0 (nothing ins) zero sorted.numbers.zero, above));
    }

-- ---- kinds

pub kinds-are : (out : Extent) (ins : List Extent) (rs : List Pairing) (labels : List ℕ) (groups : List (List Run))
    (lists : List (List Cells)) → AreSorted out ins rs labels groups lists
    → AreKinds (kinds_below out groups lists (length lists))
kinds-are out ins rs labels groups lists sorted =
    let ms = kinds_below out groups lists (length lists) in
    let d = region_at out groups lists 0 in
    record {
      different = λ m n x at too.
          let a = map-at (λ (r : Pairing). r.ins) ms m x d at in
          let b = map-at (λ (r : Pairing). r.ins) ms n x d too in
          let k = number-at out groups lists m (get_or ms m d) a.0 in
          let j = number-at out groups lists n (get_or ms n d) b.0 in
          let one : list_at lists k.0 ≡ list_at lists j.0 =
          sym (a.1 ∙ ap (λ (r : Pairing). r.ins) k.1.is) ∙ (b.1 ∙ ap (λ (r : Pairing). r.ins) j.1.is) in
          place-one out groups lists m n (get_or ms m d) (get_or ms n d) k.0 j.0 k.1 j.1
          (sorted.apart k.0 j.0 (list_at lists k.0) (list-there lists k.0 k.1.inside)
          (list-there lists j.0 j.1.inside ∙ ap Some (sym one)));
      apart = λ m n a b o at too here there.
          let k = number-at out groups lists m a at in
          let j = number-at out groups lists n b too in
          let first : has (region_at out groups lists k.0).out o ≡ true =
          ap (λ (r : Pairing). has r.out o) (sym k.1.is) ∙ here in
          let second : has (region_at out groups lists j.0).out o ≡ true =
          ap (λ (r : Pairing). has r.out o) (sym j.1.is) ∙ there in
          let held : holds out o ≡ true = (and_parts (holds out o) _ first).0 in
          let label : (i : ℕ) → i < length lists → has (region_at out groups lists i).out o ≡ true
          → get_or labels (index_of out o) 0 ≡ i =
          λ i inside has_it.
          eqb-true (get_or labels (index_of out o) 0) i
          (sym (has-kind out labels (length lists) i groups lists o sorted.numbers.long sorted.cells inside held)
          ∙ has_it) in
          place-one out groups lists m n a b k.0 j.0 k.1 j.1
          (sym (label k.0 k.1.inside first) ∙ label j.0 j.1.inside second);
      sides = All-from_get_or HasBothSides ms d
          (λ m inside.
          let k = number-at out groups lists m (get_or ms m d) (slice_get-get_or ms m d inside) in
          subst HasBothSides (sym k.1.is)
          (kind-sides out ins rs labels groups lists k.0 sorted k.1.inside k.1.above k.1.some));
    }

pub kinds-shapes : (out : Extent) (ins : List Extent) (rs : List Pairing) (labels : List ℕ) (groups : List (List Run))
    (lists : List (List Cells)) → AreSorted out ins rs labels groups lists
    → All (HasShapes out ins) (kinds_below out groups lists (length lists))
kinds-shapes out ins rs labels groups lists sorted =
    let ms = kinds_below out groups lists (length lists) in
    let d = region_at out groups lists 0 in
    All-from_get_or (HasShapes out ins) ms d
    (λ m inside.
    let k = number-at out groups lists m (get_or ms m d) (slice_get-get_or ms m d inside) in
    let one = group-cell labels (length lists) (size_of out) k.0 groups sorted.cells k.1.inside k.1.some in
    let o = cell_of out one.0 in
    let at : slice_get lists k.0 ≡ Some (behind ins rs o) =
    subst (λ (j : ℕ). slice_get lists j ≡ Some (behind ins rs o)) one.2 (sorted.numbers.each one.0 one.1) in
    subst (HasShapes out ins) (sym k.1.is)
    (record {
      out = refl;
      ins =
          ap (λ (xs : List Cells). map (λ (s : Cells). s.extent) xs) (list-is lists k.0 (behind ins rs o) at)
          ∙ extents-where ins (λ i x. full_stands rs i o x);
    }))

-- ---- they stand for the same

any-map : {X Y : Type 0} (q : Y → Bool) (f : X → Y) (xs : List X) → list_any q (map f xs) ≡ list_any (λ x. q (f x)) xs
any-map q f [] = refl
any-map q f (x ∷ xs) = ap (λ b. q (f x) || b) (any-map q f xs)

any-onward : {X : Type 0} (p q : X → Bool) → ((x : X) → p x ≡ true → q x ≡ true) → (xs : List X)
    → list_any p xs ≡ true → list_any q xs ≡ true
any-onward p q h [] found = found
any-onward p q h (x ∷ xs) found =
    elim (or_cases (p x) (list_any p xs) found) [
      | inl here ↦ or_left (q x) (list_any q xs) (h x here)
      | inr rest ↦ or_right (q x) (list_any q xs) (any-onward p q h xs rest)
    ]

-- a number that passes both tests is found
any-from : (p q : ℕ → Bool) (i n : ℕ) → i < n → p i ≡ true → q i ≡ true
    → list_any q (filter p (range_with_len 0 n)) ≡ true
any-from p q i n high passes both =
    let there : list_any (λ k. k == i) (filter p (range_with_len 0 n)) ≡ true =
    any-filter_range p i 0 n ∙ (rw passes (grind (arith, nat_tests))) in
    any-onward (λ k. k == i) q (λ k same. ap q (eqb-true k i same) ∙ both) (filter p (range_with_len 0 n)) there

-- one that is found passes both
any-to : (p q : ℕ → Bool) (n a : ℕ) → list_any q (filter p (range_with_len a n)) ≡ true
    → (k : ℕ) × (k < a + n) × (p k ≡ true) × (q k ≡ true)
any-to p q zero a found = absurd (true≢false (sym found))
any-to p q (suc n) a found =
    let later : list_any q (filter p (range_with_len (a + 1) n)) ≡ true
    → (k : ℕ) × (k < a + suc n) × (p k ≡ true) × (q k ≡ true) =
    λ rest. let one = any-to p q n (a + 1) rest in (one.0, omega (arith, one.1), one.2, one.3) in
    elim (cases_Bool (p a)) [
      | inl passes ↦
          elim (or_cases (q a) (list_any q (filter p (range_with_len (a + 1) n))) (rw passes at found)) [
            | inl here ↦ (a, omega arith, passes, here)
            | inr rest ↦ later rest
          ]
      | inr fails ↦ later (rw fails at found)
    ]

nil-run : (runs : List Run) → length runs ≡ 0 → runs ≡ []
nil-run [] none = refl
nil-run (r ∷ runs) none = absurd (omega (arith, none))

above-zero : (n : ℕ) → (n ≡ 0 → ⊥) → nat_lt 0 n ≡ true
above-zero zero some = absurd (some refl)
above-zero (suc n) some = lt-ltb 0 (suc n) (omega arith)

-- what stands is a cell of the output and one of the input
stands-held : (out : Extent) (ins : List Extent) (rs : List Pairing) (i : ℕ) (o x : Cell) → All (HasShapes out ins) rs
    → full_stands rs i o x ≡ true → holds out o ≡ true
stands-held out ins [] i o x shapes stands = absurd (true≢false (sym stands))
stands-held out ins (r ∷ rs) i o x shapes stands =
    elim (or_cases (has r.out o && has (set_of r i) x) (full_stands rs i o x) stands) [
      | inl here ↦
          let own = (and_parts (has r.out o) (has (set_of r i) x) here).0 in
          subst (λ (e : Extent). holds e o ≡ true) (All-head (HasShapes out ins) r rs shapes).out
          (and_parts (holds r.out.extent o) _ own).0
      | inr rest ↦ stands-held out ins rs i o x (All-tail (HasShapes out ins) r rs shapes) rest
    ]

stands-cell : (out : Extent) (ins : List Extent) (rs : List Pairing) (i : ℕ) (o x : Cell) → All (HasShapes out ins) rs
    → i < length ins → full_stands rs i o x ≡ true → holds (extent_at ins i) x ≡ true
stands-cell out ins [] i o x shapes inside stands = absurd (true≢false (sym stands))
stands-cell out ins (r ∷ rs) i o x shapes inside stands =
    elim (or_cases (has r.out o && has (set_of r i) x) (full_stands rs i o x) stands) [
      | inl here ↦
          let own = (and_parts (has r.out o) (has (set_of r i) x) here).1 in
          let shape = (All-head (HasShapes out ins) r rs shapes).ins in
          subst (λ (e : Extent). holds e x ≡ true) (extent-of r.ins ins i shape inside)
          (and_parts (holds (set_of r i).extent x) _ own).0
      | inr rest ↦ stands-cell out ins rs i o x (All-tail (HasShapes out ins) r rs shapes) inside rest
    ]

pub kinds-same : (out : Extent) (ins : List Extent) (rs : List Pairing) (labels : List ℕ) (groups : List (List Run))
    (lists : List (List Cells)) (i : ℕ) (o x : Cell) → AreSorted out ins rs labels groups lists → i < length ins
    → full_stands (kinds_below out groups lists (length lists)) i o x ≡ full_stands rs i o x
kinds-same out ins rs labels groups lists i o x sorted inside =
    let f = region_at out groups lists in
    let p = is_kind groups in
    let q : ℕ → Bool = λ n. has (f n).out o && has (set_of (f n) i) x in
    let xs = filter p (range_with_len 0 (length lists)) in
    let as_numbers : full_stands (map f xs) i o x ≡ list_any q xs =
    any-map (λ (r : Pairing). has r.out o && has (set_of r i) x) f xs in
    same_truth (full_stands (map f xs) i o x) (full_stands rs i o x)
    (λ stands.
    let one = any-to p q (length lists) 0 (sym as_numbers ∙ stands) in
    let n = one.0 in
    let both = and_parts (has (f n).out o) (has (set_of (f n) i) x) one.3 in
    let held : holds out o ≡ true = (and_parts (holds out o) _ both.0).0 in
    let below : n < length lists = omega (arith, one.1) in
    let label : get_or labels (index_of out o) 0 ≡ n =
    eqb-true (get_or labels (index_of out o) 0) n
    (sym (has-kind out labels (length lists) n groups lists o sorted.numbers.long sorted.cells below held) ∙ both.0) in
    let at : slice_get lists n ≡ Some (behind ins rs o) =
    subst (λ (k : ℕ). slice_get lists k ≡ Some (behind ins rs o)) label
    (kind-behind out ins rs labels lists o sorted.numbers held) in
    let own : has (cells_where (extent_at ins i) (full_stands rs i o)) x ≡ true =
    ap (λ (s : Cells). has s x) (sym (ap (λ (l : List Cells). set_at l i) (list-is lists n (behind ins rs o) at)
    ∙ set-where ins (λ k y. full_stands rs k o y) i inside)) ∙ both.1 in
    (and_parts (holds (extent_at ins i) x) (full_stands rs i o x)
    (sym (has-cells_where_any (extent_at ins i) (full_stands rs i o) x) ∙ own)).1)
    (λ stands.
    let held = stands-held out ins rs i o x sorted.shapes stands in
    let cell = stands-cell out ins rs i o x sorted.shapes inside stands in
    let n = get_or labels (index_of out o) 0 in
    let at = kind-behind out ins rs labels lists o sorted.numbers held in
    let below : n < length lists = slice_get_within lists n (behind ins rs o) at in
    let own : has (set_at (list_at lists n) i) x ≡ true =
    ap (λ (l : List Cells). has (set_at l i) x) (list-is lists n (behind ins rs o) at)
    ∙ has-where ins (λ k y. full_stands rs k o y) i x inside cell ∙ stands in
    let here : has (f n).out o ≡ true =
    has-kind out labels (length lists) n groups lists o sorted.numbers.long sorted.cells below held
    ∙ eq-eqb n n refl in
    let above : nat_lt 0 n ≡ true = above-zero n (λ zero.
    let none : list_at lists n ≡ nothing ins =
    ap (λ (k : ℕ). list_at lists k) zero ∙ list-is lists 0 (nothing ins) sorted.numbers.zero in
    true≢false (sym own ∙ (ap (λ (l : List Cells). has (set_at l i) x) none
    ∙ has-where ins (λ k y. false) i x inside cell))) in
    let some : (length (get_or groups n []) == 0) ≡ false =
    false_from_ne_true (length (get_or groups n []) == 0)
    (λ zero.
    true≢false (sym here
    ∙ (ap (λ (rs : List Run). holds out o && list_any (λ j. j == index_of out o) (flat_map indexes_of rs))
    (nil-run (get_or groups n []) (eqb-true (length (get_or groups n [])) 0 zero)) ∙ and-false (holds out o)))) in
    as_numbers
    ∙ any-from p q n (length lists) below (and_from _ _ above (ap not some)) (and_from _ _ here own))

-- ---- how it is made

map-id : {X : Type 0} (xs : List X) → map (λ x. x) xs ≡ xs
map-id [] = refl
map-id {X} (x ∷ xs) = ap (λ (ys : List X). x ∷ ys) (map-id xs)

pub range-more : (n : ℕ) → range_with_len 0 (n + 1) ≡ range_with_len 0 n ++ n ∷ []
range-more n =
    sym (map-id (range_with_len 0 (n + 1)))
    ∙ map-range_with_len_more (λ k. k) 0 n n (omega arith)
    ∙ ap (λ (ns : List ℕ). ns ++ n ∷ []) (map-id (range_with_len 0 n))

cond-map : {X Y : Type 0} (f : X → Y) (x : X) (b : Bool) → map f (if b then x ∷ [] else []) ≡
    (if b then f x ∷ [] else [])
cond-map f x true = refl
cond-map f x false = refl

kept-more : {X : Type 0} (f : ℕ → X) (p : ℕ → Bool) (n : ℕ)
    → map f (filter p (range_with_len 0 (n + 1)))
    ≡ map f (filter p (range_with_len 0 n)) ++ (if p n then f n ∷ [] else [])
kept-more {X} f p n =
    ap (λ (ns : List ℕ). map f (filter p ns)) (range-more n)
    ∙ ap (map f) (filter-append p (range_with_len 0 n) (n ∷ []))
    ∙ map-append f (filter p (range_with_len 0 n)) (filter p (n ∷ []))
    ∙ ap (λ (xs : List X). map f (filter p (range_with_len 0 n)) ++ xs) (cond-map f n (p n))

pub sorted-from : (out : Extent) (ins : List Extent) (rs : List Pairing) (labels seen : List ℕ)
    (groups : List (List Run)) (lists : List (List Cells)) (count : ℕ) → AreLabels out ins rs labels lists
    → seen ≡ labels → count ≡ length lists → AreGroups seen count (length seen) groups → AreDifferent lists
    → All (HasShapes out ins) rs → AreSorted out ins rs labels groups lists
sorted-from out ins rs labels seen groups lists count numbers same many cells different shapes = record {
  numbers = numbers;
  cells =
      subst (λ (n : ℕ). AreGroups labels (length lists) n groups) numbers.long
      (subst (λ (k : ℕ). AreGroups labels k (length labels) groups) many
      (subst (λ (xs : List ℕ). AreGroups xs count (length xs) groups) same cells));
  apart = different;
  shapes = shapes;
}

pub sorted-longest : (out : Extent) (ins : List Extent) (rs : List Pairing) (labels : List ℕ)
    (groups : List (List Run)) (lists : List (List Cells)) → AreSorted out ins rs labels groups lists
    → All (AreRunsFrom 0 (size_of out)) groups
sorted-longest out ins rs labels groups lists sorted =
    All-from_get_or (AreRunsFrom 0 (size_of out)) groups []
    (λ n inside.
    subst (λ (b : ℕ). AreRunsFrom 0 b (get_or groups n [])) sorted.numbers.long
    (sorted.cells.each n (omega (arith, sorted.cells.many, inside))).longest)

-- the region pair of one number more
pub kinds-more : (out : Extent) (groups : List (List Run)) (lists : List (List Cells)) (n : ℕ) (old new : List Pairing)
    (runs : List Run) → old ≡ kinds_below out groups lists n → runs ≡ get_or groups n []
    → new ≡ old ++ (if nat_lt 0 n && not (length runs == 0) then record {
      out = spelled out runs;
      ins = list_at lists n;
    } ∷ [] else [])
    → new ≡ kinds_below out groups lists (n + 1)
kinds-more out groups lists n old new runs was own more =
    let one : List Run → List Pairing = λ rs. if nat_lt 0 n && not (length rs == 0) then record {
      out = spelled out rs;
      ins = list_at lists n;
    } ∷ [] else [] in
    more ∙ ap₂ (λ (a b : List Pairing). a ++ b) was (ap one own) ∙ sym (kept-more (region_at out groups lists)
    (is_kind groups) n)
