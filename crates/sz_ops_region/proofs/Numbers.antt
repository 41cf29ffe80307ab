-- What follows of the labels of all cells, and of marks that are made by them, cell by cell.
--
-- The key idea: a cell with the label of an earlier one gets the number of the first cell with it, which is numbered
-- then if it was alone; so just the cells of one label have one number. Labels are one exactly where cells are
-- connected, and a neighbour of a cell that is high is connected to it: so a cell that is alone has none.
use Rattle.std.proofs.Common.{◌≡◌, ◌≢◌, ℕ, ◌+◌, ◌<◌, ◌≤◌, ◌==◌, ℤ, true, List, length}
use Rattle.std.proofs.Common.{get_or, Some, None, refl, sym, ap, ◌∙◌, arith, inl, inr}
use Rattle.std.proofs.Common.{get_or-set_other, get_or-set_same}
use Rattle.std.proofs.Math.ListN.{set, length-set}
use Rattle.std.proofs.Math.Nat.{lt_of_not-le}
use Rattle.std.proofs.lemmas.Bool.{cases_Bool, and_parts, true≢false, eqb-true}
use Rattle.std.proofs.lemmas.Bool.Decides.{eqb_tells}
use Rattle.sz_cells.specs.declared.Cell.{Cell}
use Rattle.sz_cells.specs.Extent.{size_of, cell_of}
use Rattle.sz_spec.specs.Values.{Grid}
use Rattle.sz_spec.proofs.Components.{connected-both_high}
use Rattle.sz_ops_region.specs.declared.marks.Mark.{Mark}
use Rattle.sz_ops_region.specs.declared.marks.Mark.TheVariants.{Low, Alone, Numbered}
use Rattle.sz_ops_region.specs.declared.sides.Side.{Side}
use Rattle.sz_ops_region.specs.declared.sides.Side.TheVariants.{Above, Below, Left, Right}
use Rattle.sz_ops_region.specs.Marks.{mark_at, number_in, number_of, is_tall}
use Rattle.sz_ops_region.specs.Sides.{is_on}
use Rattle.sz_ops_region.specs.Links.{HasLink, label_by}
use Rattle.sz_ops_region.specs.Linking.{Linking}
use Rattle.sz_ops_region.specs.Numbers.{high_at, near_at, joined_at, AreFirsts, AreLabels}
use Rattle.sz_ops_region.specs.Numbers.{AreGrouped, AreNumbers}
use Rattle.sz_ops_region.proofs.Neighbours.{some-side}
use Rattle.sz_ops_region.proofs.Roots.{link-inside}
use Rattle.sz_ops_region.proofs.Settled.{label-none, label-some}
use Rattle.sz_ops_region.proofs.Linked.{joined-back, joined-on, joined-near, joined-root}

-- ---- labels

-- words that are the labels by the roots of all cells
pub labels-are : (t : ℤ) (g : Grid) (first words : List ℕ) (root : ℕ → ℕ)
    → Linking t g first (size_of g.extent) root → length words ≡ length first
    → ((k : ℕ) → k < length first → get_or words k 0 ≡ label_by first root k) → AreLabels t g words
labels-are t g first words root f long done =
    let some : (k : ℕ) → HasLink first k → get_or words k 0 ≡ 1 + root k =
    λ k has. done k (link-inside first k has) ∙ label-some first root k has in
    let back : (k : ℕ) → 0 < get_or words k 0 → HasLink first k =
    λ k has. elim (eqb_tells (get_or first k 0) 0) [
      | inl none ↦
          let inside = link-inside words k has in
          absurd (omega (arith, has, done k (omega (arith, inside, long)), label-none first root k none.1))
      | inr other ↦ omega (arith, other.1)
    ] in
    let linked : (k : ℕ) → HasLink first k → HasLink first (root k) =
    λ k has.
    let inside = link-inside first k has in
    f.all (root k) (omega (arith, f.roots.low k, inside, f.long))
    (connected-both_high t g (cell_of g.extent k) (cell_of g.extent (root k)) (f.reach k has)).3 in
    record {
      long = long ∙ f.long;
      high = λ k has. (f.tall k (back k has)).1;
      all = λ k below high.
          let has = f.all k below high in omega (arith, some k has);
      firsts = λ k r is.
          let has = back k (omega (arith, is)) in
          let at : root k ≡ r = omega (arith, some k has, is) in
          let again : root (root k) ≡ root k = sym (joined-root t g first root k (root k) f (f.reach k has)) in (
            omega (arith, at, f.roots.low k),
            ap (λ (i : ℕ). get_or words i 0) (sym at) ∙ some (root k) (linked k has)
                ∙ ap (λ (i : ℕ). 1 + i) (again ∙ at),
          );
      one = λ k l has same.
          let first_k = back k has in
          let first_l = back l (omega (arith, has, same)) in
          let roots : root k ≡ root l = omega (arith, some k first_k, some l first_l, same) in
          joined-on t g k (root k) l (f.reach k first_k)
          (joined-back t g l (root k) (ap (joined_at t g l) roots ∙ f.reach l first_l));
      joined = λ k l below inside there.
          let both = connected-both_high t g (cell_of g.extent k) (cell_of g.extent l) there in
          some k (f.all k below both.1) ∙ ap (λ (i : ℕ). 1 + i) (joined-root t g first root k l f there)
          ∙ sym (some l (f.all l inside both.3));
    }

-- ---- marks

-- a mark after one more was made: it is that one, or was there before
set-cases : {P : Type 0} (xs : List Mark) (l k : ℕ) (m : Mark) → l < length xs
    → (k ≡ l → mark_at (set xs l m) k ≡ m → P) → (k ≢ l → mark_at (set xs l m) k ≡ mark_at xs k → P) → P
set-cases xs l k m inside same other =
    elim (eqb_tells k l) [
      | inl at ↦ same at.1 (ap (mark_at (set xs l m)) at.1 ∙ get_or-set_same xs l m Low inside)
      | inr apart ↦ other apart.1 (get_or-set_other xs l k m Low apart.1)
    ]

-- a number after one more was given: it is that one, or was there before
given-cases : {P : Type 0} (xs : List Mark) (l n k i : ℕ) → l < length xs
    → number_of (set xs l (Numbered n)) k ≡ Some i
    → (k ≡ l → i ≡ n → P) → (k ≢ l → number_of xs k ≡ Some i → P) → P
given-cases xs l n k i inside is same other =
    set-cases xs l k (Numbered n) inside
    (λ at here. same at (let there : Some n ≡ Some i = sym (ap number_in here) ∙ is in cc there))
    (λ apart here. other apart (sym (ap number_in here) ∙ is))

-- the cell that is given a number has it, and any other what it had
pub given-has : (xs : List Mark) (l n : ℕ) → l < length xs → number_of (set xs l (Numbered n)) l ≡ Some n
given-has xs l n inside = ap number_in (get_or-set_same xs l (Numbered n) Low inside)

given-other : (xs : List Mark) (l k : ℕ) (m : Mark) → k ≢ l → number_of (set xs l m) k ≡ number_of xs k
given-other xs l k m apart = ap number_in (get_or-set_other xs l k m Low apart)

-- a mark that is one has no other meaning
low-number : (xs : List Mark) (k i : ℕ) → mark_at xs k ≡ Low → number_of xs k ≡ Some i → ⊥
low-number xs k i low is = let both : None ≡ Some i = sym (ap number_in low) ∙ is in cc both

alone-number : (xs : List Mark) (k i : ℕ) → mark_at xs k ≡ Alone → number_of xs k ≡ Some i → ⊥
alone-number xs k i alone is = let both : None ≡ Some i = sym (ap number_in alone) ∙ is in cc both

low-alone : (xs : List Mark) (k : ℕ) → mark_at xs k ≡ Low → mark_at xs k ≡ Alone → ⊥
low-alone xs k low alone = let both : Low ≡ Alone = sym low ∙ alone in cc both

-- a high mark without a number is that of a cell that is alone
pub tall-alone : (m : Mark) → is_tall m ≡ true → ((i : ℕ) → m ≡ Numbered i → ⊥) → m ≡ Alone
tall-alone Low tall never = absurd (true≢false (sym tall))
tall-alone Alone tall never = refl
tall-alone (Numbered i) tall never = absurd (never i refl)

-- ---- cells in their groups

-- at first no cell is marked
pub grouped-none : (labels : List ℕ) (xs : List Mark) → length xs ≡ length labels
    → ((k : ℕ) → mark_at xs k ≡ Low) → AreGrouped labels xs 0 0
grouped-none labels xs long none = record {
  long = long;
  rest = λ k from. none k;
  low = λ k is. none k;
  tall = λ k below has. absurd (omega arith);
  alone = λ k l alone below same. absurd (omega arith);
  few = λ k i is. absurd (low-number xs k i (none k) is);
  used = λ i few. absurd (omega arith);
  one = λ k l i is also. absurd (low-number xs k i (none k) is);
  same = λ k l i is below same. absurd (omega arith);
}

-- a cell with a mark is one of those so far, and has a label
marked : (labels : List ℕ) (xs : List Mark) (count n k : ℕ) → AreGrouped labels xs count n
    → (mark_at xs k ≡ Low → ⊥) → (k < n) × (0 < get_or labels k 0)
marked labels xs count n k f some = (
  lt_of_not-le (λ from. some (f.rest k from)),
  elim (eqb_tells (get_or labels k 0) 0) [
    | inl none ↦ absurd (some (f.low k none.1))
    | inr has ↦ omega (arith, has.1)
  ],
)

has-mark : (labels : List ℕ) (xs : List Mark) (count n k i : ℕ) → AreGrouped labels xs count n
    → number_of xs k ≡ Some i → (k < n) × (0 < get_or labels k 0)
has-mark labels xs count n k i f is = marked labels xs count n k f (λ low. low-number xs k i low is)

-- a cell without a label is skipped
pub grouped-low : (labels : List ℕ) (xs : List Mark) (count n : ℕ) → AreGrouped labels xs count n
    → get_or labels n 0 ≡ 0 → AreGrouped labels xs count (n + 1)
grouped-low labels xs count n f none =
    let none-like : (k : ℕ) → get_or labels n 0 ≡ get_or labels k 0 → mark_at xs k ≡ Low =
    λ k same. f.low k (sym same ∙ none) in
    record {
      long = f.long;
      rest = λ k from. f.rest k (omega arith);
      low = f.low;
      tall = λ k below has.
          elim (eqb_tells k n) [
            | inl at ↦ absurd (omega (arith, has, none, ap (λ (i : ℕ). get_or labels i 0) at.1))
            | inr apart ↦ f.tall k (omega (arith, apart.1)) has
          ];
      alone = λ k l alone below same.
          elim (eqb_tells l n) [
            | inl at ↦
                absurd (low-alone xs k (none-like k (ap (λ (i : ℕ). get_or labels i 0) (sym at.1) ∙ same)) alone)
            | inr apart ↦ f.alone k l alone (omega (arith, apart.1)) same
          ];
      few = f.few;
      used = f.used;
      one = f.one;
      same = λ k l i is below same.
          elim (eqb_tells l n) [
            | inl at ↦
                absurd (low-number xs k i (none-like k (ap (λ (j : ℕ). get_or labels j 0) (sym at.1) ∙ same)) is)
            | inr apart ↦ f.same k l i is (omega (arith, apart.1)) same
          ];
    }

-- the first cell with its label is alone
pub grouped-alone : (labels : List ℕ) (xs : List Mark) (count n : ℕ) → AreGrouped labels xs count n
    → AreFirsts labels → n < length labels → get_or labels n 0 ≡ 1 + n
    → AreGrouped labels (set xs n Alone) count (n + 1)
grouped-alone labels xs count n f firsts below own =
    let ys = set xs n Alone in
    let inside : n < length xs = omega (arith, f.long) in
    let low_here = f.rest n (omega arith) in
    let first : (k : ℕ) → get_or labels n 0 ≡ get_or labels k 0 → n ≤ k =
    λ k same. (firsts k n (sym same ∙ own)).0 in
    let was : (k i : ℕ) → number_of ys k ≡ Some i → (k ≢ n) × (number_of xs k ≡ Some i) =
    λ k i is. set-cases xs n k Alone inside
    (λ at here. absurd (alone-number ys k i here is))
    (λ apart here. (apart, sym (ap number_in here) ∙ is)) in
    record {
      long = length-set xs n Alone ∙ f.long;
      rest = λ k from. get_or-set_other xs n k Alone Low (λ at. omega (arith, at)) ∙ f.rest k (omega arith);
      low = λ k is.
          get_or-set_other xs n k Alone Low
          (λ at. omega (arith, is, own, ap (λ (i : ℕ). get_or labels i 0) at)) ∙ f.low k is;
      tall = λ k under has. set-cases xs n k Alone inside
          (λ at here. ap is_tall here)
          (λ apart here. ap is_tall here ∙ f.tall k (omega (arith, apart)) has);
      alone = λ k l alone under same. set-cases xs n k Alone inside
          (λ at here.
          let from = first l (ap (λ (i : ℕ). get_or labels i 0) (sym at) ∙ sym same) in omega (arith, from, at))
          (λ apart here.
          let old = sym here ∙ alone in
          let before = (marked labels xs count n k f (λ low. low-alone xs k low old)).0 in
          elim (eqb_tells l n) [
            | inl at ↦
                let from = first k (ap (λ (i : ℕ). get_or labels i 0) (sym at.1) ∙ same) in
                absurd (omega (arith, from, before))
            | inr other ↦ f.alone k l old (omega (arith, other.1)) same
          ]);
      few = λ k i is. f.few k i (was k i is).1;
      used = λ i few.
          let has = f.used i few in
          let apart : has.0 ≢ n = λ at. low-number xs has.0 i (ap (mark_at xs) at ∙ low_here) has.1 in
          (has.0, given-other xs n has.0 Alone apart ∙ has.1);
      one = λ k l i is also. f.one k l i (was k i is).1 (was l i also).1;
      same = λ k l i is under same.
          let old = (was k i is).1 in
          let before = (has-mark labels xs count n k i f old).0 in
          elim (eqb_tells l n) [
            | inl at ↦
                let from = first k (ap (λ (j : ℕ). get_or labels j 0) (sym at.1) ∙ same) in
                absurd (omega (arith, from, before))
            | inr other ↦ given-other xs n l Alone other.1 ∙ f.same k l i old (omega (arith, other.1)) same
          ];
    }

-- a cell that was alone gets the next number
pub grouped-first : (labels : List ℕ) (xs : List Mark) (count n r : ℕ) → AreGrouped labels xs count n
    → mark_at xs r ≡ Alone → AreGrouped labels (set xs r (Numbered count)) (count + 1) n
grouped-first labels xs count n r f alone =
    let ys = set xs r (Numbered count) in
    let here = marked labels xs count n r f (λ low. low-alone xs r low alone) in
    let inside : r < length xs = omega (arith, f.long, link-inside labels r here.1) in
    let never : (i : ℕ) → number_of xs r ≡ Some i → ⊥ = λ i is. alone-number xs r i alone is in
    record {
      long = length-set xs r (Numbered count) ∙ f.long;
      rest = λ k from.
          get_or-set_other xs r k (Numbered count) Low (λ at. omega (arith, at, here.0)) ∙ f.rest k from;
      low = λ k is.
          get_or-set_other xs r k (Numbered count) Low
          (λ at. omega (arith, is, here.1, ap (λ (i : ℕ). get_or labels i 0) at)) ∙ f.low k is;
      tall = λ k under has. set-cases xs r k (Numbered count) inside
          (λ at now. ap is_tall now)
          (λ apart now. ap is_tall now ∙ f.tall k under has);
      alone = λ k l lone under same. set-cases xs r k (Numbered count) inside
          (λ at now. let both : Numbered count ≡ Alone = sym now ∙ lone in cc both)
          (λ apart now. f.alone k l (sym now ∙ lone) under same);
      few = λ k i is. given-cases xs r count k i inside is
          (λ at now. omega (arith, now)) (λ apart now. omega (arith, f.few k i now));
      used = λ i few.
          elim (eqb_tells i count) [
            | inl at ↦ (r, given-has xs r count inside ∙ ap (λ (j : ℕ). Some j) (sym at.1))
            | inr other ↦
                let has = f.used i (omega (arith, other.1)) in
                let apart : has.0 ≢ r = λ at. never i (ap (number_of xs) (sym at) ∙ has.1) in
                (has.0, given-other xs r has.0 (Numbered count) apart ∙ has.1)
          ];
      one = λ k l i is also. given-cases xs r count k i inside is
          (λ at now. given-cases xs r count l i inside also
          (λ at_l now_l. ap (λ (j : ℕ). get_or labels j 0) (at ∙ sym at_l))
          (λ apart now_l. absurd (omega (arith, now, f.few l i now_l))))
          (λ apart now. given-cases xs r count l i inside also
          (λ at_l now_l. absurd (omega (arith, now_l, f.few k i now)))
          (λ apart_l now_l. f.one k l i now now_l));
      same = λ k l i is under same. given-cases xs r count k i inside is
          (λ at now.
          let is_r = f.alone r l alone under (same ∙ ap (λ (j : ℕ). get_or labels j 0) at) in
          ap (number_of ys) is_r ∙ given-has xs r count inside ∙ ap (λ (j : ℕ). Some j) (sym now))
          (λ apart now.
          let old = f.same k l i now under same in
          let other : l ≢ r = λ at. never i (ap (number_of xs) (sym at) ∙ old) in
          given-other xs r l (Numbered count) other ∙ old);
    }

-- a further cell gets the number of the first one with its label
pub grouped-more : (labels : List ℕ) (xs : List Mark) (count n r i : ℕ) → AreGrouped labels xs count n
    → AreFirsts labels → n < length labels → get_or labels n 0 ≡ 1 + r → r ≢ n → number_of xs r ≡ Some i
    → AreGrouped labels (set xs n (Numbered i)) count (n + 1)
grouped-more labels xs count n r i f firsts below is_r apart_r has_r =
    let ys = set xs n (Numbered i) in
    let inside : n < length xs = omega (arith, f.long) in
    let low_here = f.rest n (omega arith) in
    let before : r < n = omega (arith, (firsts n r is_r).0, apart_r) in
    let like : get_or labels n 0 ≡ get_or labels r 0 = is_r ∙ sym (firsts n r is_r).1 in
    let label_at : (k : ℕ) → k ≡ n → get_or labels k 0 ≡ get_or labels r 0 =
    λ k at. ap (λ (j : ℕ). get_or labels j 0) at ∙ like in
    record {
      long = length-set xs n (Numbered i) ∙ f.long;
      rest = λ k from. get_or-set_other xs n k (Numbered i) Low (λ at. omega (arith, at)) ∙ f.rest k (omega arith);
      low = λ k is.
          get_or-set_other xs n k (Numbered i) Low
          (λ at. omega (arith, is, is_r, ap (λ (j : ℕ). get_or labels j 0) at)) ∙ f.low k is;
      tall = λ k under has. set-cases xs n k (Numbered i) inside
          (λ at here. ap is_tall here)
          (λ apart here. ap is_tall here ∙ f.tall k (omega (arith, apart)) has);
      alone = λ k l lone under same. set-cases xs n k (Numbered i) inside
          (λ at here. let both : Numbered i ≡ Alone = sym here ∙ lone in cc both)
          (λ apart here.
          let old = sym here ∙ lone in
          elim (eqb_tells l n) [
            | inl at ↦
                let is_k = f.alone k r old before (sym (label_at l at.1) ∙ same) in
                absurd (alone-number xs r i (ap (mark_at xs) is_k ∙ old) has_r)
            | inr other ↦ f.alone k l old (omega (arith, other.1)) same
          ]);
      few = λ k j is. given-cases xs n i k j inside is
          (λ at now. omega (arith, now, f.few r i has_r)) (λ apart now. f.few k j now);
      used = λ j few.
          let has = f.used j few in
          let apart : has.0 ≢ n = λ at. low-number xs has.0 j (ap (mark_at xs) at ∙ low_here) has.1 in
          (has.0, given-other xs n has.0 (Numbered i) apart ∙ has.1);
      one = λ k l j is also. given-cases xs n i k j inside is
          (λ at now. given-cases xs n i l j inside also
          (λ at_l now_l. ap (λ (m : ℕ). get_or labels m 0) (at ∙ sym at_l))
          (λ apart now_l.
          label_at k at ∙ f.one r l j (has_r ∙ ap (λ (m : ℕ). Some m) (sym now)) now_l))
          (λ apart now. given-cases xs n i l j inside also
          (λ at_l now_l.
          f.one k r j now (has_r ∙ ap (λ (m : ℕ). Some m) (sym now_l)) ∙ sym (label_at l at_l))
          (λ apart_l now_l. f.one k l j now now_l));
      same = λ k l j is under same.
          let old : (m : ℕ) → m < n → get_or labels m 0 ≡ get_or labels l 0 → number_of xs m ≡ Some j =
          λ m early alike. given-cases xs n i k j inside is
          (λ at now. f.same r m j (has_r ∙ ap (λ (p : ℕ). Some p) (sym now)) early
          (alike ∙ same ∙ label_at k at))
          (λ apart now. f.same k m j now early (alike ∙ same)) in
          elim (eqb_tells l n) [
            | inl at ↦
                let there : Some i ≡ Some j = sym has_r ∙ old r before (sym (label_at l at.1)) in
                ap (number_of ys) at.1 ∙ given-has xs n i inside ∙ there
            | inr other ↦ given-other xs n l (Numbered i) other.1 ∙ old l (omega (arith, other.1)) refl
          ];
    }

-- ---- all cells

-- no cell is beside itself
on-itself : (side : Side) (c : Cell) → is_on side c c ≡ true → ⊥
on-itself Above c on =
    omega (arith, eqb-true (c.row + 1) c.row (and_parts (c.col == c.col) (c.row + 1 == c.row) on).1)
on-itself Below c on =
    omega (arith, eqb-true (c.row + 1) c.row (and_parts (c.col == c.col) (c.row + 1 == c.row) on).1)
on-itself Left c on =
    omega (arith, eqb-true (c.col + 1) c.col (and_parts (c.row == c.row) (c.col + 1 == c.col) on).1)
on-itself Right c on =
    omega (arith, eqb-true (c.col + 1) c.col (and_parts (c.row == c.row) (c.col + 1 == c.col) on).1)

near-itself : (g : Grid) (k : ℕ) → near_at g k k ≡ true → ⊥
near-itself g k near =
    some-side {P = ⊥} g.extent (cell_of g.extent k) (cell_of g.extent k) near
    (λ side on. on-itself side (cell_of g.extent k) on)

-- once all cells have their marks, these are right
pub numbers-right : (t : ℤ) (g : Grid) (labels : List ℕ) (xs : List Mark) (count : ℕ)
    → AreLabels t g labels → AreGrouped labels xs count (length labels) → AreNumbers t g xs count
numbers-right t g labels xs count are f =
    let n = length labels in
    let of_label : (k : ℕ) → 0 < get_or labels k 0 → k < size_of g.extent =
    λ k has. omega (arith, link-inside labels k has, are.long) in
    record {
      long = f.long ∙ are.long;
      tall = λ k below.
          elim (cases_Bool (high_at t g k)) [
            | inl high ↦ f.tall k (omega (arith, are.long)) (are.all k below high) ∙ sym high
            | inr low ↦
                let none : get_or labels k 0 ≡ 0 =
                elim (eqb_tells (get_or labels k 0) 0) [
                  | inl is ↦ is.1
                  | inr some ↦ absurd (true≢false (sym (are.high k (omega (arith, some.1))) ∙ low))
                ] in
                ap is_tall (f.low k none) ∙ sym low
          ];
      apart = λ k alone l below high.
          elim (cases_Bool (near_at g k l)) [
            | inr far ↦ far
            | inl near ↦
                let has = (marked labels xs count n k f (λ low. low-alone xs k low alone)).1 in
                let inside = of_label k has in
                let there = joined-near t g k l inside below (are.high k has) high near in
                let itself : l ≡ k = f.alone k l alone (omega (arith, are.long))
                (sym (are.joined k l inside below there)) in
                absurd (near-itself g k (ap (near_at g k) (sym itself) ∙ near))
          ];
      high = λ k i is.
          let has = (has-mark labels xs count n k i f is).1 in (of_label k has, are.high k has, f.few k i is);
      used = f.used;
      one = λ k l i is also.
          are.one k l (has-mark labels xs count n k i f is).1 (f.one k l i is also);
      joined = λ k l i is below there.
          let has = (has-mark labels xs count n k i f is).1 in
          f.same k l i is (omega (arith, are.long)) (sym (are.joined k l (of_label k has) below there));
    }
