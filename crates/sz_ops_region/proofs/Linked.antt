-- What follows of links that are made cell by cell, and what the labels are in the end.
--
-- The key idea: a cell gets a root of a high neighbour to its left or above, and these have one root by then, so that
-- neighbours always have one root. A list of high neighbours never leaves the cells of one root; and the root, which is
-- connected to the cell, is no later than it. So it is the least of all cells that are connected to it.
use Rattle.std.proofs.Common.{◌≡◌, ◌≢◌, ℕ, zero, suc, ◌+◌, ◌-◌, ◌*◌, ◌<◌, ◌≤◌, ℤ, true, false, ◌==◌}
use Rattle.std.proofs.Common.{List, [], ◌∷◌, length, map, get_or, refl, sym, ap, ap₂, subst, ◌∙◌, arith, inl, inr}
use Rattle.std.proofs.Common.{Some, None, get_or-set_same}
use Rattle.std.specs.Prelude.{pos, ◌⊎◌, nat_lt, if◌then◌else◌}
use Rattle.std.specs.Prelude.{unwrap_or}
use Rattle.std.specs.List.{range_with_len, slice_get}
use Rattle.std.proofs.lemmas.Option.{unwrap_or-slice_get}
use Rattle.sz_spec.specs.Operators.Clean.{is_at_least}
use Rattle.std.proofs.Math.ListN.{set, length-set}
use Rattle.std.proofs.lemmas.Bool.{cases_Bool, true≢false, eq-eqb, ne_eqb, and_parts, and_from, eqb-true, ltb-true}
use Rattle.std.proofs.lemmas.Bool.{ltb-false}
use Rattle.std.proofs.lemmas.Bool.Decides.{eqb_tells}
use Rattle.sz_cells.specs.declared.Cell.{Cell}
use Rattle.sz_cells.specs.Extent.{Extent, size_of, holds, index_of, cell_of, layer_of}
use Rattle.sz_cells.proofs.Sets.{cell-held, index-cell, cell-index, index-below}
use Rattle.sz_spec.specs.Values.{Grid}
use Rattle.sz_spec.specs.Operators.Regions.{is_high, are_neighbours, labelled_at}
use Rattle.sz_spec.specs.LawsRegions.{Leads}
use Rattle.sz_spec.proofs.Components.{neighbours-flip, component-closed, connected-self, connected-back}
use Rattle.sz_spec.proofs.Components.{connected-parts, connected-led, leads-first, label-low, label-high}
use Rattle.sz_ops_region.specs.declared.sides.Side.{Side}
use Rattle.sz_ops_region.specs.declared.sides.Side.TheVariants.{Above, Below, Left, Right}
use Rattle.sz_ops_region.specs.Sides.{is_on}
use Rattle.sz_ops_region.specs.Numbers.{high_at, near_at, joined_at}
use Rattle.sz_ops_region.specs.Links.{HasLink, AreLinks, KeepLinks, AreRoots, IsWordBeside, merged, merged_by}
use Rattle.sz_ops_region.specs.Links.{label_by}
use Rattle.sz_ops_region.specs.Linking.{Linking, AreLinked, IsWordOn}
use Rattle.sz_ops_region.proofs.Neighbours.{some-side, side-near}
use Rattle.sz_ops_region.proofs.Sets.{map-range_ext}
use Rattle.sz_ops_region.proofs.Roots.{set-cases, merged-cases, merged-ap, merged_by-both}
use Rattle.sz_ops_region.proofs.Roots.{merged_by-one, merged_by-ap, roots-same}

-- ---- connected cells, by their indexes

joined-self : (t : ℤ) (g : Grid) (k : ℕ) → k < size_of g.extent → high_at t g k ≡ true → joined_at t g k k ≡ true
joined-self t g k below high = connected-self t g (cell_of g.extent k) (cell-held g.extent k below) high

pub joined-back : (t : ℤ) (g : Grid) (k l : ℕ) → joined_at t g k l ≡ true → joined_at t g l k ≡ true
joined-back t g k l there = connected-back t g (cell_of g.extent k) (cell_of g.extent l) there

pub joined-on : (t : ℤ) (g : Grid) (k l m : ℕ) → joined_at t g k l ≡ true → joined_at t g l m ≡ true
    → joined_at t g k m ≡ true
joined-on t g k l m first second =
    connected-parts t g (cell_of g.extent k) (cell_of g.extent l) (cell_of g.extent m) first second

pub joined-near : (t : ℤ) (g : Grid) (k l : ℕ) → k < size_of g.extent → l < size_of g.extent → high_at t g k ≡ true
    → high_at t g l ≡ true → near_at g k l ≡ true → joined_at t g k l ≡ true
joined-near t g k l below inside high tall near =
    component-closed t g (cell_of g.extent k) (cell_of g.extent k) (cell_of g.extent l)
    (joined-self t g k below high) (cell-held g.extent l inside) tall near

-- ---- a cell more

-- a cell that is not high
linking-skip : (t : ℤ) (g : Grid) (words : List ℕ) (n : ℕ) → AreLinked t g words n → high_at t g n ≡ false
    → AreLinked t g words (n + 1)
linking-skip t g words n are low =
    let f = are.linking in
    let earlier : (k : ℕ) → k < n + 1 → high_at t g k ≡ true → k < n =
    λ k below high. elim (eqb_tells k n) [
      | inl at ↦ absurd (true≢false (sym high ∙ ap (high_at t g) at.1 ∙ low))
      | inr apart ↦ omega (arith, apart.1)
    ] in
    record {
      root = are.root;
      linking = record {
        long = f.long;
        links = f.links;
        roots = f.roots;
        tall = λ k has. let facts = f.tall k has in (omega arith, facts.1);
        all = λ k below high. f.all k (earlier k below high) high;
        reach = f.reach;
        fresh = λ k from. f.fresh k (omega arith);
        united = λ k l below inside high tall near.
            f.united k l (earlier k below high) (earlier l inside tall) high tall near;
      };
    }

-- the root of a cell that is linked to another one, and of all others
root_with : (ℕ → ℕ) → ℕ → ℕ → ℕ → ℕ
root_with root n q k = if k == n then root q else root k

with-it : (root : ℕ → ℕ) (n q k : ℕ) → k ≡ n → root_with root n q k ≡ root q
unfolding root_with
with-it root n q k is = rw (eq-eqb k n is) refl

with-other : (root : ℕ → ℕ) (n q k : ℕ) → k ≢ n → root_with root n q k ≡ root k
unfolding root_with
with-other root n q k not = rw (ne_eqb k n not) refl

-- a high cell, which is linked to itself or to a cell of the root of all its high neighbours so far
linking-more : (t : ℤ) (g : Grid) (words : List ℕ) (n q : ℕ) (root : ℕ → ℕ) → Linking t g words n root
    → n < size_of g.extent → high_at t g n ≡ true → q ≤ n → (q ≢ n → HasLink words q)
    → joined_at t g n (root q) ≡ true
    → ((l : ℕ) → l < n → high_at t g l ≡ true → near_at g n l ≡ true → root l ≡ root q)
    → Linking t g (set words n (1 + q)) (n + 1) (root_with root n q)
linking-more t g words n q root f below high low has joined near =
    let now = root_with root n q in
    let later = set words n (1 + q) in
    let inside : n < length words = omega (arith, f.long) in
    let none : (k : ℕ) → get_or words k 0 ≡ 1 + n → ⊥ =
    λ k is.
    let there = f.tall n (f.links.linked k n is) in omega (arith, there.0) in
    let at_q : now q ≡ root q =
    elim (eqb_tells q n) [
      | inl at ↦ with-it root n q q at.1
      | inr apart ↦ with-other root n q q apart.1
    ] in
    let stays : (k : ℕ) → HasLink words k → HasLink later k =
    λ k had. set-cases {P = HasLink later k} words n (1 + q) k inside
    (λ here is. omega (arith, is)) (λ apart is. omega (arith, is, had)) in
    let itself : HasLink later n = omega (arith, get_or-set_same words n (1 + q) 0 inside) in
    let known : (l : ℕ) → l < n + 1 → high_at t g l ≡ true → near_at g n l ≡ true → now l ≡ root q =
    λ l under tall beside. elim (eqb_tells l n) [
      | inl at ↦ with-it root n q l at.1
      | inr apart ↦ with-other root n q l apart.1 ∙ near l (omega (arith, apart.1)) tall beside
    ] in
    record {
      long = length-set words n (1 + q) ∙ f.long;
      links = record {
        down = λ k p is. set-cases words n (1 + q) k inside
            (λ here at. omega (arith, here, at, is, low)) (λ apart at. f.links.down k p (sym at ∙ is));
        linked = λ k p is. set-cases {P = HasLink later p} words n (1 + q) k inside
            (λ here at.
            let same : p ≡ q = omega (arith, at, is) in
            subst (HasLink later) (sym same) (elim (eqb_tells q n) [
              | inl own ↦ subst (HasLink later) (sym own.1) itself
              | inr apart ↦ stays q (has apart.1)
            ]))
            (λ apart at. stays p (f.links.linked k p (sym at ∙ is)));
      };
      roots = record {
        on = λ k p is. set-cases words n (1 + q) k inside
            (λ here at.
            let same : p ≡ q = omega (arith, at, is) in
            ap now same ∙ at_q ∙ sym (with-it root n q k here))
            (λ apart at.
            let old = sym at ∙ is in
            with-other root n q p (λ equal. none k (old ∙ ap (λ (i : ℕ). 1 + i) equal))
            ∙ f.roots.on k p old ∙ sym (with-other root n q k apart));
        own = λ k is. set-cases words n (1 + q) k inside
            (λ here at.
            let same : q ≡ n = omega (arith, here, at, is) in
            with-it root n q k here ∙ ap root same ∙ f.fresh n (omega arith) ∙ sym here)
            (λ apart at. with-other root n q k apart ∙ f.roots.own k (sym at ∙ is));
        low = λ k. elim (eqb_tells k n) [
          | inl at ↦ omega (arith, with-it root n q k at.1, f.roots.low q, at.1)
          | inr apart ↦ omega (arith, with-other root n q k apart.1, f.roots.low k)
        ];
      };
      tall = λ k there. set-cases words n (1 + q) k inside
          (λ here at. (omega (arith, here), ap (high_at t g) here ∙ high))
          (λ apart at.
          let facts = f.tall k (omega (arith, at, there)) in (omega (arith, facts.0), facts.1));
      all = λ k under tall. elim (eqb_tells k n) [
        | inl at ↦ subst (HasLink later) (sym at.1) itself
        | inr apart ↦ stays k (f.all k (omega (arith, apart.1)) tall)
      ];
      reach = λ k there. set-cases words n (1 + q) k inside
          (λ here at. ap₂ (λ (a b : ℕ). joined_at t g a b) here (with-it root n q k here) ∙ joined)
          (λ apart at. ap (joined_at t g k) (with-other root n q k apart) ∙ f.reach k (omega (arith, at, there)));
      fresh = λ k from. with-other root n q k (λ at. omega (arith, at)) ∙ f.fresh k (omega arith);
      united = λ k l under beneath tall_k tall_l beside.
          elim (eqb_tells k n) [
            | inl at ↦
                with-it root n q k at.1
                ∙ sym (known l beneath tall_l (ap (λ (a : ℕ). near_at g a l) (sym at.1) ∙ beside))
            | inr apart ↦
                elim (eqb_tells l n) [
                  | inl here ↦
                      let back : near_at g n k ≡ true =
                      neighbours-flip g.extent (cell_of g.extent n) (cell_of g.extent k)
                      ∙ ap (near_at g k) (sym here.1) ∙ beside in
                      known k under tall_k back ∙ sym (with-it root n q l here.1)
                  | inr other ↦
                      with-other root n q k apart.1
                      ∙ f.united k l (omega (arith, apart.1)) (omega (arith, other.1)) tall_k tall_l beside
                      ∙ sym (with-other root n q l other.1)
                ]
          ];
    }

-- ---- cells are united

-- two connected cells are united
linking-united : (t : ℤ) (g : Grid) (words later : List ℕ) (n a b : ℕ) (root : ℕ → ℕ) → Linking t g words n root
    → AreLinks later → KeepLinks words later → length later ≡ length words → AreRoots later (merged root a b)
    → HasLink words a → HasLink words b → joined_at t g a b ≡ true → Linking t g later n (merged root a b)
linking-united t g words later n a b root f links kept long roots has_a has_b joined =
    let now = merged root a b in
    let to_b = joined-on t g a b (root b) joined (f.reach b has_b) in
    record {
      long = long ∙ f.long;
      links = links;
      roots = roots;
      tall = λ k has. f.tall k ((kept k).1 has);
      all = λ k below high. (kept k).0 (f.all k below high);
      reach = λ k has.
          let old = f.reach k ((kept k).1 has) in
          merged-cases {P = joined_at t g k (now k) ≡ true} root a b k
          (λ is. ap (joined_at t g k) is ∙ old)
          (λ is from.
          let from_a : joined_at t g k (root a) ≡ true = ap (joined_at t g k) (sym from) ∙ old in
          let to_a = joined-on t g k (root a) a from_a (joined-back t g a (root a) (f.reach a has_a)) in
          ap (joined_at t g k) is ∙ joined-on t g k a (root b) to_a to_b)
          (λ is from.
          let from_b : joined_at t g k (root b) ≡ true = ap (joined_at t g k) (sym from) ∙ old in
          let back = joined-on t g k (root b) a from_b (joined-back t g a (root b) to_b) in
          ap (joined_at t g k) is ∙ joined-on t g k a (root a) back (f.reach a has_a));
      fresh = λ k from.
          let own = f.fresh k from in
          let low_a = (f.tall a has_a).0 in
          let low_b = (f.tall b has_b).0 in
          merged-cases {P = now k ≡ k} root a b k
          (λ is. is ∙ own)
          (λ is from_a. absurd (omega (arith, from_a, own, f.roots.low a, low_a)))
          (λ is from_b. absurd (omega (arith, from_b, own, f.roots.low b, low_b)));
      united = λ k l below inside high tall near. merged-ap root a b k l (f.united k l below inside high tall near);
    }

-- no cells are united: links are made anew, and all roots stay
linking-kept : (t : ℤ) (g : Grid) (words later : List ℕ) (n : ℕ) (root now : ℕ → ℕ) → Linking t g words n root
    → AreLinks later → KeepLinks words later → length later ≡ length words → AreRoots later now
    → ((k : ℕ) → now k ≡ root k) → Linking t g later n now
linking-kept t g words later n root now f links kept long roots same = record {
  long = long ∙ f.long;
  links = links;
  roots = roots;
  tall = λ k has. f.tall k ((kept k).1 has);
  all = λ k below high. (kept k).0 (f.all k below high);
  reach = λ k has. ap (joined_at t g k) (same k) ∙ f.reach k ((kept k).1 has);
  fresh = λ k from. same k ∙ f.fresh k from;
  united = λ k l below inside high tall near. same k ∙ f.united k l below inside high tall near ∙ sym (same l);
}

-- ---- a cell is looked at

-- what is done to the links for a cell between the words to its left and above it
abbrev pub AreUnited : List ℕ → List ℕ → ℕ → ℕ → ℕ → ℕ → Type 0
AreUnited words later n left above word = AreLinks later × KeepLinks words later × (length later ≡ length words)
    × ((root : ℕ → ℕ) → AreRoots words root → AreRoots later (merged_by root left above)
    × IsWordBeside later (merged_by root left above) n left above word)

-- a high cell is connected to the cell to which a high neighbour is linked
joined-word : (t : ℤ) (g : Grid) (words : List ℕ) (n : ℕ) (root : ℕ → ℕ) (cell : Cell) (side : Side) (word p : ℕ)
    → Linking t g words n root → holds g.extent cell ≡ true → high_at t g (index_of g.extent cell) ≡ true
    → IsWordOn words g.extent cell side word → word ≡ 1 + p
    → HasLink words p × (joined_at t g (index_of g.extent cell) p ≡ true)
joined-word t g words n root cell side word p f held high on is =
    let e = g.extent in
    let one = on.0 (omega (arith, is)) in
    let l = index_of e one.0 in
    let at : get_or words l 0 ≡ 1 + p = sym one.3 ∙ is in
    let linked : HasLink words l = omega (arith, at) in
    let has = f.links.linked l p at in
    let near : near_at g (index_of e cell) l ≡ true =
    ap₂ (λ (a b : Cell). are_neighbours e a b) (cell-index e cell held) (cell-index e one.0 one.1) ∙ one.2 in
    let beside = joined-near t g (index_of e cell) l (index-below e cell held) (index-below e one.0 one.1) high
    (f.tall l linked).1 near in
    let root_l = joined-on t g (index_of e cell) l (root l) beside (f.reach l linked) in
    let root_p : joined_at t g p (root l) ≡ true = ap (joined_at t g p) (sym (f.roots.on l p at)) ∙ f.reach p has in (
      has,
      joined-on t g (index_of e cell) (root l) p root_l (joined-back t g p (root l) root_p),
    )

-- the links of the cells before a high one, after those beside it were united
linking-beside : (t : ℤ) (g : Grid) (words later : List ℕ) (root : ℕ → ℕ) (cell : Cell) (left above word : ℕ)
    → Linking t g words (index_of g.extent cell) root → holds g.extent cell ≡ true
    → high_at t g (index_of g.extent cell) ≡ true
    → IsWordOn words g.extent cell Left left → IsWordOn words g.extent cell Above above
    → AreUnited words later (index_of g.extent cell) left above word
    → Linking t g later (index_of g.extent cell) (merged_by root left above)
linking-beside t g words later root cell left above word f held high on_left on_above united =
    let n = index_of g.extent cell in
    let now = merged_by root left above in
    let roots = (united.3 root f.roots).0 in
    elim (eqb_tells left 0) [
      | inl none ↦
          linking-kept t g words later n root now f united.0 united.1 united.2 roots
          (λ k. merged_by-one root left above k (inl none.1))
      | inr one ↦
          elim (eqb_tells above 0) [
            | inl none ↦
                linking-kept t g words later n root now f united.0 united.1 united.2 roots
                (λ k. merged_by-one root left above k (inr none.1))
            | inr other ↦
                let a = left - 1 in
                let b = above - 1 in
                let some_left : 0 < left = omega (arith, one.1) in
                let some_above : 0 < above = omega (arith, other.1) in
                let both : (k : ℕ) → now k ≡ merged root a b k =
                λ k. merged_by-both root left above k some_left some_above in
                let to_a =
                joined-word t g words n root cell Left left a f held high on_left (omega (arith, some_left)) in
                let to_b = joined-word t g words n root cell Above above b f held high on_above
                (omega (arith, some_above)) in
                let whole = linking-united t g words later n a b root f united.0 united.1 united.2
                (roots-same later now (merged root a b) (λ k. sym (both k)) roots) to_a.0 to_b.0
                (joined-on t g a n b (joined-back t g n a to_a.1) to_b.1) in
                linking-kept t g later later n (merged root a b) now whole united.0
                (λ k. (λ h. h, λ h. h)) refl roots both
          ]
    ]

-- ---- the cell to the left

-- the first cell of a row has none
pub left-first : (words : List ℕ) (e : Extent) (row : ℕ) → IsWordOn words e (record { row = row; col = 0 }) Left 0
left-first words e row = (
  λ some. absurd (omega (arith, some)),
  λ c held near on.
      let both = and_parts (row == c.row) (c.col + 1 == 0) on in
      absurd (omega (arith, eqb-true (c.col + 1) 0 both.1)),
)

-- that of any other cell is the one before it
pub left-next : (words : List ℕ) (e : Extent) (row col word : ℕ)
    → holds e (record { row = row; col = col }) ≡ true
    → word ≡ get_or words (index_of e (record { row = row; col = col })) 0
    → IsWordOn words e (record { row = row; col = col + 1 }) Left word
left-next words e row col word held is =
    let before : Cell = record { row = row; col = col } in
    let cell : Cell = record { row = row; col = col + 1 } in
    let on : is_on Left cell before ≡ true = and_from _ _ (eq-eqb row row refl) (eq-eqb (col + 1) (col + 1) refl) in (
      λ some. (before, held, side-near e Left cell before on (eq-eqb (layer_of e cell) (layer_of e before) refl), is),
      λ c there near beside.
          let both = and_parts (row == c.row) (c.col + 1 == col + 1) beside in
          let same_col : c.col ≡ col = omega (arith, eqb-true (c.col + 1) (col + 1) both.1) in
          is ∙ ap₂ (λ (r k : ℕ). get_or words (r * e.cols + k) 0) (eqb-true row c.row both.0) (sym same_col),
    )

-- a neighbour below or to the right comes later
later-side : (e : Extent) (cell c : Cell) (side : Side) → is_on side cell c ≡ true
    → index_of e c < index_of e cell → (side ≡ Left) ⊎ (side ≡ Above)
later-side e cell c Left on before = inl refl
later-side e cell c Above on before = inr refl
later-side e cell c Below on before =
    let both = and_parts (cell.col == c.col) (cell.row + 1 == c.row) on in
    let row : c.row * e.cols ≡ (cell.row + 1) * e.cols =
    ap (λ (r : ℕ). r * e.cols) (sym (eqb-true (cell.row + 1) c.row both.1)) in
    absurd (omega (arith, row, eqb-true cell.col c.col both.0, before))
later-side e cell c Right on before =
    let both = and_parts (cell.row == c.row) (cell.col + 1 == c.col) on in
    let row : c.row * e.cols ≡ cell.row * e.cols =
    ap (λ (r : ℕ). r * e.cols) (sym (eqb-true cell.row c.row both.0)) in
    absurd (omega (arith, row, eqb-true (cell.col + 1) c.col both.1, before))

-- the cell is linked by the word
pub linked-high : (t : ℤ) (g : Grid) (words later : List ℕ) (cell : Cell) (left above word : ℕ)
    → AreLinked t g words (index_of g.extent cell) → holds g.extent cell ≡ true
    → high_at t g (index_of g.extent cell) ≡ true
    → IsWordOn words g.extent cell Left left → IsWordOn words g.extent cell Above above
    → AreUnited words later (index_of g.extent cell) left above word
    → AreLinked t g (set later (index_of g.extent cell) word) (index_of g.extent cell + 1)
linked-high t g words later cell left above word are held high on_left on_above united =
    let e = g.extent in
    let n = index_of e cell in
    let root = are.root in
    let f = are.linking in
    let now = merged_by root left above in
    let beside = (united.3 root f.roots).1 in
    let whole = linking-beside t g words later root cell left above word f held high on_left on_above united in
    let q = word - 1 in
    let is : word ≡ 1 + q = omega (arith, beside.some) in
    let below = index-below e cell held in
    let has : q ≢ n → HasLink later q =
    λ apart. elim (eqb_tells (left + above) 0) [
      | inl none ↦ absurd (apart (omega (arith, is, beside.itself (omega (arith, none.1)) (omega (arith, none.1)))))
      | inr some ↦ beside.linked q (omega (arith, some.1)) is
    ] in
    let low : q ≤ n =
    elim (eqb_tells q n) [
      | inl at ↦ omega (arith, at.1)
      | inr apart ↦ omega (arith, (whole.tall q (has apart.1)).0)
    ] in
    let by : (side : Side) (w p : ℕ) → IsWordOn words e cell side w → w ≡ 1 + p → now p ≡ now q
    → joined_at t g n (now q) ≡ true =
    λ side w p on at same.
    let there = joined-word t g words n root cell side w p f held high on at in
    joined-on t g n p (now q) there.1 (ap (joined_at t g p) (sym same) ∙ whole.reach p ((united.1 p).0 there.0)) in
    let joined : joined_at t g n (now q) ≡ true =
    elim (eqb_tells left 0) [
      | inr one ↦
          let at : left ≡ 1 + (left - 1) = omega (arith, one.1) in
          by Left left (left - 1) on_left at (beside.left (left - 1) q at is)
      | inl no_left ↦
          elim (eqb_tells above 0) [
            | inr one ↦
                let at : above ≡ 1 + (above - 1) = omega (arith, one.1) in
                by Above above (above - 1) on_above at (beside.above (above - 1) q at is)
            | inl no_above ↦
                let own : q ≡ n = omega (arith, is, beside.itself no_left.1 no_above.1) in
                ap (joined_at t g n) (ap now own ∙ whole.fresh n (omega arith)) ∙ joined-self t g n below high
          ]
    ] in
    let near : (l : ℕ) → l < n → high_at t g l ≡ true → near_at g n l ≡ true → now l ≡ now q =
    λ l before tall next.
    let c = cell_of e l in
    let within : l < size_of e = omega (arith, before, below) in
    let here : index_of e c ≡ l = index-cell e l in
    let close : are_neighbours e cell c ≡ true =
    sym (ap (λ (a : Cell). are_neighbours e a c) (cell-index e cell held)) ∙ next in
    let linked : HasLink words l = f.all l before tall in
    let p = get_or words l 0 - 1 in
    let word_l : get_or words l 0 ≡ 1 + p = omega (arith, linked) in
    let first : now l ≡ now p = sym (merged_by-ap root left above p l (f.roots.on l p word_l)) in
    some-side {P = now l ≡ now q} e cell c close
    (λ side on. elim (later-side e cell c side on (omega (arith, here, before))) [
      | inl at ↦
          let there = on_left.1 c (cell-held e l within) close (ap (λ (s : Side). is_on s cell c) (sym at) ∙ on) in
          first ∙ beside.left p q (there ∙ ap (λ (i : ℕ). get_or words i 0) here ∙ word_l) is
      | inr at ↦
          let there = on_above.1 c (cell-held e l within) close (ap (λ (s : Side). is_on s cell c) (sym at) ∙ on) in
          first ∙ beside.above p q (there ∙ ap (λ (i : ℕ). get_or words i 0) here ∙ word_l) is
    ]) in
    record {
      root = root_with now n q;
      linking = subst (λ (w : ℕ). Linking t g (set later n w) (n + 1) (root_with now n q)) (sym is)
          (linking-more t g later n q now whole below high low has joined near);
    }

-- a word that is 0 stays it
set-none : (words : List ℕ) (n : ℕ) → get_or words n 0 ≡ 0 → set words n 0 ≡ words
set-none [] n is = refl
set-none (w ∷ words) zero is = ap (λ (v : ℕ). v ∷ words) (sym is)
set-none (w ∷ words) (suc n) is = ap (λ (ws : List ℕ). w ∷ ws) (set-none words n is)

-- a cell that is not high gets no link
pub linked-low : (t : ℤ) (g : Grid) (words : List ℕ) (n word : ℕ) → AreLinked t g words n
    → high_at t g n ≡ false → word ≡ 0 → AreLinked t g (set words n word) (n + 1)
linked-low t g words n word are low is =
    let none : get_or words n 0 ≡ 0 =
    elim (eqb_tells (get_or words n 0) 0) [
      | inl at ↦ at.1
      | inr some ↦ absurd (omega (arith, (are.linking.tall n (omega (arith, some.1))).0))
    ] in
    subst (λ (ws : List ℕ). AreLinked t g ws (n + 1))
    (sym (ap (λ (v : ℕ). set words n v) is ∙ set-none words n none)) (linking-skip t g words n are low)

-- where there is no link yet, all is right
pub linked-none : (t : ℤ) (g : Grid) (words : List ℕ) → length words ≡ size_of g.extent
    → ((k : ℕ) → get_or words k 0 ≡ 0) → AreLinked t g words 0
linked-none t g words long none = record {
  root = λ k. k;
  linking = record {
    long = long;
    links = record {
      down = λ k p is. absurd (omega (arith, is, none k));
      linked = λ k p is. absurd (omega (arith, is, none k));
    };
    roots = record {
      on = λ k p is. absurd (omega (arith, is, none k));
      own = λ k is. refl;
      low = λ k. omega arith;
    };
    tall = λ k has. absurd (omega (arith, has, none k));
    all = λ k below high. absurd (omega arith);
    reach = λ k has. absurd (omega (arith, has, none k));
    fresh = λ k from. refl;
    united = λ k l below inside high tall near. absurd (omega arith);
  };
}

-- ---- labels

-- a list of high neighbours never leaves the cells of one root
led-root : (t : ℤ) (g : Grid) (words : List ℕ) (root : ℕ → ℕ) (o : Cell) (cells : List Cell) (x : Cell)
    → Linking t g words (size_of g.extent) root → Leads t g o cells x
    → root (index_of g.extent o) ≡ root (index_of g.extent x)
led-root t g words root o [] x f led = ap (λ (c : Cell). root (index_of g.extent c)) led.2
led-root t g words root o (c ∷ cells) x f led =
    let e = g.extent in
    let first = leads-first t g c cells x led.3 in
    let back_o = cell-index e o led.0 in
    let back_c = cell-index e c first.0 in
    f.united (index_of e o) (index_of e c) (index-below e o led.0) (index-below e c first.0)
    (ap (is_high t g) back_o ∙ led.1) (ap (is_high t g) back_c ∙ first.1)
    (ap₂ (λ (a b : Cell). are_neighbours e a b) back_o back_c ∙ led.2)
    ∙ led-root t g words root c cells x f led.3

-- so connected cells have one root
pub joined-root : (t : ℤ) (g : Grid) (words : List ℕ) (root : ℕ → ℕ) (k l : ℕ)
    → Linking t g words (size_of g.extent) root → joined_at t g k l ≡ true → root k ≡ root l
joined-root t g words root k l f there =
    let e = g.extent in
    let led = connected-led t g (cell_of e k) (cell_of e l) there in
    ap root (sym (index-cell e k)) ∙ led-root t g words root (cell_of e k) led.0 (cell_of e l) f led.1
    ∙ ap root (index-cell e l)

-- the label by the root is that of the component
label-right : (t : ℤ) (g : Grid) (words : List ℕ) (root : ℕ → ℕ) (k : ℕ)
    → Linking t g words (size_of g.extent) root → k < size_of g.extent
    → Some (pos (label_by words root k)) ≡ labelled_at t g (cell_of g.extent k)
label-right t g words root k f below =
    let e = g.extent in
    elim (cases_Bool (high_at t g k)) [
      | inr low ↦
          let none : get_or words k 0 ≡ 0 =
          elim (eqb_tells (get_or words k 0) 0) [
            | inl is ↦ is.1
            | inr some ↦ absurd (true≢false (sym (f.tall k (omega (arith, some.1))).1 ∙ low))
          ] in
          rw (eq-eqb (get_or words k 0) 0 none) (sym (label-low t g (cell_of e k) low))
      | inl high ↦
          let has = f.all k below high in
          let least = label-high t g (cell_of e k) (cell-held e k below) high in
          let m = least.0 in
          let reach = f.reach k has in
          let from : m ≤ root k =
          elim (cases_Bool (nat_lt (root k) m)) [
            | inl before ↦
                absurd (true≢false (sym reach ∙ least.4 (root k) (ltb-true (root k) m before)))
            | inr not ↦ ltb-false (root k) m not
          ] in
          let upto : root k ≤ m = omega (arith, joined-root t g words root k m f least.3, f.roots.low m) in
          let same : root k ≡ m = omega (arith, from, upto) in
          rw (ne_eqb (get_or words k 0) 0 (λ is. omega (arith, is, has)))
          (ap (λ (i : ℕ). Some (pos (1 + i))) same ∙ sym least.1)
    ]

-- so are those of all cells
pub labels-right : (t : ℤ) (g : Grid) (words : List ℕ) (root : ℕ → ℕ)
    → Linking t g words (size_of g.extent) root
    → map (λ k. Some (pos (label_by words root k))) (range_with_len 0 (length words))
    ≡ map (λ k. labelled_at t g (cell_of g.extent k)) (range_with_len 0 (size_of g.extent))
labels-right t g words root f =
    ap (λ (n : ℕ). map (λ k. Some (pos (label_by words root k))) (range_with_len 0 n)) f.long
    ∙ map-range_ext (λ k. Some (pos (label_by words root k))) (λ k. labelled_at t g (cell_of g.extent k)) 0
    (size_of g.extent) (λ k low below. label-right t g words root k f (omega (arith, below)))

-- the cell of an index is high where its value is
pub high-value : (t : ℤ) (g : Grid) (k : ℕ) → is_at_least t (get_or g.values k None) ≡ high_at t g k
high-value t g k =
    ap (is_at_least t) (sym (ap (λ (i : ℕ). unwrap_or (slice_get g.values i) None) (index-cell g.extent k)
    ∙ unwrap_or-slice_get g.values k None))
