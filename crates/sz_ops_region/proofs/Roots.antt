-- What follows of links when one is made anew.
--
-- The key idea: a cell that is linked to where its own cell is linked keeps its root, and so does every other cell;
-- where a root is linked to a lesser one, the cells that had the one now have the other.
use Rattle.std.proofs.Common.{◌≡◌, ◌≢◌, ℕ, zero, suc, ◌+◌, ◌-◌, ◌<◌, ◌≤◌, true, false, ◌==◌, ◌||◌}
use Rattle.std.proofs.Common.{List, [], ◌∷◌, length, get_or, refl, sym, ap, subst, ◌∙◌, arith, inl, inr}
use Rattle.std.proofs.Common.{get_or-set_other, get_or-set_same, lt-ltb}
use Rattle.std.specs.Prelude.{nat_lt, ◌⊎◌, if◌then◌else◌}
use Rattle.std.proofs.Math.ListN.{set}
use Rattle.std.proofs.lemmas.Bool.{le-ltb, eq-eqb, ne_eqb, or_right}
use Rattle.std.proofs.lemmas.Bool.Decides.{eqb_tells, leb_tells}
use Rattle.sz_ops_region.specs.Links.{HasLink, AreLinks, KeepLinks, AreRoots, moved, merged, merged_by, IsWordBeside}

-- a cell that has a link is one of those that have a word
pub link-inside : (words : List ℕ) (k : ℕ) → HasLink words k → k < length words
link-inside [] k has = absurd (omega (arith, has))
link-inside (w ∷ words) zero has = omega arith
link-inside (w ∷ words) (suc k) has = omega (arith, link-inside words k has)

-- the word of a cell after one word was written: it is that one, or was there before
pub set-cases : {P : Type 0} (words : List ℕ) (at w k : ℕ) → at < length words
    → (k ≡ at → get_or (set words at w) k 0 ≡ w → P)
    → (k ≢ at → get_or (set words at w) k 0 ≡ get_or words k 0 → P) → P
set-cases words at w k inside same other =
    elim (eqb_tells k at) [
      | inl here ↦
          same here.1 (ap (λ (i : ℕ). get_or (set words at w) i 0) here.1 ∙ get_or-set_same words at w 0 inside)
      | inr apart ↦ other apart.1 (get_or-set_other words at k w 0 apart.1)
    ]

-- a cell that has a link and gets another one keeps having one
pub set-kept : (words : List ℕ) (at w : ℕ) → HasLink words at → 0 < w → KeepLinks words (set words at w)
set-kept words at w has some k =
    let inside = link-inside words at has in
    set-cases {P = (HasLink words k → HasLink (set words at w) k) × (HasLink (set words at w) k → HasLink words k)}
    words at w k inside
    (λ here is. (λ h. omega (arith, is, some), λ h. subst (HasLink words) (sym here) has))
    (λ apart is. (λ h. omega (arith, is, h), λ h. omega (arith, is, h)))

-- a cell that has a link is linked to a lesser one that has one
links-set : (words : List ℕ) (at to : ℕ) → AreLinks words → HasLink words at → HasLink words to → to ≤ at
    → AreLinks (set words at (1 + to))
links-set words at to are has other low =
    let inside = link-inside words at has in
    let kept = set-kept words at (1 + to) has (omega arith) in
    record {
      down = λ k p is. set-cases words at (1 + to) k inside
          (λ here now. omega (arith, here, now, is, low)) (λ apart now. are.down k p (sym now ∙ is));
      linked = λ k p is. (kept p).0 (set-cases {P = HasLink words p} words at (1 + to) k inside
          (λ here now. subst (HasLink words) (omega (arith, now, is)) other)
          (λ apart now. are.linked k p (sym now ∙ is)));
    }

-- ---- the way to a root is shortened

pub links-skip : (words : List ℕ) (at up over : ℕ) → AreLinks words → get_or words at 0 ≡ 1 + up
    → get_or words up 0 ≡ 1 + over → AreLinks (set words at (1 + over))
links-skip words at up over are first second =
    links-set words at over are (omega (arith, first)) (are.linked up over second)
    (omega (arith, are.down at up first, are.down up over second))

pub roots-skip : (words : List ℕ) (root : ℕ → ℕ) (at up over : ℕ) → AreLinks words → AreRoots words root
    → get_or words at 0 ≡ 1 + up → get_or words up 0 ≡ 1 + over → AreRoots (set words at (1 + over)) root
roots-skip words root at up over are roots first second =
    let inside = link-inside words at (omega (arith, first)) in
    record {
      on = λ k p is. set-cases words at (1 + over) k inside
          (λ here now.
          let same : p ≡ over = omega (arith, now, is) in
          ap root same ∙ roots.on up over second ∙ roots.on at up first ∙ ap root (sym here))
          (λ apart now. roots.on k p (sym now ∙ is));
      own = λ k is. set-cases words at (1 + over) k inside
          (λ here now.
          let same : up ≡ at =
          omega (arith, here, now, is, are.down at up first, are.down up over second) in
          ap root here ∙ roots.own at (first ∙ ap (λ (i : ℕ). 1 + i) same) ∙ sym here)
          (λ apart now. roots.own k (sym now ∙ is));
      low = roots.low;
    }

-- ---- a root is linked to a lesser one

pub links-move : (words : List ℕ) (from to : ℕ) → AreLinks words → get_or words from 0 ≡ 1 + from
    → get_or words to 0 ≡ 1 + to → to ≤ from → AreLinks (set words from (1 + to))
links-move words from to are first second low =
    links-set words from to are (omega (arith, first)) (are.linked to to second) low

-- a root that is moved, and one that is not
moved-it : (from to r : ℕ) → r ≡ from → moved from to r ≡ to
moved-it from to r is = rw (eq-eqb r from is) refl

moved-not : (from to r : ℕ) → r ≢ from → moved from to r ≡ r
moved-not from to r not = rw (ne_eqb r from not) refl

pub moved-low : (from to r : ℕ) → to ≤ from → moved from to r ≤ r
moved-low from to r low =
    elim (eqb_tells r from) [
      | inl here ↦ omega (arith, moved-it from to r here.1, here.1)
      | inr apart ↦ omega (arith, moved-not from to r apart.1)
    ]

roots-move : (words : List ℕ) (root : ℕ → ℕ) (from to : ℕ) → AreRoots words root → get_or words from 0 ≡ 1 + from
    → get_or words to 0 ≡ 1 + to → to ≤ from
    → AreRoots (set words from (1 + to)) (λ k. moved from to (root k))
roots-move words root from to roots first second low =
    let inside = link-inside words from (omega (arith, first)) in
    let top = roots.own from first in
    let end = roots.own to second in
    let at_to : moved from to (root to) ≡ to =
    elim (eqb_tells (root to) from) [
      | inl here ↦ moved-it from to (root to) here.1
      | inr apart ↦ moved-not from to (root to) apart.1 ∙ end
    ] in
    record {
      on = λ k p is. set-cases words from (1 + to) k inside
          (λ here now.
          let same : p ≡ to = omega (arith, now, is) in
          ap (λ (i : ℕ). moved from to (root i)) same ∙ at_to
          ∙ sym (moved-it from to (root k) (ap root here ∙ top)))
          (λ apart now. ap (moved from to) (roots.on k p (sym now ∙ is)));
      own = λ k is. set-cases words from (1 + to) k inside
          (λ here now.
          let same : k ≡ to = omega (arith, now, is) in
          ap (λ (i : ℕ). moved from to (root i)) same ∙ at_to ∙ sym same)
          (λ apart now.
          let own = roots.own k (sym now ∙ is) in
          moved-not from to (root k) (λ at. apart (sym own ∙ at)) ∙ own);
      low = λ k. omega (arith, moved-low from to (root k) low, roots.low k);
    }

-- and the other root is one still
pub top-move : (words : List ℕ) (from to k : ℕ) → get_or words from 0 ≡ 1 + from → get_or words to 0 ≡ 1 + to
    → k ≡ to → get_or (set words from (1 + to)) k 0 ≡ 1 + k
top-move words from to k first second is =
    set-cases words from (1 + to) k (link-inside words from (omega (arith, first)))
    (λ here now. omega (arith, now, is))
    (λ apart now. now ∙ ap (λ (i : ℕ). get_or words i 0) is ∙ second ∙ ap (λ (i : ℕ). 1 + i) (sym is))

-- roots are told by their values
pub roots-same : (words : List ℕ) (p q : ℕ → ℕ) → ((k : ℕ) → q k ≡ p k) → AreRoots words p → AreRoots words q
roots-same words p q same roots = record {
  on = λ k i is. same i ∙ roots.on k i is ∙ sym (same k);
  own = λ k is. same k ∙ roots.own k is;
  low = λ k. omega (arith, same k, roots.low k);
}

lt_tells : (a b : ℕ) → ((nat_lt a b ≡ true) × (a < b)) ⊎ ((nat_lt a b ≡ false) × (b ≤ a))
lt_tells a b =
    elim (leb_tells (suc a) b) [
      | inl under ↦ let low : a < b = omega (arith, under.1) in inl (lt-ltb a b low, low)
      | inr over ↦ let high : b ≤ a = omega (arith, over.1) in inr (le-ltb a b high, high)
    ]

-- the roots after two cells were united, by their own roots
merged-above : (root : ℕ → ℕ) (a b k : ℕ) → root a < root b → merged root a b k ≡ moved (root b) (root a) (root k)
merged-above root a b k less = rw (lt-ltb (root a) (root b) less) refl

merged-below : (root : ℕ → ℕ) (a b k : ℕ) → root b ≤ root a → merged root a b k ≡ moved (root a) (root b) (root k)
merged-below root a b k less = rw (le-ltb (root a) (root b) less) refl

pub roots-above : (words : List ℕ) (root : ℕ → ℕ) (a b first second : ℕ) → AreRoots words root
    → first ≡ root a → second ≡ root b → get_or words first 0 ≡ 1 + first → get_or words second 0 ≡ 1 + second
    → first < second
    → AreRoots (set words second (1 + first)) (merged root a b) × (1 + first ≡ 1 + merged root a b a)
roots-above words root a b first second roots is_a is_b top_a top_b less =
    let low : root a < root b = omega (arith, is_a, is_b, less) in (
      roots-same (set words second (1 + first)) (λ k. moved second first (root k)) (merged root a b)
          (λ k. merged-above root a b k low ∙ ap (λ (i : ℕ). moved i (root a) (root k)) (sym is_b)
          ∙ ap (λ (i : ℕ). moved second i (root k)) (sym is_a))
          (roots-move words root second first roots top_b top_a (omega arith)),
      ap (λ (i : ℕ). 1 + i) (is_a ∙ sym (merged-above root a b a low
          ∙ moved-not (root b) (root a) (root a) (λ at. omega (arith, at, low)))),
    )

pub roots-below : (words : List ℕ) (root : ℕ → ℕ) (a b first second : ℕ) → AreRoots words root
    → first ≡ root a → second ≡ root b → get_or words first 0 ≡ 1 + first → get_or words second 0 ≡ 1 + second
    → second ≤ first
    → AreRoots (set words first (1 + second)) (merged root a b) × (1 + second ≡ 1 + merged root a b a)
roots-below words root a b first second roots is_a is_b top_a top_b less =
    let low : root b ≤ root a = omega (arith, is_a, is_b, less) in (
      roots-same (set words first (1 + second)) (λ k. moved first second (root k)) (merged root a b)
          (λ k. merged-below root a b k low ∙ ap (λ (i : ℕ). moved i (root b) (root k)) (sym is_a)
          ∙ ap (λ (i : ℕ). moved first i (root k)) (sym is_b))
          (roots-move words root first second roots top_a top_b less),
      ap (λ (i : ℕ). 1 + i) (is_b ∙ sym (merged-below root a b a low ∙ moved-it (root a) (root b) (root a) refl)),
    )

-- ---- a search for a root

-- what stays right while a root is searched for
abbrev pub IsOnWay : List ℕ → List ℕ → ℕ → ℕ → Type 0
IsOnWay first words start at = AreLinks words × HasLink words at × KeepLinks first words
    × ((root : ℕ → ℕ) → AreRoots first root → AreRoots words root × (root at ≡ root start))
    × ((k : ℕ) → get_or first k 0 ≡ 1 + k → get_or words k 0 ≡ 1 + k)

-- a further turn of it, to a cell and on by its word
turn : (first words : List ℕ) (start at up word : ℕ) → IsOnWay first words start at
    → up ≡ get_or words at 0 - 1 → word ≡ get_or words up 0
    → (up < length words)
    × (up ≢ at → (word - 1 < at) × IsOnWay first (set words at word) start (word - 1))
turn first words start at up word way is_up is_word =
    let are = way.0 in
    let over = word - 1 in
    let here : get_or words at 0 ≡ 1 + up = omega (arith, way.1, is_up) in
    let has : HasLink words up = are.linked at up here in
    let there : get_or words up 0 ≡ 1 + over = omega (arith, has, is_word) in
    let on : HasLink words over = are.linked up over there in
    let same : word ≡ 1 + over = omega (arith, there, is_word) in
    let kept = set-kept words at (1 + over) way.1 (omega arith) in (
      link-inside words up has,
      λ apart. (
        omega (arith, are.down at up here, are.down up over there, apart),
        subst (λ (w : ℕ). IsOnWay first (set words at w) start over) (sym same) (
          links-skip words at up over are here there,
          (kept over).0 on,
          λ k. (λ h. (kept k).0 ((way.2 k).0 h), λ h. (way.2 k).1 ((kept k).1 h)),
          λ root roots.
              let now = way.3 root roots in (
                roots-skip words root at up over are now.0 here there,
                now.0.on up over there ∙ now.0.on at up here ∙ now.1,
              ),
          λ k top.
              let own = way.4 k top in
              get_or-set_other words at k (1 + over) 0 (λ equal. apart (omega (
                arith,
                own,
                here,
                ap (λ (i : ℕ). get_or words i 0) equal,
                equal,
              ))) ∙ own,
        ),
      ),
    )

pub way-on : (first words : List ℕ) (start at : ℕ) → IsOnWay first words start at
    → let up = get_or words at 0 - 1 in
    let word = get_or words up 0 in
    (up < length words) × (up ≢ at → (word - 1 < at) × IsOnWay first (set words at word) start (word - 1))
way-on first words start at way =
    let up = get_or words at 0 - 1 in turn first words start at up (get_or words up 0) way refl refl

-- ---- the word for a cell beside others

pub merged-both : (root : ℕ → ℕ) (a b : ℕ) → merged root a b a ≡ merged root a b b
merged-both root a b =
    elim (lt_tells (root a) (root b)) [
      | inl less ↦
          merged-above root a b a less.1
          ∙ moved-not (root b) (root a) (root a) (λ at. omega (arith, at, less.1))
          ∙ sym (merged-above root a b b less.1 ∙ moved-it (root b) (root a) (root b) refl)
      | inr more ↦
          let end : moved (root a) (root b) (root b) ≡ root b =
          elim (eqb_tells (root b) (root a)) [
            | inl here ↦ moved-it (root a) (root b) (root b) here.1
            | inr apart ↦ moved-not (root a) (root b) (root b) apart.1
          ] in
          merged-below root a b a more.1 ∙ moved-it (root a) (root b) (root a) refl
          ∙ sym (merged-below root a b b more.1 ∙ end)
    ]

-- the roots of all cells where both words are no 0, and where one is
pub merged_by-both : (root : ℕ → ℕ) (left above k : ℕ) → 0 < left → 0 < above
    → merged_by root left above k ≡ merged root (left - 1) (above - 1) k
merged_by-both root left above k one other =
    rw (ne_eqb left 0 (λ is. omega (arith, is, one)), ne_eqb above 0 (λ is. omega (arith, is, other))) refl

pub merged_by-one : (root : ℕ → ℕ) (left above k : ℕ) → (left ≡ 0) ⊎ (above ≡ 0)
    → merged_by root left above k ≡ root k
merged_by-one root left above k (inl none) = rw (eq-eqb left 0 none) refl
merged_by-one root left above k (inr none) =
    rw (or_right (left == 0) (above == 0) (eq-eqb above 0 none)) refl

-- two cells were united
pub beside-united : (words : List ℕ) (root : ℕ → ℕ) (index left above word : ℕ) → 0 < left → 0 < above
    → AreRoots words (merged root (left - 1) (above - 1))
    → word ≡ 1 + merged root (left - 1) (above - 1) (left - 1)
    → ((p : ℕ) → word ≡ 1 + p → get_or words p 0 ≡ 1 + p)
    → AreRoots words (merged_by root left above) × IsWordBeside words (merged_by root left above) index left above word
beside-united words root index left above word one other roots is top_of =
    let a = left - 1 in
    let b = above - 1 in
    let after = merged_by root left above in
    let same : (k : ℕ) → after k ≡ merged root a b k = λ k. merged_by-both root left above k one other in
    let now = roots-same words (merged root a b) after same roots in
    let top : (q : ℕ) → word ≡ 1 + q → after q ≡ after a =
    λ q at.
    let here : q ≡ merged root a b a = omega (arith, at, is) in
    now.own q (top_of q at) ∙ here ∙ sym (same a) in (
      now,
      record {
        itself = λ none also. absurd (omega (arith, none, one));
        linked = λ p some at. omega (arith, top_of p at);
        some = omega (arith, is);
        left = λ p q at here. ap after (omega (arith, at)) ∙ sym (top q here);
        above = λ p q at here. ap after (omega (arith, at)) ∙ same b ∙ sym (merged-both root a b) ∙ sym (same a)
            ∙ sym (top q here);
      },
    )

-- ---- the roots after two cells were united

-- a root is as it was, or one of the two in place of the other one
pub merged-cases : {P : Type 0} (root : ℕ → ℕ) (a b k : ℕ) → (merged root a b k ≡ root k → P)
    → (merged root a b k ≡ root b → root k ≡ root a → P) → (merged root a b k ≡ root a → root k ≡ root b → P) → P
merged-cases root a b k same to_b to_a =
    elim (lt_tells (root a) (root b)) [
      | inl less ↦
          let is = merged-above root a b k less.1 in
          elim (eqb_tells (root k) (root b)) [
            | inl here ↦ to_a (is ∙ moved-it (root b) (root a) (root k) here.1) here.1
            | inr apart ↦ same (is ∙ moved-not (root b) (root a) (root k) apart.1)
          ]
      | inr more ↦
          let is = merged-below root a b k more.1 in
          elim (eqb_tells (root k) (root a)) [
            | inl here ↦ to_b (is ∙ moved-it (root a) (root b) (root k) here.1) here.1
            | inr apart ↦ same (is ∙ moved-not (root a) (root b) (root k) apart.1)
          ]
    ]

-- cells of one root have one root
pub merged-ap : (root : ℕ → ℕ) (a b k l : ℕ) → root k ≡ root l → merged root a b k ≡ merged root a b l
merged-ap root a b k l same =
    ap (λ (r : ℕ). if nat_lt (root a) (root b) then moved (root b) (root a) r else moved (root a) (root b) r) same

pub merged_by-ap : (root : ℕ → ℕ) (left above k l : ℕ) → root k ≡ root l
    → merged_by root left above k ≡ merged_by root left above l
merged_by-ap root left above k l same =
    let a = left - 1 in
    let b = above - 1 in
    ap (λ (r : ℕ). if (left == 0) || (above == 0) then r
    else (if nat_lt (root a) (root b) then moved (root b) (root a) r else moved (root a) (root b) r)) same

-- the roots stay where a cell is united with itself
merged-self : (root : ℕ → ℕ) (a k : ℕ) → merged root a a k ≡ root k
merged-self root a k =
    let below = merged-below root a a k (omega arith) in
    elim (eqb_tells (root k) (root a)) [
      | inl here ↦ below ∙ moved-it (root a) (root a) (root k) here.1 ∙ sym here.1
      | inr apart ↦ below ∙ moved-not (root a) (root a) (root k) apart.1
    ]

-- which of the words is taken
taken-left : (left above own : ℕ) → left ≢ 0 → (if left == 0 then (if above == 0 then own else above) else left) ≡ left
taken-left left above own some = rw (ne_eqb left 0 some) refl

taken-above : (left above own : ℕ) → left ≡ 0 → above ≢ 0
    → (if left == 0 then (if above == 0 then own else above) else left) ≡ above
taken-above left above own none some = rw (eq-eqb left 0 none, ne_eqb above 0 some) refl

taken-own : (left above own : ℕ) → left ≡ 0 → above ≡ 0
    → (if left == 0 then (if above == 0 then own else above) else left) ≡ own
taken-own left above own none also = rw (eq-eqb left 0 none, eq-eqb above 0 also) refl

-- no cells are united: one of the words is 0, or they are one
pub beside-one : (words : List ℕ) (root : ℕ → ℕ) (index left above word : ℕ) → AreRoots words root
    → ((p : ℕ) → left ≡ 1 + p → HasLink words p) → ((p : ℕ) → above ≡ 1 + p → HasLink words p)
    → (left ≡ 0) ⊎ ((above ≡ 0) ⊎ (left ≡ above))
    → word ≡ (if left == 0 then (if above == 0 then 1 + index else above) else left)
    → AreRoots words (merged_by root left above) × IsWordBeside words (merged_by root left above) index left above word
beside-one words root index left above word roots has_left has_above one is =
    let after = merged_by root left above in
    let same : (k : ℕ) → after k ≡ root k =
    λ k. elim one [
      | inl none ↦ merged_by-one root left above k (inl none)
      | inr other ↦
          elim other [
            | inl none ↦ merged_by-one root left above k (inr none)
            | inr equal ↦
                elim (eqb_tells left 0) [
                  | inl none ↦ merged_by-one root left above k (inl none.1)
                  | inr some ↦
                      let full : 0 < left = omega (arith, some.1) in
                      merged_by-both root left above k full (omega (arith, full, equal))
                      ∙ ap (λ (b : ℕ). merged root (left - 1) (b - 1) k) (sym equal)
                      ∙ merged-self root (left - 1) k
                ]
          ]
    ] in
    let left_taken : left ≢ 0 → word ≡ left = λ some. is ∙ taken-left left above (1 + index) some in
    let above_taken : left ≡ 0 → above ≢ 0 → word ≡ above =
    λ none some. is ∙ taken-above left above (1 + index) none some in
    let own : left ≡ 0 → above ≡ 0 → word ≡ 1 + index =
    λ none also. is ∙ taken-own left above (1 + index) none also in (
      roots-same words root after same roots,
      record {
        itself = own;
        linked = λ p some at. elim (eqb_tells left 0) [
          | inr full ↦ has_left p (sym (left_taken full.1) ∙ at)
          | inl none ↦ has_above p (sym (above_taken none.1 (λ also. omega (arith, also, none.1, some))) ∙ at)
        ];
        some = elim (eqb_tells left 0) [
          | inr full ↦ omega (arith, left_taken full.1, full.1)
          | inl none ↦
              elim (eqb_tells above 0) [
                | inr full ↦ omega (arith, above_taken none.1 full.1, full.1)
                | inl also ↦ omega (arith, own none.1 also.1)
              ]
        ];
        left = λ p q at here.
            let taken = left_taken (λ none. omega (arith, none, at)) in ap after (omega (arith, at, here, taken));
        above = λ p q at here. elim (eqb_tells left 0) [
          | inl none ↦
              let taken = above_taken none.1 (λ also. omega (arith, also, at)) in
              ap after (omega (arith, at, here, taken))
          | inr full ↦
              let taken = left_taken full.1 in
              elim one [
                | inl none ↦ absurd (full.1 none)
                | inr other ↦
                    elim other [
                      | inl none ↦ absurd (omega (arith, none, at))
                      | inr equal ↦ ap after (omega (arith, at, here, taken, equal))
                    ]
              ]
        ];
      },
    )
