-- Marks of placed pieces, and the least piece that is missing.
--
-- The key idea: the marks say of each piece whether it is in the list, and as many are set as the list has pieces. So
-- the list has no piece twice, and no more pieces than there are.
use Rattle.std.proofs.Common.{◌≡◌, ℕ, zero, suc, ◌+◌, ◌<◌, ◌≤◌, ◌==◌, ◌^◌, Bool, true, false, ◌||◌}
use Rattle.std.proofs.Common.{List, [], ◌∷◌, ◌++◌, length, get_or, set, refl, sym, ap, subst, ◌∙◌}
use Rattle.std.proofs.Common.{true≢false, eqb-true, eq-eqb, inl, inr, arith, get_or-set_other}
use Rattle.std.proofs.Common.{length-set, length-append, Option, Some, None}
use Rattle.std.specs.Prelude.{replicate, unwrap_or}
use Rattle.std.specs.List.{filter}
use Rattle.std.proofs.lemmas.Bool.{cases_Bool, cases_lt}
use Rattle.std.proofs.lemmas.List.{get_or-set_same, get_or-replicate, length-replicate}
use Rattle.std.proofs.lemmas.List.Folds.{list_any-append}
use Rattle.sz_spec.specs.Values.{no_extent}
use Rattle.sz_core.specs.declared.pairs.Pair.{Pair}
use Rattle.sz_core.specs.States.{Shelf}
use Rattle.sz_core.proofs.Placing.{missing-some, missing-none, all-placed}
use Rattle.sz_shelf.specs.Tags.{Tag, tag_pieces}
use Rattle.sz_shelf.specs.Contents.{is_in, missing_in, least_missing}
use Rattle.sz_shelf.specs.Keeping.{AreMarks, IsFirst}

-- ---- the least piece that is missing

no_pairs : List Pair
no_pairs = []

-- a shelf of so many pieces, of which these are placed
shelf_with : ℕ → List ℕ → Shelf
shelf_with n placed = record {
  out = no_extent;
  ins = [];
  pieces = replicate n no_pairs;
  placed = placed;
  sealed = false;
}

pub least-is : (n : ℕ) (placed : List ℕ) (i : ℕ) → i < n → ((k : ℕ) → k < i → is_in placed k ≡ true)
    → is_in placed i ≡ false → missing_in n placed ≡ Some i
unfolding shelf_with
least-is n placed i within below here =
    subst (λ (m : ℕ). missing_in m placed ≡ Some i) (length-replicate n no_pairs)
    (missing-some (shelf_with n placed) i (subst (λ (m : ℕ). i < m) (sym (length-replicate n no_pairs)) within)
    below here)

pub none-missing : (n : ℕ) (placed : List ℕ) → ((k : ℕ) → k < n → is_in placed k ≡ true) → missing_in n placed ≡ None
unfolding shelf_with
none-missing n placed all =
    subst (λ (m : ℕ). missing_in m placed ≡ None) (length-replicate n no_pairs)
    (missing-none (shelf_with n placed)
    (λ k below. all k (subst (λ (m : ℕ). k < m) (length-replicate n no_pairs) below)))

pub each-placed : (n : ℕ) (placed : List ℕ) → missing_in n placed ≡ None → (k : ℕ) → k < n → is_in placed k ≡ true
unfolding shelf_with
each-placed n placed none k below =
    let long = sym (length-replicate n no_pairs) in
    all-placed (shelf_with n placed) (subst (λ (m : ℕ). missing_in m placed ≡ None) long none) k
    (subst (λ (m : ℕ). k < m) long below)

-- ---- one piece more

or-true : (b : Bool) → (b || true) ≡ true
or-true true = refl
or-true false = refl

or-none : (b : Bool) → (b || false) ≡ b
or-none true = refl
or-none false = refl

pub in-more : (placed : List ℕ) (k j : ℕ) → is_in (placed ++ k ∷ []) j ≡ (is_in placed j || (k == j))
in-more placed k j =
    list_any-append (λ (i : ℕ). i == j) placed (k ∷ [])
    ∙ ap (λ (b : Bool). is_in placed j || b) (or-none (k == j))

set-more : (marks : List Bool) (k : ℕ) → k < length marks → get_or marks k false ≡ false
    → length (filter (λ b. b) (set marks k true)) ≡ length (filter (λ b. b) marks) + 1
set-more [] k inside free = absurd (omega arith)
set-more (true ∷ marks) zero inside free = absurd (true≢false free)
set-more (false ∷ marks) zero inside free = omega arith
set-more (true ∷ marks) (suc k) inside free =
    let more = set-more marks k (omega arith) free in omega arith
set-more (false ∷ marks) (suc k) inside free = set-more marks k (omega arith) free

pub marks-more : (t : Tag) (placed : List ℕ) (marks : List Bool) (k : ℕ) → AreMarks t placed marks
    → k < length marks → is_in placed k ≡ false → AreMarks t (placed ++ k ∷ []) (set marks k true)
marks-more t placed marks k are inside new = record {
  long = length-set marks k true ∙ are.long;
  few = rw (length-set marks k true) are.few;
  marked =
      λ j within.
      let below : j < length marks = subst (λ (m : ℕ). j < m) (length-set marks k true) within in
      elim (cases_Bool (k == j)) [
        | inl same ↦
            let e : k ≡ j = eqb-true k j same in
            rw (← e)
            (get_or-set_same marks k true false inside
            ∙ sym
            (in-more placed k k ∙ ap (λ (b : Bool). is_in placed k || b) (eq-eqb k k refl)
            ∙ or-true (is_in placed k)))
        | inr other ↦
            get_or-set_other marks k j true false (λ e. true≢false (sym (eq-eqb k j (sym e)) ∙ other))
            ∙ are.marked j below
            ∙ sym (in-more placed k j ∙ ap (λ (b : Bool). is_in placed j || b) other ∙ or-none (is_in placed j))
      ];
  once =
      set-more marks k inside (are.marked k inside ∙ new) ∙ ap (λ (n : ℕ). n + 1) are.once
      ∙ sym (length-append placed (k ∷ []));
}

-- ---- none

none-set : (n : ℕ) → filter (λ b. b) (replicate n false) ≡ []
none-set zero = refl
none-set (suc n) = none-set n

pub marks-none : (t : Tag) (n : ℕ) → n ≡ tag_pieces t → n < 2 ^ 32 → AreMarks t [] (replicate n false)
marks-none t n pieces few = record {
  long = length-replicate n false ∙ pieces;
  few = rw (length-replicate n false) few;
  marked = λ k inside. get_or-replicate n k false false (subst (λ (m : ℕ). k < m) (length-replicate n false) inside);
  once = ap (λ (bs : List Bool). length bs) (none-set n);
}

-- where nothing is marked the first place is not
pub first-none : (n : ℕ) → IsFirst (replicate n false) 0
first-none n = record {
  within = omega arith;
  below = λ k less. absurd (omega (arith, less));
  here = at n;
} where
  at : (m : ℕ) → get_or (replicate m false) 0 false ≡ false
  at zero = refl
  at (suc m) = refl

-- ---- no more are placed than there are

few-set : (marks : List Bool) → length (filter (λ b. b) marks) ≤ length marks
few-set [] = omega arith
few-set (true ∷ marks) = let few = few-set marks in omega arith
few-set (false ∷ marks) = let few = few-set marks in omega arith

pub few-placed : (t : Tag) (placed : List ℕ) (marks : List Bool) → AreMarks t placed marks
    → length placed ≤ tag_pieces t
few-placed t placed marks are =
    let few = few-set marks in
    let once = are.once in
    let long = are.long in
    omega arith

-- ---- what the first place that is not marked tells

pub least-told : (t : Tag) (placed : List ℕ) (marks : List Bool) (i : ℕ) → AreMarks t placed marks
    → ((k : ℕ) → k < i → get_or marks k false ≡ true) → get_or marks i false ≡ false → i < tag_pieces t
    → missing_in (tag_pieces t) placed ≡ Some i
least-told t placed marks i are below here within =
    let long = are.long in
    least-is (tag_pieces t) placed i within (λ k less. sym (are.marked k (omega arith)) ∙ below k less)
    (sym (are.marked i (omega arith)) ∙ here)

pub none-told : (t : Tag) (placed : List ℕ) (marks : List Bool) (i : ℕ) → AreMarks t placed marks
    → ((k : ℕ) → k < i → get_or marks k false ≡ true) → tag_pieces t ≤ i
    → missing_in (tag_pieces t) placed ≡ None
none-told t placed marks i are below past =
    let long = are.long in
    none-missing (tag_pieces t) placed (λ k less. sym (are.marked k (omega arith)) ∙ below k (omega arith))

pub value-told : (t : Tag) (placed : List ℕ) (marks : List Bool) (i : ℕ) → AreMarks t placed marks
    → i ≤ length marks → ((k : ℕ) → k < i → get_or marks k false ≡ true) → get_or marks i false ≡ false
    → i ≡ least_missing (tag_pieces t) placed
value-told t placed marks i are within below here =
    let long = are.long in
    let n = tag_pieces t in
    elim (cases_lt i n) [
      | inl less ↦ sym (ap (λ (o : Option ℕ). unwrap_or o n) (least-told t placed marks i are below here less))
      | inr past ↦
          let end : i ≡ n = omega arith in
          end ∙ sym (ap (λ (o : Option ℕ). unwrap_or o n) (none-told t placed marks i are below (omega arith)))
    ]
