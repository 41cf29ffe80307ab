-- The rule that holds between any two steps, and what a try and a look tell the seat that takes
-- them.
use Rattle.std.specs.Prelude.{◌≡◌, ℕ, ◌+◌, ◌<◌, ◌≤◌, ◌==◌, ◌∷◌, [], ◌++◌, List}
use Rattle.std.specs.Prelude.{None, Some, slice_index, length, Contains, count_by, sum_by}
use mathlib.Core.Option.{some}
use lib.ListN.{get_elem?}
use Rattle.atomic_table.specs.Table.{State, Step, Me}
use Rattle.sz_claims.specs.declared.rule.View.{View}

-- the words, one a piece, and what each seat knows
abbrev pub Table : Type 0
Table = State (Unit {0}) View

-- what the seat that takes a step knows
abbrev pub Own : Type 0
Own = Me (Unit {0}) View

-- how often the piece stands in the list
abbrev pub times : ℕ → List ℕ → ℕ
times piece xs = count_by (λ x. x == piece) xs

-- no piece stands in the list twice
abbrev pub HasNoRepeats : List ℕ → Type 0
HasNoRepeats xs = (piece : ℕ) → times piece xs ≤ 1

-- how often a piece stands in the lists of claimed pieces of all views, and in their lists of
-- pieces met
abbrev pub times_claimed : ℕ → List View → ℕ
times_claimed piece views = sum_by (λ v. times piece v.claimed) views

abbrev pub times_met : ℕ → List View → ℕ
times_met piece views = sum_by (λ v. times piece v.met) views

-- Of the words and of all views: each word is 0 or 1, and it is the number of times that the piece
-- stands in the claimed lists of all views. So it is 1 exactly where one view has the piece, once,
-- and 0 exactly where none has. Each piece that a view met has the word 1. A first seat that was
-- never split is alone.
pub record IsKept (pieces : ℕ) (s : Table) : Type 0 where
  pub sized : length s.words ≡ pieces
  pub bit : (piece : ℕ) → slice_index s.words piece ≤ 1
  pub held : (piece : ℕ) → times_claimed piece s.views ≡ slice_index s.words piece
  pub met : (piece : ℕ) → 0 < times_met piece s.views → slice_index s.words piece ≡ 1
  pub alone : (id : ℕ) (v : View) → get_elem? s.views id ≡ some v → v.depth ≡ 0 → v.splits ≡ 0
      → length s.views ≡ 1

-- the view with no claims and no steps: at depth 0 of the first seat, else of one that was split
-- off or is spent
abbrev pub empty_view : ℕ → View
empty_view depth = record {
  claimed = [];
  met = [];
  found = None;
  tries = 0;
  looks = 0;
  splits = 0;
  depth = depth;
}

-- the view after a try that took the piece, and after one that found it claimed
abbrev pub after_win : ℕ → View → View
after_win piece v =
    record v { claimed = v.claimed ++ piece ∷ []; found = Some 0; tries = v.tries + 1 }

abbrev pub after_loss : ℕ → View → View
after_loss piece v = record v { met = v.met ++ piece ∷ []; found = Some 1; tries = v.tries + 1 }

-- the view after a look
abbrev pub after_look : View → View
after_look v = record v { looks = v.looks + 1 }

-- the view after a split
abbrev pub after_split : View → View
after_split v = record v { splits = v.splits + 1 }

-- the kept view after a join, which has the lists of both, and whose counts are the sums of theirs
abbrev pub after_join : View → View → View
after_join v spent = record v {
  claimed = v.claimed ++ spent.claimed;
  met = v.met ++ spent.met;
  tries = v.tries + spent.tries;
  looks = v.looks + spent.looks;
  splits = v.splits + spent.splits;
}

-- A try is an exchange of 0 for 1. It found 0, and is a win: the seat had neither claimed nor met
-- the piece. Or it found 1, and is a loss. A seat that is alone finds 0 at each piece that it has
-- not claimed.
pub record IsTry (st : Step (Unit {0})) (m : Own) (found : ℕ) (n : Own) : Type 0 where
  pub exchange : (st.first ≡ 0) × (st.second ≡ 1)
  pub win : found ≡ 0 → n ≡ (after_win st.word m.0, m.1)
  pub anew : found ≡ 0 → (¬ Contains m.0.claimed st.word) × (¬ Contains m.0.met st.word)
  pub loss : ¬ (found ≡ 0) → (found ≡ 1) × (n ≡ (after_loss st.word m.0, m.1))
  pub alone : m.0.depth ≡ 0 → m.0.splits ≡ 0 → ¬ Contains m.0.claimed st.word → found ≡ 0

-- a look is no exchange: it is counted and changes nothing else, and tells that the seat has each
-- of its pieces once
pub record IsLook (st : Step (Unit {0})) (m n : Own) : Type 0 where
  pub load : (st.first ≡ 0) × (st.second ≡ 0)
  pub same : n ≡ (after_look m.0, m.1)
  pub once : HasNoRepeats m.0.claimed
