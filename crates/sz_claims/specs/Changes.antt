-- What each kind of step changes, on the words and on the views of all seats, and what holds of a
-- step of any kind.
use Rattle.std.specs.Prelude.{◌≡◌, ◌==◌, ℕ, ◌+◌, ◌<◌, ◌⊎◌, List, [], ◌∷◌, ◌++◌}
use Rattle.std.specs.Prelude.{None, Some, length, slice_index, slice_set, Contains}
use mathlib.Core.Option.{none, some}
use lib.ListN.{get_elem?}
use prog.Atomic.{either}
use Rattle.atomic_table.specs.Table.{Step, Act, step, stepped}
use Rattle.sz_claims.specs.declared.rule.View.{View}
use Rattle.sz_claims.specs.Rule.{Table, Own, IsKept}

-- the view numbered id was v and is w, and each other view is as it was
pub record OneView (id : ℕ) (v w : View) (s t : Table) : Type 0 where
  pub before : get_elem? s.views id ≡ some v
  pub after : get_elem? t.views id ≡ some w
  pub others : (other : ℕ) → ¬ (other ≡ id) → get_elem? t.views other ≡ get_elem? s.views other

-- The word of the piece was 0 and is 1, and each other word stays. The seat has the piece behind
-- those that it claimed before, it found 0 and made one try more, and all else that it knows stays.
-- Each other view stays.
pub record IsWin (piece id : ℕ) (v w : View) (s t : Table) : Type 0 where
  pub free : slice_index s.words piece ≡ 0
  pub taken : slice_index t.words piece ≡ 1
  pub others : (other : ℕ) → ¬ (other ≡ piece)
      → slice_index t.words other ≡ slice_index s.words other
  pub seat : OneView id v w s t
  pub claimed : w.claimed ≡ v.claimed ++ piece ∷ []
  pub met : w.met ≡ v.met
  pub found : w.found ≡ Some 0
  pub tries : w.tries ≡ v.tries + 1
  pub looks : w.looks ≡ v.looks
  pub splits : w.splits ≡ v.splits
  pub depth : w.depth ≡ v.depth

-- The word of the piece is 1, and each word stays. The seat has the piece behind those that it met
-- before, it found 1 and made one try more, and all else that it knows stays. Each other view
-- stays.
pub record IsLoss (piece id : ℕ) (v w : View) (s t : Table) : Type 0 where
  pub taken : slice_index s.words piece ≡ 1
  pub words : t.words ≡ s.words
  pub seat : OneView id v w s t
  pub claimed : w.claimed ≡ v.claimed
  pub met : w.met ≡ v.met ++ piece ∷ []
  pub found : w.found ≡ Some 1
  pub tries : w.tries ≡ v.tries + 1
  pub looks : w.looks ≡ v.looks
  pub splits : w.splits ≡ v.splits
  pub depth : w.depth ≡ v.depth

-- Each word stays. The seat made one look more, and all else that it knows stays. Each other view
-- stays.
pub record OnlyCounts (id : ℕ) (v w : View) (s t : Table) : Type 0 where
  pub words : t.words ≡ s.words
  pub seat : OneView id v w s t
  pub claimed : w.claimed ≡ v.claimed
  pub met : w.met ≡ v.met
  pub found : w.found ≡ v.found
  pub tries : w.tries ≡ v.tries
  pub looks : w.looks ≡ v.looks + 1
  pub splits : w.splits ≡ v.splits
  pub depth : w.depth ≡ v.depth

-- the view of a seat at this depth that knows nothing
pub record KnowsNothing (depth : ℕ) (w : View) : Type 0 where
  pub claimed : w.claimed ≡ []
  pub met : w.met ≡ []
  pub found : w.found ≡ None
  pub tries : w.tries ≡ 0
  pub looks : w.looks ≡ 0
  pub splits : w.splits ≡ 0
  pub at : w.depth ≡ depth

-- Each word stays. The seat made one split more, and all else that it knows stays. Each other view
-- stays, and behind them is that of a new seat, one split deeper, which knows nothing.
pub record AddsSeat (id : ℕ) (v w new : View) (s t : Table) : Type 0 where
  pub words : t.words ≡ s.words
  pub before : get_elem? s.views id ≡ some v
  pub views : t.views ≡ slice_set s.views id w ++ new ∷ []
  pub claimed : w.claimed ≡ v.claimed
  pub met : w.met ≡ v.met
  pub found : w.found ≡ v.found
  pub tries : w.tries ≡ v.tries
  pub looks : w.looks ≡ v.looks
  pub splits : w.splits ≡ v.splits + 1
  pub depth : w.depth ≡ v.depth
  pub empty : KnowsNothing (v.depth + 1) new

-- Each word stays. The kept seat, numbered id, has the lists of the spent one behind its own, and
-- its counts are the sums of theirs: no try, look or split of either is lost. The word that its
-- last try found and its depth stay. The spent seat knows nothing, and each other view stays.
pub record AddsUp (id spent : ℕ) (v u w x : View) (s t : Table) : Type 0 where
  pub words : t.words ≡ s.words
  pub kept_before : get_elem? s.views id ≡ some v
  pub spent_before : get_elem? s.views spent ≡ some u
  pub kept_after : get_elem? t.views id ≡ some w
  pub spent_after : get_elem? t.views spent ≡ some x
  pub others : (other : ℕ) → ¬ (other ≡ id) → ¬ (other ≡ spent)
      → get_elem? t.views other ≡ get_elem? s.views other
  pub claimed : w.claimed ≡ v.claimed ++ u.claimed
  pub met : w.met ≡ v.met ++ u.met
  pub found : w.found ≡ v.found
  pub tries : w.tries ≡ v.tries + u.tries
  pub looks : w.looks ≡ v.looks + u.looks
  pub splits : w.splits ≡ v.splits + u.splits
  pub depth : w.depth ≡ v.depth
  pub empty : KnowsNothing 1 x

-- The laws below are of a kind of step, by what it tells its seat: of the step, of what the seat
-- knew before, of the word found and of what the seat knows after.
abbrev pub Kind : Type 1
Kind = Step (Unit {0}) → Own → ℕ → Own → Type 0

-- only a compare-exchange of 0 for 1 is of the kind: every other call has another pair of operands
abbrev pub IsExchangeOnly : Kind → Type 0
IsExchangeOnly kind = (st : Step (Unit {0})) (m n : Own) (found : ℕ) → kind st m found n
    → (st.first ≡ 0) × (st.second ≡ 1)

-- a compare-exchange of the kind, whatever its operands and the state in which it is made, wins or
-- loses the piece
abbrev pub WinsOrLoses : Kind → Type 0
WinsOrLoses kind = (slots piece first second id : ℕ) (m n : Own) (s : Table) (a : Act (Unit {0}))
    → piece < length s.words → get_elem? s.views id ≡ some m.0
    → kind (step slots piece first second none) m (slice_index s.words piece) n
    → let word = slice_index s.words piece in
    let t = stepped s piece (either (word == first) second word) id m.1 n.0 a in
    IsWin piece id m.0 n.0 s t ⊎ IsLoss piece id m.0 n.0 s t

-- a load of the kind, of whatever word and state, is only counted
abbrev pub IsOnlyCounted : Kind → Type 0
IsOnlyCounted kind = (slots word id : ℕ) (m n : Own) (s : Table) (a : Act (Unit {0}))
    → get_elem? s.views id ≡ some m.0
    → kind (step slots word 0 0 none) m (slice_index s.words word) n
    → OnlyCounts id m.0 n.0 s (stepped s word (slice_index s.words word) id m.1 n.0 a)

-- a split into these two views, in whatever state, is counted and adds a seat that knows nothing
abbrev pub SplitsOff : (View → View) → (View → View) → Type 0
SplitsOff left right = (id : ℕ) (v : View) (s : Table) → get_elem? s.views id ≡ some v
    → AddsSeat id v (left v) (right v) s
    record s { views = slice_set s.views id (left v) ++ right v ∷ [] }

-- a join by these two views, in whatever state, puts the lists of the spent seat behind those of
-- the kept one, and adds the counts of both
abbrev pub AddsBothUp : (View → View → View) → View → Type 0
AddsBothUp both empty = (id spent : ℕ) (v u : View) (s : Table) → ¬ (spent ≡ id)
    → get_elem? s.views id ≡ some v → get_elem? s.views spent ≡ some u
    → AddsUp id spent v u (both v u) empty s
    record s { views = slice_set (slice_set s.views id (both v u)) spent empty }

-- A step of any kind, by a seat that knew v and then knows w, which keeps the rule.
pub record Keeps (pieces id : ℕ) (v w : View) (s t : Table) : Type 0 where
  pub before : IsKept pieces s
  pub after : IsKept pieces t
  pub seat : get_elem? s.views id ≡ some v
  pub step : (word new : ℕ) × (carried : List (ℕ × Unit {0})) × (a : Act (Unit {0}))
      × (t ≡ stepped s word new id carried w a)

-- where it leaves the claimed pieces of its seat, each piece that the seat then has met was claimed
-- before the step
abbrev pub NoneLosesFree : Type 0
NoneLosesFree = (pieces id : ℕ) (v w : View) (s t : Table) → Keeps pieces id v w s t
    → w.claimed ≡ v.claimed → (piece : ℕ) → Contains w.met piece → slice_index s.words piece ≡ 1

-- where it puts a piece behind them, the word of the piece was 0 and is 1
abbrev pub NoneWinsClaimed : Type 0
NoneWinsClaimed = (pieces id piece : ℕ) (v w : View) (s t : Table) → Keeps pieces id v w s t
    → w.claimed ≡ v.claimed ++ piece ∷ []
    → (slice_index s.words piece ≡ 0) × (slice_index t.words piece ≡ 1)
