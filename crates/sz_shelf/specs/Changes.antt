-- What each kind of step changes, on the words, the slot and the views of all seats.
use Rattle.std.specs.Prelude.{◌≡◌, ◌==◌, ℕ, ◌+◌, ◌<◌, ◌||◌, ◌⊎◌, [], ◌∷◌, ◌++◌, true, false}
use Rattle.std.specs.Prelude.{None, length, slice_set}
use mathlib.Core.Option.{none, some}
use lib.ListN.{get_elem?}
use prog.Atomic.{either}
use Rattle.atomic_table.specs.Table.{Step, Act, step, stepped, Valid, carried_after}
use Rattle.sz_shelf.specs.Tags.{Tag, tag_pieces}
use Rattle.sz_shelf.specs.Contents.{Contents, is_in, missing_in}
use Rattle.sz_shelf.specs.declared.rule.View.{View}
use Rattle.sz_shelf.specs.declared.rule.Stage.TheVariants.{Idle, InTurn, StoreOut}
use Rattle.sz_shelf.specs.Rule.{Table, Own, IsKept, is_spent, last_of, contents}
use Rattle.sz_shelf.specs.Rules.{flag_in, count_in, slot_in}
use Rattle.sz_shelf.specs.Steps.{longer}

-- the view numbered id was v and is w, and each other view is as it was
pub record OneView (id : ℕ) (v w : View) (s u : Table) : Type 0 where
  pub before : get_elem? s.views id ≡ some v
  pub after : get_elem? u.views id ≡ some w
  pub others : (other : ℕ) → ¬ (other ≡ id) → get_elem? u.views other ≡ get_elem? s.views other

-- the flag was 0 and is 1, the count and the slot stay, and the seat, which was idle, is in its
-- turn
pub record IsWon (id : ℕ) (v w : View) (s u : Table) : Type 0 where
  pub free : flag_in s ≡ 0
  pub flag : flag_in u ≡ 1
  pub count : count_in u ≡ count_in s
  pub slot : slot_in u ≡ slot_in s
  pub seat : OneView id v w s u
  pub idle : v.stage ≡ Idle
  pub view : w ≡ record v { stage = InTurn }

-- the flag is 1, and nothing changes
pub record IsLost (id : ℕ) (v w : View) (s u : Table) : Type 0 where
  pub held : flag_in s ≡ 1
  pub words : u.words ≡ s.words
  pub slot : slot_in u ≡ slot_in s
  pub seat : OneView id v w s u
  pub view : w ≡ v

-- The words stay. The store was in its slot and is out with the seat, which was in its turn: it has
-- one turn more, it has seen and found the list of that store, and it saw and found a seal exactly
-- where the count has its last value.
pub record IsTaken (id : ℕ) (v w : View) (s u : Table) : Type 0 where
  pub store : Contents
  pub words : u.words ≡ s.words
  pub slot : slot_in s ≡ some (some store)
  pub away : slot_in u ≡ some none
  pub sealed : store.sealed ≡ (count_in s == last_of v.tag)
  pub seat : OneView id v w s u
  pub turn : v.stage ≡ InTurn
  pub view : w ≡ record v {
    stage = StoreOut;
    seen = store.placed;
    saw = store.sealed;
    turns = v.turns + 1;
    found = store.placed;
    found_sealed = store.sealed;
  }

-- one piece more, which was not there
pub record IsOnePieceMore (v w : View) (u : Table) (piece : ℕ) : Type 0 where
  pub new : is_in v.seen piece ≡ false
  pub inside : piece < tag_pieces v.tag
  pub view : w ≡ record v { seen = v.seen ++ piece ∷ [] }
  pub count : count_in u ≡ length w.seen

-- the seal, where every piece is there
pub record IsSealed (v w : View) (u : Table) : Type 0 where
  pub whole : missing_in (tag_pieces v.tag) v.seen ≡ None
  pub view : w ≡ record v { saw = true }
  pub count : count_in u ≡ last_of v.tag

-- The flag stays, and the store is out with the seat, which did not see a seal: its list grows by
-- one piece, or it sees the seal.
pub record IsCounted (id : ℕ) (v w : View) (s u : Table) : Type 0 where
  pub flag : flag_in u ≡ flag_in s
  pub away : slot_in s ≡ some none
  pub slot : slot_in u ≡ slot_in s
  pub seat : OneView id v w s u
  pub turn : v.stage ≡ StoreOut
  pub unsealed : v.saw ≡ false
  pub grows : ((piece : ℕ) × IsOnePieceMore v w u piece) ⊎ IsSealed v w u

-- the words stay, and the store, which was out with the seat, is in its slot, as the seat saw it
pub record IsGiven (id : ℕ) (v w : View) (s u : Table) : Type 0 where
  pub words : u.words ≡ s.words
  pub away : slot_in s ≡ some none
  pub slot : slot_in u ≡ some (some (contents v.tag v.seen v.saw))
  pub seat : OneView id v w s u
  pub turn : v.stage ≡ StoreOut
  pub view : w ≡ record v { stage = InTurn }

-- the flag is 0, the count and the slot stay, and the seat, which was in its turn, is idle
pub record IsReleased (id : ℕ) (v w : View) (s u : Table) : Type 0 where
  pub flag : flag_in u ≡ 0
  pub count : count_in u ≡ count_in s
  pub slot : slot_in u ≡ slot_in s
  pub seat : OneView id v w s u
  pub turn : v.stage ≡ InTurn
  pub view : w ≡ record v { stage = Idle }

-- the words and the slot stay, and the seat, which is idle, has one load more; it saw the seal
-- where it had seen it, or where the count has its last value
pub record IsLoaded (id : ℕ) (v w : View) (s u : Table) : Type 0 where
  pub words : u.words ≡ s.words
  pub slot : slot_in u ≡ slot_in s
  pub seat : OneView id v w s u
  pub idle : v.stage ≡ Idle
  pub view : w ≡ record v { loads = v.loads + 1; saw = v.saw || (count_in s == last_of v.tag) }

-- The words and the slot stay. The seat made one split more, and all else that it knows stays. Each
-- other view stays, and behind them is that of a new seat, which knows what the one that was split
-- knows, and made no turn, no load and no split.
pub record IsSplit (id : ℕ) (v : View) (s u : Table) : Type 0 where
  pub words : u.words ≡ s.words
  pub homes : u.homes ≡ s.homes
  pub before : get_elem? s.views id ≡ some v
  pub views : u.views ≡ slice_set s.views id (record v { splits = v.splits + 1 })
      ++ record v { turns = 0; loads = 0; splits = 0 } ∷ []

-- The words and the slot stay. The kept seat has the longer list and the seal bit of either, and
-- its counts are the sums of theirs: no turn, load or split of either is lost. All else that it
-- knows stays. The other seat is spent, and each other view stays.
pub record IsJoined (id spent : ℕ) (v x : View) (s u : Table) : Type 0 where
  pub words : u.words ≡ s.words
  pub homes : u.homes ≡ s.homes
  pub kept_before : get_elem? s.views id ≡ some v
  pub spent_before : get_elem? s.views spent ≡ some x
  pub kept_after : get_elem? u.views id
      ≡ some (record v {
        seen = longer v.seen x.seen;
        saw = v.saw || x.saw;
        turns = v.turns + x.turns;
        loads = v.loads + x.loads;
        splits = v.splits + x.splits;
      })
  pub spent_after : (y : View) × (get_elem? u.views spent ≡ some y) × (is_spent y.stage ≡ true)
  pub others : (other : ℕ) → ¬ (other ≡ id) → ¬ (other ≡ spent)
      → get_elem? u.views other ≡ get_elem? s.views other

-- A step by the seat numbered id of a table with one slot, in which the rule holds: it writes a
-- word, and what the seat knows and has out becomes n, by some act on the slot.
pub record IsStep (t : Tag) (word new id : ℕ) (m n : Own) (s u : Table) : Type 0 where
  pub kept : IsKept t s
  pub one : length s.homes ≡ 1
  pub seat : get_elem? s.views id ≡ some m.0
  pub act : Act Contents
  pub valid : Valid s.homes m.1 act
  pub carried : n.1 ≡ carried_after m.1 act
  pub after : u ≡ stepped s word new id m.1 n.0 act

-- The laws are of a kind of step, by what it tells its seat: of the step, of what the seat knew and
-- had out, of the word found, and of what it then knows and has out.
abbrev pub Kind : Type 1
Kind = Step Contents → Own → ℕ → Own → Type 0

-- what the kind of step is where the seat has nothing out before
abbrev pub WinsOrLoses : Kind → Type 0
WinsOrLoses kind = (t : Tag) (slots id : ℕ) (m n : Own) (s u : Table) → m.1 ≡ []
    → IsStep t 0 (either (flag_in s == 0) 1 (flag_in s)) id m n s u
    → kind (step slots 0 0 1 none) m (flag_in s) n
    → IsWon id m.0 n.0 s u ⊎ IsLost id m.0 n.0 s u

abbrev pub Takes : Kind → Type 0
Takes kind = (t : Tag) (slots id : ℕ) (m n : Own) (s u : Table) → m.1 ≡ []
    → IsStep t 1 (count_in s) id m n s u → kind (step slots 1 0 0 none) m (count_in s) n
    → IsTaken id m.0 n.0 s u

abbrev pub Releases : Kind → Type 0
Releases kind = (t : Tag) (slots id found : ℕ) (m n : Own) (s u : Table) → m.1 ≡ []
    → IsStep t 0 0 id m n s u → kind (step slots 0 0 0 none) m found n
    → IsReleased id m.0 n.0 s u

abbrev pub Loads : Kind → Type 0
Loads kind = (t : Tag) (slots id : ℕ) (m n : Own) (s u : Table) → m.1 ≡ []
    → IsStep t 1 (count_in s) id m n s u → kind (step slots 1 0 0 none) m (count_in s) n
    → IsLoaded id m.0 n.0 s u

-- and where it has the store out
abbrev pub Counts : Kind → Type 0
Counts kind = (t : Tag) (slots id count found : ℕ) (m n : Own) (s u : Table)
    → IsStep t 1 count id m n s u → kind (step slots 1 count 0 none) m found n
    → IsCounted id m.0 n.0 s u

abbrev pub GivesBack : Kind → Type 0
GivesBack kind = (t : Tag) (slots id found : ℕ) (m n : Own) (s u : Table)
    → IsStep t 1 (count_in s) id m n s u → kind (step slots 1 0 0 none) m found n
    → IsGiven id m.0 n.0 s u

-- a split into these two views, and a join by these two, in whatever state
abbrev pub Splits : (View → View) → (View → View) → Type 0
Splits left right = (id : ℕ) (v : View) (s : Table) → get_elem? s.views id ≡ some v
    → IsSplit id v s record s { views = slice_set s.views id (left v) ++ right v ∷ [] }

abbrev pub Joins : (View → View → View) → View → Type 0
Joins both empty = (id spent : ℕ) (v x : View) (s : Table) → ¬ (spent ≡ id)
    → get_elem? s.views id ≡ some v → get_elem? s.views spent ≡ some x
    → IsJoined id spent v x s
    record s { views = slice_set (slice_set s.views id (both v x)) spent empty }
