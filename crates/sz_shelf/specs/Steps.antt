-- What each kind of step tells the seat that takes it, and what the seat knows after it.
use Rattle.std.specs.Prelude.{◌≡◌, ◌==◌, ℕ, ◌+◌, ◌<◌, ◌≤◌, List, [], ◌∷◌, ◌++◌, true, false}
use Rattle.std.specs.Prelude.{None, length, nat_lt, ◌||◌, ◌⊎◌, if◌then◌else◌}
use Rattle.atomic_table.specs.Table.{Step}
use Rattle.sz_shelf.specs.Tags.{tag_pieces}
use Rattle.sz_shelf.specs.Contents.{Contents, is_in, missing_in}
use Rattle.sz_shelf.specs.Rule.{Own, Begins, ArePieces, last_of, count_of, contents}
use Rattle.sz_shelf.specs.declared.rule.View.{View}
use Rattle.sz_shelf.specs.declared.rule.Stage.TheVariants.{Idle, InTurn, StoreOut}

-- the view once its seat has the turn, and once the turn has ended
abbrev pub after_win : View → View
after_win v = record v { stage = InTurn }

abbrev pub after_release : View → View
after_release v = record v { stage = Idle }

-- the view once its seat has the store, with what was found in it
abbrev pub after_take : Contents → View → View
after_take c v = record v {
  seen = c.placed;
  saw = c.sealed;
  stage = StoreOut;
  turns = v.turns + 1;
  found = c.placed;
  found_sealed = c.sealed;
}

-- the view once what its seat did to the store is counted
abbrev pub after_count : Contents → View → View
after_count c v = record v { seen = c.placed; saw = c.sealed }

-- the view after a load out of turn, which found this count
abbrev pub after_load : ℕ → View → View
after_load found v =
    record v { loads = v.loads + 1; saw = v.saw || (found == last_of v.tag) }

-- the view after a split, and that of the seat that was split off: it knows the same, and made no
-- step
abbrev pub after_split : View → View
after_split v = record v { splits = v.splits + 1 }

abbrev pub parted_view : View → View
parted_view v = record v { turns = 0; loads = 0; splits = 0 }

-- the longer of two lists, the first where they are equally long
abbrev pub longer : List ℕ → List ℕ → List ℕ
longer xs ys = if nat_lt (length xs) (length ys) then ys else xs

-- the kept view after a join: its counts are the sums of those of both
abbrev pub after_join : View → View → View
after_join v spent = record v {
  seen = longer v.seen spent.seen;
  saw = v.saw || spent.saw;
  turns = v.turns + spent.turns;
  loads = v.loads + spent.loads;
  splits = v.splits + spent.splits;
}

-- A try is an exchange of 0 for 1. It found 0, and the seat has the turn; or it found 1, and
-- nothing changes.
pub record IsTry (st : Step Contents) (m : Own) (found : ℕ) (n : Own) : Type 0 where
  pub word : (st.word ≡ 0) × (st.first ≡ 0) × (st.second ≡ 1)
  pub idle : m.0.stage ≡ Idle
  pub win : found ≡ 0 → n ≡ (after_win m.0, m.1)
  pub loss : ¬ (found ≡ 0) → (found ≡ 1) × (n ≡ m)

-- What the seat finds in the store: stores of its own tag, whose placed list begins with its own.
-- They are sealed exactly where the count has its last value, and then every piece is placed. Where
-- the seat saw a seal, they are sealed.
pub record IsFound (v : View) (found : ℕ) (c : Contents) : Type 0 where
  pub tag : c.tag ≡ v.tag
  pub begins : Begins v.seen c.placed
  pub pieces : ArePieces v.tag c.placed
  pub last : c.sealed ≡ (found == last_of v.tag)
  pub whole : c.sealed ≡ true → missing_in (tag_pieces v.tag) c.placed ≡ None
  pub saw : v.saw ≡ true → c.sealed ≡ true

-- a load of the count by a seat in its turn, with which the store leaves its slot
pub record IsTaking (st : Step Contents) (m : Own) (found : ℕ) (n : Own) : Type 0 where
  pub word : (st.word ≡ 1) × (st.first ≡ 0) × (st.second ≡ 0)
  pub turn : m.0.stage ≡ InTurn
  pub store : Contents
  pub is : IsFound m.0 found store
  pub after : n ≡ (after_take store m.0, (0, store) ∷ m.1)

-- what is counted: one piece more that was not there, or the seal, where every piece is there
pub record IsOneMore (v : View) (c : Contents) (piece : ℕ) : Type 0 where
  pub placed : c.placed ≡ v.seen ++ piece ∷ []
  pub sealed : c.sealed ≡ false
  pub new : is_in v.seen piece ≡ false
  pub inside : piece < tag_pieces v.tag
  pub few : length c.placed ≤ tag_pieces v.tag

pub record IsSealing (v : View) (c : Contents) : Type 0 where
  pub placed : c.placed ≡ v.seen
  pub sealed : c.sealed ≡ true
  pub whole : missing_in (tag_pieces v.tag) v.seen ≡ None

abbrev pub Grows : View → Contents → Type 0
Grows v c = ((piece : ℕ) × IsOneMore v c piece) ⊎ IsSealing v c

-- A store to the count by a seat that has the store and did not see a seal. What is stored is the
-- count of what it has by now, which is a piece more than it had seen, or a seal.
pub record IsCounting (st : Step Contents) (m n : Own) : Type 0 where
  pub store : Contents
  pub out : m.1 ≡ (0, store) ∷ []
  pub turn : m.0.stage ≡ StoreOut
  pub unsealed : m.0.saw ≡ false
  pub word : (st.word ≡ 1) × (st.first ≡ count_of m.0.tag store.placed store.sealed)
  pub grows : Grows m.0 store
  pub after : n ≡ (after_count store m.0, m.1)

-- A load of the count by a seat that has the store, with which the store goes back to its slot, as
-- the seat has seen it.
pub record IsGiving (st : Step Contents) (m n : Own) : Type 0 where
  pub word : (st.word ≡ 1) × (st.first ≡ 0) × (st.second ≡ 0)
  pub turn : m.0.stage ≡ StoreOut
  pub store : m.1 ≡ (0, contents m.0.tag m.0.seen m.0.saw) ∷ []
  pub after : n ≡ (after_win m.0, [])

-- a store of 0 to the flag by a seat in its turn
pub record IsReleasing (st : Step Contents) (m n : Own) : Type 0 where
  pub word : (st.word ≡ 0) × (st.first ≡ 0)
  pub turn : m.0.stage ≡ InTurn
  pub after : n ≡ (after_release m.0, m.1)

-- A load of the count by an idle seat. Where the seat saw a seal, the count has its last value.
pub record IsLoad (st : Step Contents) (m : Own) (found : ℕ) (n : Own) : Type 0 where
  pub word : (st.word ≡ 1) × (st.first ≡ 0) × (st.second ≡ 0)
  pub idle : m.0.stage ≡ Idle
  pub saw : m.0.saw ≡ true → found ≡ last_of m.0.tag
  pub after : n ≡ (after_load found m.0, m.1)
