-- The rule read aloud: what holds of the words, the slot and all views between any two steps.
use Rattle.std.specs.Prelude.{◌≡◌, ℕ, ◌<◌, ◌⊎◌, List, true, false, None, All, length}
use Rattle.std.specs.Prelude.{slice_index}
use mathlib.Core.Option.{Option, none, some}
use lib.ListN.{get_elem?}
use Rattle.sz_shelf.specs.Tags.{Tag, tag_pieces}
use Rattle.sz_shelf.specs.Contents.{Contents, missing_in}
use Rattle.sz_shelf.specs.declared.rule.View.{View}
use Rattle.sz_shelf.specs.Rule.{Table, Begins, HasNoRepeats, is_busy, has_store, is_spent, last_of}

-- the flag, the count, and the slot: none while the store is out
abbrev pub flag_in : Table → ℕ
flag_in s = slice_index s.words 0

abbrev pub count_in : Table → ℕ
count_in s = slice_index s.words 1

abbrev pub slot_in : Table → Option (Option Contents)
slot_in s = get_elem? s.homes 0

-- the seat numbered id, which is not spent, knows v
abbrev pub IsSeat : Table → ℕ → View → Type 0
IsSeat s id v = (get_elem? s.views id ≡ some v) × (is_spent v.stage ≡ false)

-- no seat is in a turn, and one is, and no other
abbrev pub NoneIsBusy : Table → Type 0
NoneIsBusy s = (id : ℕ) (v : View) → IsSeat s id v → is_busy v.stage ≡ false

pub record OneIsBusy (s : Table) : Type 0 where
  pub id : ℕ
  pub view : View
  pub seat : IsSeat s id view
  pub busy : is_busy view.stage ≡ true
  pub others : (other : ℕ) (v : View) → IsSeat s other v → is_busy v.stage ≡ true → other ≡ id

-- no seat has the store out
abbrev pub NoneHasStore : Table → Type 0
NoneHasStore s = (id : ℕ) (v : View) → IsSeat s id v → has_store v.stage ≡ false

-- What lies in the slot: it is of the tag, these pieces are placed in it, and where it is sealed,
-- the count has its last value. What its stores stand for is said by the type of the slot's value.
pub record IsAtHome (t : Tag) (placed : List ℕ) (s : Table) (c : Contents) : Type 0 where
  pub slot : slot_in s ≡ some (some c)
  pub tag : c.tag ≡ t
  pub list : c.placed ≡ placed
  pub sealed : c.sealed ≡ true → count_in s ≡ last_of t

-- The placed list is that of the seat which has the store out, and where none has, that of the
-- slot. All seats have one tag. The placed list has no repeats and only pieces of the output, and
-- the list of each seat is a beginning of it. The flag is 1 exactly where one seat is in a turn,
-- and 0 exactly where none is. The store is in its slot exactly where no seat has it. The count is
-- the number of placed pieces, or it has its last value, and then every piece is placed. It has its
-- last value where a seat saw the seal; and where it has it, the seat that has the store saw the
-- seal.
pub record Rules (t : Tag) (s : Table) : Type 0 where
  pub placed : List ℕ
  pub holder : (id : ℕ) (v : View) → IsSeat s id v → has_store v.stage ≡ true → v.seen ≡ placed
  pub tag : (id : ℕ) (v : View) → IsSeat s id v → v.tag ≡ t
  pub once : HasNoRepeats placed
  pub below : All (λ k. k < tag_pieces t) placed
  pub begins : (id : ℕ) (v : View) → IsSeat s id v → Begins v.seen placed
  pub flag_one : flag_in s ≡ 1 → OneIsBusy s
  pub one_flag : OneIsBusy s → flag_in s ≡ 1
  pub flag_none : flag_in s ≡ 0 → NoneIsBusy s
  pub none_flag : NoneIsBusy s → flag_in s ≡ 0
  pub home : NoneHasStore s → (c : Contents) × IsAtHome t placed s c
  pub home_none : (c : Contents) → slot_in s ≡ some (some c)
      → NoneHasStore s × IsAtHome t placed s c
  pub away : (id : ℕ) (v : View) → IsSeat s id v → has_store v.stage ≡ true → slot_in s ≡ some none
  pub count : (count_in s ≡ length placed)
      ⊎ ((count_in s ≡ last_of t) × (missing_in (tag_pieces t) placed ≡ None))
  pub saw : (id : ℕ) (v : View) → IsSeat s id v → v.saw ≡ true → count_in s ≡ last_of t
  pub holder_saw : (id : ℕ) (v : View) → IsSeat s id v → has_store v.stage ≡ true
      → count_in s ≡ last_of t → v.saw ≡ true
