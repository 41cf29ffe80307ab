-- What a seat knows at the places of a turn.
use Rattle.std.specs.Prelude.{◌≡◌, ℕ, [], ◌∷◌, true, None}
use Rattle.sz_shelf.specs.Tags.{tag_pieces}
use Rattle.sz_shelf.specs.Contents.{Contents, missing_in}
use Rattle.sz_shelf.specs.Rule.{Own, Begins, ArePieces, contents}
use Rattle.sz_shelf.specs.Steps.{IsFound, after_take}
use Rattle.sz_shelf.specs.declared.rule.View.{View}
use Rattle.sz_shelf.specs.declared.rule.Stage.TheVariants.{Idle, StoreOut}

-- the seat has no turn, and no store
abbrev pub IsIdle : Own → Type 0
IsIdle m = (m.0.stage ≡ Idle) × (m.1 ≡ [])

-- the seat has this store, and no other
abbrev pub Has : Contents → Own → Type 0
Has c m = m.1 ≡ (0, c) ∷ []

-- the seat has the store, as it has seen it
abbrev pub HasOut : Own → Type 0
HasOut m = (m.0.stage ≡ StoreOut) × Has (contents m.0.tag m.0.seen m.0.saw) m

-- a seat that knew v has taken the store, as it was found by a load of the count
abbrev pub HasTaken : View → Own → Type 0
HasTaken v n =
    (c : Contents) × (found : ℕ) × IsFound v found c × (n ≡ (after_take c v, (0, c) ∷ []))

-- A seat that knew v knows w once it has the store. It has one turn more, and found what it has
-- seen by now: a list that begins with the one it had seen, with no repeats, of pieces of the
-- output, and whole where there is a seal. Where it saw the seal, there is one.
pub record Entered (v w : View) : Type 0 where
  pub after : w ≡ after_take (contents v.tag w.seen w.saw) v
  pub begins : Begins v.seen w.seen
  pub pieces : ArePieces v.tag w.seen
  pub whole : w.saw ≡ true → missing_in (tag_pieces v.tag) w.seen ≡ None
  pub saw : v.saw ≡ true → w.saw ≡ true
