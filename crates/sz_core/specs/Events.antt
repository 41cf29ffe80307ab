-- What each event is told, and the state after it.
use Rattle.std.specs.Prelude.{ℕ, ◌+◌, List, [], ◌∷◌, ◌++◌, length, true, not, nat_lt, ◌&&◌}
use Rattle.std.specs.Prelude.{if◌then◌else◌, Option, Some, None, is_none}
use Rattle.std.specs.List.{slice_get, slice_set}
use Rattle.std.specs.Option.{option_map_or}
use Rattle.sz_spec.specs.Paths.{Step}
use Rattle.sz_core.specs.declared.events.Event.{Event}
use Rattle.sz_core.specs.declared.events.Event.TheVariants.{Place, Seal, Look}
use Rattle.sz_core.specs.declared.events.Told.{Told}
use Rattle.sz_core.specs.declared.events.Told.TheVariants.{Placed, Already, SealedBefore, Sealed}
use Rattle.sz_core.specs.declared.events.Told.TheVariants.{Missing, FromStore, FromTrace, Ended}
use Rattle.sz_core.specs.declared.events.Told.TheVariants.{NoSuch}
use Rattle.sz_core.specs.States.{State, Shelf, Ask, shelf_at, is_placed, missing_piece, pairs_taken}
use Rattle.sz_core.specs.Images.{image_by}

-- a list with what f makes of its element n in that one's place, where it has one
abbrev pub change_at : {A : Type 0} → ℕ → (A → A) → List A → List A
change_at n f xs = option_map_or (λ x. slice_set xs n (f x)) (slice_get xs n) xs

-- piece k is placed on a shelf: it is added once, and only while the shelf is not sealed
abbrev pub place_reply : ℕ → Shelf → Told
place_reply k s = if nat_lt k (length s.pieces)
    then (if s.sealed then SealedBefore else if is_placed s k then Already else Placed) else NoSuch

abbrev pub after_place : ℕ → Shelf → Shelf
after_place k s = if nat_lt k (length s.pieces) && (not s.sealed && not (is_placed s k))
    then record s { placed = s.placed ++ k ∷ [] } else s

-- a shelf is sealed where every piece is placed; else the least piece that is not placed is told
abbrev pub seal_reply : Shelf → Told
seal_reply s = option_map_or Missing (missing_piece s) Sealed

abbrev pub after_seal : Shelf → Shelf
after_seal s = if is_none (missing_piece s) then record s { sealed = true } else s

-- the next step of an ask, if it has not made them all
abbrev pub next_step : Ask → Option Step
next_step a = slice_get a.path a.made

-- an ask looks in the shelf of its next step, and takes that step
abbrev pub look_reply : List Shelf → Ask → Told
look_reply shelves a = reply_at (next_step a) where
  reply_at : Option Step → Told
  reply_at None = Ended
  reply_at (Some s) = if (shelf_at shelves s.node).sealed then FromStore else FromTrace

abbrev pub step_on : Shelf → ℕ → Ask → Ask
step_on x i a =
    record a { made = a.made + 1; cells = image_by (pairs_taken x) a.dir x.out x.ins i a.cells }

abbrev pub after_look : List Shelf → Ask → Ask
after_look shelves a = after_at (next_step a) where
  after_at : Option Step → Ask
  after_at None = a
  after_at (Some s) = step_on (shelf_at shelves s.node) s.input a

-- what an event is told: a number that is out of range names nothing
abbrev pub reply : State → Event → Told
reply s (Place n k) = option_map_or (place_reply k) (slice_get s.shelves n) NoSuch
reply s (Seal n) = option_map_or seal_reply (slice_get s.shelves n) NoSuch
reply s (Look n) = option_map_or (look_reply s.shelves) (slice_get s.asks n) NoSuch

-- the state after an event
abbrev pub next_state : State → Event → State
next_state s (Place n k) = record s { shelves = change_at n (after_place k) s.shelves }
next_state s (Seal n) = record s { shelves = change_at n after_seal s.shelves }
next_state s (Look n) = record s { asks = change_at n (after_look s.shelves) s.asks }

-- the state after events, one after the other, and what each of them is told
abbrev pub last_state : State → List Event → State
last_state s [] = s
last_state s (e ∷ events) = last_state (next_state s e) events

abbrev pub replies : State → List Event → List Told
replies s [] = []
replies s (e ∷ events) = reply s e ∷ replies (next_state s e) events
