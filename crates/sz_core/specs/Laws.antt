-- What a reader may take for granted of the machine: laws over every list of events.
use Rattle.std.specs.Prelude.{◌≡◌, ℕ, ◌<◌, List, map, length, drop, Bool, true, false, ◌||◌, ◌==◌}
use Rattle.std.specs.Prelude.{◌&&◌, if◌then◌else◌, Some, All}
use Rattle.std.specs.List.{slice_get, list_any, zip}
use Rattle.sz_cells.specs.declared.Cell.{Cell}
use Rattle.sz_cells.specs.Extent.{Extent, size_of, holds}
use Rattle.sz_cells.specs.Cells.{Cells}
use Rattle.sz_spec.specs.declared.flow.Node.{Node}
use Rattle.sz_spec.specs.Flows.{Graph, evaluations}
use Rattle.sz_spec.specs.Lineage.{related}
use Rattle.sz_spec.specs.Paths.{Step, inputs_of, compose}
use Rattle.sz_spec.specs.Values.{Grid, extent_at, extents_of}
use Rattle.sz_core.specs.declared.events.Event.{Event}
use Rattle.sz_core.specs.declared.events.Event.TheVariants.{Place, Seal, Look}
use Rattle.sz_core.specs.declared.events.Told.{Told}
use Rattle.sz_core.specs.declared.events.Told.TheVariants.{Placed, Already, SealedBefore, Sealed}
use Rattle.sz_core.specs.declared.events.Told.TheVariants.{Missing, FromStore, FromTrace, Ended}
use Rattle.sz_core.specs.declared.events.Told.TheVariants.{NoSuch}
use Rattle.sz_core.specs.declared.pairs.Pair.{Pair}
use Rattle.sz_core.specs.Events.{change_at, next_step, reply, next_state, last_state, replies}
use Rattle.sz_core.specs.Images.{say, compose_pairs}
use Rattle.sz_core.specs.Invariants.{AreAllPlaced}
use Rattle.sz_core.specs.Starts.{shapes_fit, first_shelf, first_shelves, start, is_query}
use Rattle.sz_core.specs.States.{State, Shelf, Ask, Query, shelf_at, whole_pairs}

-- each sealed shelf has every piece placed
abbrev pub IsSound : State → Type 0
IsSound s = (n : ℕ) → (shelf_at s.shelves n).sealed ≡ true
    → AreAllPlaced (length (shelf_at s.shelves n).pieces) (shelf_at s.shelves n).placed

-- it is so before any event, and after each
abbrev pub StatesAreSound : Type 0
StatesAreSound = ((flow : Graph) (base : List Extent) (pairs : List (List (List Pair)))
    (queries : List Query) → IsSound (start flow base pairs queries))
    × ((s : State) (events : List Event) → IsSound s → IsSound (last_state s events))

-- the cells to which the steps lead that an ask has not made, by all pairs of their shelves
abbrev pub to_come : List Shelf → Ask → Cells
to_come shelves a = compose_pairs a.dir shelves (drop a.made a.path) a.cells

-- no event changes the cells to which any ask will come
abbrev pub NoEventChangesWhatIsToCome : Type 0
NoEventChangesWhatIsToCome = (s : State) (events : List Event) → IsSound s
    → map (to_come (last_state s events).shelves) (last_state s events).asks
    ≡ map (to_come s.shelves) s.asks

-- an ask of which the next look would be told Ended holds the composition of all pairs of its
-- steps' shelves
abbrev pub EndedAsksHoldTheComposition : Type 0
EndedAsksHoldTheComposition = (s : State) (events : List Event) (n : ℕ) (a b : Ask) → IsSound s
    → slice_get s.asks n ≡ Some a → slice_get (last_state s events).asks n ≡ Some b
    → reply (last_state s events) (Look n) ≡ Ended
    → b.cells ≡ compose_pairs a.dir s.shelves (drop a.made a.path) a.cells

-- two lists of events after which an ask has ended leave it the same cells, whatever came in
-- between and in whatever order
abbrev pub OrderDoesNotMatter : Type 0
OrderDoesNotMatter = (s : State) (events others : List Event) (n : ℕ) (a b : Ask) → IsSound s
    → slice_get (last_state s events).asks n ≡ Some a
    → slice_get (last_state s others).asks n ≡ Some b
    → reply (last_state s events) (Look n) ≡ Ended → reply (last_state s others) (Look n) ≡ Ended
    → a.cells ≡ b.cells

-- a seal was told that the shelf is sealed
abbrev pub is_sealed_told : Told → Bool
is_sealed_told Placed = false
is_sealed_told Already = false
is_sealed_told SealedBefore = false
is_sealed_told Sealed = true
is_sealed_told (Missing k) = false
is_sealed_told FromStore = false
is_sealed_told FromTrace = false
is_sealed_told Ended = false
is_sealed_told NoSuch = false

-- the event is a seal of shelf n that was told Sealed
abbrev pub is_seal_of : ℕ → Event × Told → Bool
is_seal_of n (Place m k, told) = false
is_seal_of n (Seal m, told) = (m == n) && is_sealed_told told
is_seal_of n (Look m, told) = false

-- some of the events is
abbrev pub is_sealed_by : State → List Event → ℕ → Bool
is_sealed_by s events n = list_any (is_seal_of n) (zip events (replies s events))

-- a look that takes a step is told FromStore exactly where its shelf was sealed before, at first or
-- by one of the events, and else FromTrace
abbrev pub LooksAreFromStoresThatWereSealed : Type 0
LooksAreFromStoresThatWereSealed = (s : State) (events : List Event) (n : ℕ) (a : Ask) (p : Step)
    → slice_get (last_state s events).asks n ≡ Some a → next_step a ≡ Some p
    → p.node < length s.shelves
    → reply (last_state s events) (Look n)
    ≡ (if (shelf_at s.shelves p.node).sealed || is_sealed_by s events p.node
    then FromStore else FromTrace)

-- the state in which these pieces of shelf n are placed in place of those that are
abbrev pub with_placed : ℕ → List ℕ → State → State
with_placed n placed s =
    record s { shelves = change_at n (λ x. record x { placed = placed }) s.shelves }

-- what is placed on a shelf that is not sealed is not read: whatever it is, a look is told the
-- same, and leaves the same asks
abbrev pub PlacedPiecesAreNotReadBeforeTheSeal : Type 0
PlacedPiecesAreNotReadBeforeTheSeal = (s : State) (m n : ℕ) (placed : List ℕ)
    → (shelf_at s.shelves m).sealed ≡ false
    → (reply (with_placed m placed s) (Look n) ≡ reply s (Look n))
    × ((next_state (with_placed m placed s) (Look n)).asks ≡ (next_state s (Look n)).asks)

-- the pairs of each node's shelf say the operator's relation over the arrays that the node takes,
-- of cells that are there
abbrev pub SayTheRelations : Graph → List Grid → List (List (List Pair)) → Type 0
SayTheRelations flow base pairs = (n i : ℕ) (x : Node) (o c : Cell)
    → slice_get flow.nodes n ≡ Some x → i < length x.from
    → holds (first_shelf flow (extents_of base) pairs n).out o ≡ true
    → holds (extent_at (first_shelf flow (extents_of base) pairs n).ins i) c ≡ true
    → say (first_shelf flow (extents_of base) pairs n).out
    (extent_at (first_shelf flow (extents_of base) pairs n).ins i)
    (whole_pairs (first_shelf flow (extents_of base) pairs n)) i o c
    ≡ related x.op (inputs_of flow base (evaluations flow base) n) i o c

-- each index of the set is one of its shape
abbrev pub LiesInItsShape : Cells → Type 0
LiesInItsShape set = All (λ k. k < size_of set.extent) set.indexes

-- where the pairs say the operators' relations, an ask that ended holds the composed relation of
-- its query's path
abbrev pub EndedAsksHoldTheComposedRelation : Type 0
EndedAsksHoldTheComposedRelation =
    (flow : Graph) (base : List Grid) (pairs : List (List (List Pair))) (queries : List Query)
    (events : List Event) (n : ℕ) (q : Query) (b : Ask)
    → shapes_fit flow (extents_of base) ≡ true
    → length pairs ≡ length flow.nodes
    → is_query flow (first_shelves flow (extents_of base) pairs) q ≡ true
    → SayTheRelations flow base pairs → LiesInItsShape q.cells → slice_get queries n ≡ Some q
    → slice_get (last_state (start flow (extents_of base) pairs queries) events).asks n ≡ Some b
    → reply (last_state (start flow (extents_of base) pairs queries) events) (Look n) ≡ Ended
    → b.cells ≡ compose q.dir flow base (evaluations flow base) q.path q.cells
