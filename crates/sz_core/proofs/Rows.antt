-- Rows computed against the definitions: events, what they are told, and what the asks hold. The expected values
-- are by hand.
use Rattle.std.proofs.Common.{◌≡◌, ℕ, true, false, List, [], ◌∷◌, map, refl, None}
use Rattle.sz_cells.specs.Extent.{Extent, flat}
use Rattle.sz_cells.specs.Cells.{named_in}
use Rattle.sz_spec.specs.declared.modes.Dir.{Dir}
use Rattle.sz_spec.specs.declared.modes.Dir.TheVariants.{Back, Forward}
use Rattle.sz_spec.specs.declared.flow.SourceRef.TheVariants as source
use Rattle.sz_spec.specs.declared.op.Op.TheVariants.{Add}
use Rattle.sz_spec.specs.Flows.{Graph, flow_fault}
use Rattle.sz_spec.specs.Paths.{Step}
use Rattle.sz_core.specs.declared.events.Event.{Event}
use Rattle.sz_core.specs.declared.events.Event.TheVariants.{Place, Seal, Look}
use Rattle.sz_core.specs.declared.events.Told.TheVariants.{Placed, Already, SealedBefore, Sealed}
use Rattle.sz_core.specs.declared.events.Told.TheVariants.{Missing, FromStore, FromTrace, Ended}
use Rattle.sz_core.specs.declared.events.Told.TheVariants.{NoSuch}
use Rattle.sz_core.specs.Events.{last_state, replies}
use Rattle.sz_core.specs.Examples.{pair, region_flow, region_pairs, sum_flow, first_pairs}
use Rattle.sz_core.specs.Examples.{second_pairs}
use Rattle.sz_core.specs.Starts.{shapes_fit, start, first_shelves, are_shelves, are_queries}
use Rattle.sz_core.specs.States.{State, Query}

abbrev step : ℕ → ℕ → Step
step node input = record { node = node; input = input }

-- a query from one cell of a shape of one layer
abbrev query_from : Dir → List Step → Extent → ℕ → ℕ → Query
query_from dir path e row col =
    record { dir = dir; path = path; cells = named_in e (record { row = row; col = col } ∷ []) }

-- what the asks of a state hold
abbrev cells_held : State → List (List ℕ)
cells_held s = map (λ a. a.cells.indexes) s.asks

-- ---- the regions of a small image, with two asks backward from its middle

abbrev square : Extent
square = flat 3 3

abbrev middle : Query
middle = query_from Back (step 0 0 ∷ []) square 1 1

abbrev regions : State
regions = start region_flow (square ∷ []) (region_pairs ∷ []) (middle ∷ middle ∷ [])

abbrev region_events : List Event
region_events = Look 0 ∷ Look 0 ∷ Seal 0 ∷ Place 0 0 ∷ Place 0 0 ∷ Seal 0 ∷ Place 0 0 ∷ Look 1 ∷ Seal
    5 ∷ []

region-conditions : (flow_fault region_flow ≡ None) × (shapes_fit region_flow (square ∷ []) ≡ true)
    × (are_shelves region_flow (square ∷ []) (region_pairs ∷ []) ≡ true)
    × (are_queries region_flow (first_shelves region_flow (square ∷ []) (region_pairs ∷ [])) (middle ∷ []) ≡
    true)
region-conditions = (refl, refl, refl, refl)

region-replies : replies regions region_events
    ≡ FromTrace ∷ Ended ∷ Missing 0 ∷ Placed ∷ Already ∷ Sealed ∷ SealedBefore ∷ FromStore ∷ NoSuch
    ∷ []
region-replies = refl

region-cells : cells_held (last_state regions region_events) ≡ (0 ∷ 1 ∷ 4 ∷ []) ∷ (0 ∷ 1 ∷ 4 ∷ []) ∷
    []
region-cells = refl

-- a shelf is wanted for each node, a list for each piece, and each pair in its piece and in range
missing-shelf : are_shelves region_flow (square ∷ []) [] ≡ false
missing-shelf = refl

piece-too-many : are_shelves region_flow (square ∷ []) (([] ∷ [] ∷ []) ∷ []) ≡ false
piece-too-many = refl

cell-out-of-range : are_shelves region_flow (square ∷ []) (((pair 0 0 9 ∷ []) ∷ []) ∷ []) ≡ false
cell-out-of-range = refl

last-cell-in-range : are_shelves region_flow (square ∷ []) (((pair 8 0 8 ∷ []) ∷ []) ∷ []) ≡ true
last-cell-in-range = refl

input-out-of-range : are_shelves region_flow (square ∷ []) (((pair 0 1 0 ∷ []) ∷ []) ∷ []) ≡ false
input-out-of-range = refl

output-out-of-range : are_shelves region_flow (square ∷ []) (((pair 9 0 0 ∷ []) ∷ []) ∷ []) ≡ false
output-out-of-range = refl

-- ---- two nodes over a row of 70 cells, in two pieces

abbrev row : Extent
row = flat 1 70

abbrev queries : List Query
queries = query_from Back (step 1 0 ∷ step 0 0 ∷ []) row 0 69 ∷ query_from Back (step 1 1 ∷ []) row 0 7
    ∷ query_from Forward (step 0 0 ∷ step 1 0 ∷ []) row 0 65 ∷ []

abbrev sums : State
sums = start sum_flow (row ∷ []) (first_pairs ∷ second_pairs ∷ []) queries

sum-conditions : (flow_fault sum_flow ≡ None) × (shapes_fit sum_flow (row ∷ []) ≡ true)
    × (are_shelves sum_flow (row ∷ []) (first_pairs ∷ second_pairs ∷ []) ≡ true)
    × (are_queries sum_flow (first_shelves sum_flow (row ∷ []) (first_pairs ∷ second_pairs ∷ [])) queries ≡
    true)
sum-conditions = (refl, refl, refl, refl)

-- the least missing piece is told, whatever was placed before it
sum-replies : replies sums (Look 0 ∷ Place 0 1 ∷ Seal 0 ∷ Place 0 0 ∷ Seal 0 ∷ Look 0 ∷ Look 0 ∷ Look 2
    ∷ Place 1 0 ∷ Seal 1 ∷ Look 2 ∷ Look 1 ∷ [])
    ≡ FromTrace ∷ Placed ∷ Missing 0 ∷ Placed ∷ Sealed ∷ FromStore ∷ Ended ∷ FromStore ∷ Placed ∷
    Missing 1 ∷ FromTrace ∷ FromTrace ∷ []
sum-replies = refl

sum-cells : cells_held (last_state sums (Look 0 ∷ Look 0 ∷ Look 1 ∷ Look 2 ∷ Look 2 ∷ [])) ≡
    (1 ∷ 2 ∷ 65 ∷ []) ∷ (9 ∷ []) ∷ (7 ∷ 69 ∷ []) ∷ []
sum-cells = refl

-- a piece and an ask that are not there
none-there : replies sums (Place 1 2 ∷ Place 2 0 ∷ Look 3 ∷ []) ≡ NoSuch ∷ NoSuch ∷ NoSuch ∷ []
none-there = refl

-- a pair in the other piece, a path that is not joined, and cells of another shape are refused
other-piece : are_shelves sum_flow (row ∷ []) (first_pairs ∷ ((pair 64 0 3 ∷ []) ∷ [] ∷ []) ∷ []) ≡
    false
other-piece = refl

not-joined : are_queries sum_flow (first_shelves sum_flow (row ∷ []) (first_pairs ∷ second_pairs ∷ []))
    (query_from Back (step 1 1 ∷ step 0 0 ∷ []) row 0 69 ∷ []) ≡ false
not-joined = refl

other-shape : are_queries sum_flow (first_shelves sum_flow (row ∷ []) (first_pairs ∷ second_pairs ∷ []))
    (query_from Back (step 1 0 ∷ []) (flat 70 1) 0 0 ∷ []) ≡ false
other-shape = refl

-- shapes fit where there is one for each base array, no fewer and no more, and where each node's rule holds
counts-that-fit : map (shapes_fit region_flow) ([] ∷ (square ∷ []) ∷ (square ∷ square ∷ []) ∷ [])
    ≡ false ∷ true ∷ false ∷ []
counts-that-fit = refl

abbrev added : Graph
added = record {
  inputs = 2;
  nodes = record { op = Add; from = source.Input 0 ∷ source.Input 1 ∷ [] } ∷ [];
}

unequal-shapes : map (shapes_fit added) ((flat 2 3 ∷ flat 2 3 ∷ []) ∷ (flat 2 3 ∷ flat 3 2 ∷ []) ∷ []) ≡
    true ∷ false ∷ []
unequal-shapes = refl

-- a piece is placed once, none after the seal, and one that is not there neither before nor after it
abbrev placed_on : State → List (List ℕ)
placed_on s = map (λ x. x.placed) s.shelves

placed-once : placed_on (last_state regions (Place 0 1 ∷ Place 0 0 ∷ Place 0 0 ∷ [])) ≡ (0 ∷ []) ∷ []
placed-once = refl

placed-in-order : placed_on (last_state sums (Place 0 1 ∷ Place 1 0 ∷ Place 0 0 ∷ Place 0 1 ∷ [])) ≡
    (1 ∷ 0 ∷ []) ∷ (0 ∷ []) ∷ []
placed-in-order = refl

not-there-after-the-seal : replies regions (Place 0 1 ∷ Place 0 0 ∷ Seal 0 ∷ Place 0 1 ∷ []) ≡ NoSuch ∷
    Placed ∷ Sealed ∷ NoSuch ∷ []
not-there-after-the-seal = refl

-- cells 0 to 63 are of the first piece, and those from 64 on of the second
last-of-first-piece : are_shelves sum_flow (row ∷ []) (first_pairs ∷ ((pair 63 0 3 ∷ []) ∷ [] ∷ []) ∷ [])
    ≡ true
last-of-first-piece = refl

not-in-second-piece : are_shelves sum_flow (row ∷ []) (first_pairs ∷ ([] ∷ (pair 63 0 3 ∷ []) ∷ []) ∷ [])
    ≡ false
not-in-second-piece = refl

-- forward, the cells are those of the named input: the same path backward and forward starts in other shapes
forward-shape : are_queries sum_flow (first_shelves sum_flow (row ∷ []) (first_pairs ∷ second_pairs ∷ []))
    (query_from Forward (step 0 0 ∷ step 1 1 ∷ []) row 0 65 ∷ []) ≡ false
forward-shape = refl
