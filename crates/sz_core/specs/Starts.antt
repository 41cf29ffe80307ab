-- What a machine is made of: a flow, shapes of its base arrays, pairs for each piece of each node's
-- output, and queries.
use Rattle.std.specs.Prelude.{ℕ, ◌/◌, List, [], map, length, Bool, false, ◌&&◌, ◌==◌, nat_lt, is_ok}
use Rattle.std.specs.List.{slice_get, slice_index_or, list_all, enumerate_from, range_with_len}
use Rattle.std.specs.Option.{option_map_or}
use Rattle.std.specs.Result.{result_unwrap_or}
use Rattle.sz_cells.specs.Extent.{Extent, size_of}
use Rattle.sz_spec.specs.Flows.{Graph}
use Rattle.sz_spec.specs.FlowShapes.{node_inputs, output_shapes}
use Rattle.sz_spec.specs.declared.modes.Dir.{Dir}
use Rattle.sz_spec.specs.Paths.{Step, is_joined}
use Rattle.sz_spec.specs.Pieces.{pieces_of}
use Rattle.sz_spec.specs.Shapes.{are_equal}
use Rattle.sz_spec.specs.Sides.{extent_before}
use Rattle.sz_spec.specs.Values.{extent_at}
use Rattle.sz_core.specs.declared.pairs.Pair.{Pair}
use Rattle.sz_core.specs.States.{State, Shelf, Ask, Query, shelf_at}

-- there is one shape for each base array, and the shape rule of each node holds
abbrev pub shapes_fit : Graph → List Extent → Bool
shapes_fit flow base = (length base == flow.inputs) && is_ok (output_shapes flow base)

-- the shapes of the outputs of all nodes, where they fit
abbrev pub shapes_made : Graph → List Extent → List Extent
shapes_made flow base = result_unwrap_or (output_shapes flow base) []

-- the shapes that node n takes
abbrev pub shapes_taken : Graph → List Extent → ℕ → List Extent
shapes_taken flow base n =
    option_map_or (node_inputs base (shapes_made flow base)) (slice_get flow.nodes n) []

-- the shelf of node n with these pairs, before any event
abbrev pub shelf_of : Graph → List Extent → ℕ → List (List Pair) → Shelf
shelf_of flow base n pieces = record {
  out = extent_at (shapes_made flow base) n;
  ins = shapes_taken flow base n;
  pieces = pieces;
  placed = [];
  sealed = false;
}

-- the shelves of all nodes before any event
abbrev pub first_shelf : Graph → List Extent → List (List (List Pair)) → ℕ → Shelf
first_shelf flow base pairs n = shelf_of flow base n (slice_index_or pairs n [])

abbrev pub first_shelves : Graph → List Extent → List (List (List Pair)) → List Shelf
first_shelves flow base pairs = map (first_shelf flow base pairs) (range_with_len 0 (length pairs))

-- an ask before any event
abbrev pub first_ask : Query → Ask
first_ask q = record { dir = q.dir; path = q.path; made = 0; cells = q.cells }

-- the state before any event
abbrev pub start : Graph → List Extent → List (List (List Pair)) → List Query → State
start flow base pairs queries =
    record { shelves = first_shelves flow base pairs; asks = map first_ask queries }

-- a pair of piece k of a shelf: its output cell lies in the piece, and its input and its cell of
-- that are there
abbrev pub is_pair_of : Shelf → ℕ → Pair → Bool
is_pair_of s k p = (nat_lt p.out (size_of s.out) && (p.out / 64 == k))
    && (nat_lt p.input (length s.ins) && nat_lt p.cell (size_of (extent_at s.ins p.input)))

-- a shelf has one list for each piece of its node's output, and each pair of it is one of that
-- piece
abbrev pub is_shelf : Shelf → Bool
is_shelf s = (length s.pieces == pieces_of s.out)
    && list_all (λ e. list_all (is_pair_of s e.0) e.1) (enumerate_from 0 s.pieces)

-- there is one shelf for each node
abbrev pub are_shelves : Graph → List Extent → List (List (List Pair)) → Bool
are_shelves flow base pairs =
    (length pairs == length flow.nodes) && list_all is_shelf (first_shelves flow base pairs)

-- the set's shape is the one that the step takes
abbrev pub fits_step : Dir → List Shelf → Extent → Step → Bool
fits_step dir shelves e s =
    are_equal e (extent_before dir (shelf_at shelves s.node).out (shelf_at shelves s.node).ins
    s.input)

-- the query's path is joined, and its cells have the shape that its first step takes
abbrev pub is_query : Graph → List Shelf → Query → Bool
is_query flow shelves q = is_joined q.dir flow q.path
    && option_map_or (fits_step q.dir shelves q.cells.extent) (slice_get q.path 0) false

-- each of the queries is one over these shelves
abbrev pub are_queries : Graph → List Shelf → List Query → Bool
are_queries flow shelves queries = list_all (is_query flow shelves) queries
