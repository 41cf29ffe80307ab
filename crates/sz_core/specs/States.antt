-- The state of the machine: what each shelf has, and how far each ask is.
use Rattle.std.specs.Prelude.{ℕ, List, [], Bool, false, not, ◌==◌, length, Option}
use Rattle.std.specs.Prelude.{if◌then◌else◌}
use Rattle.std.specs.List.{slice_index_or, list_any, flat_map, find, range_with_len}
use Rattle.sz_cells.specs.Extent.{Extent}
use Rattle.sz_cells.specs.Cells.{Cells}
use Rattle.sz_spec.specs.declared.modes.Dir.{Dir}
use Rattle.sz_spec.specs.Paths.{Step}
use Rattle.sz_spec.specs.Values.{no_extent}
use Rattle.sz_core.specs.declared.pairs.Pair.{Pair}

-- a query: a direction, a path, and the cells that it starts with
pub record Query : Type 0 where
  pub dir : Dir
  pub path : List Step
  pub cells : Cells

-- the shelf of a node: the shapes of the node's output and of what it takes, the pairs of each
-- piece of the output, the
-- pieces placed so far in their order, and whether it is sealed
pub record Shelf : Type 0 where
  pub out : Extent
  pub ins : List Extent
  pub pieces : List (List Pair)
  pub placed : List ℕ
  pub sealed : Bool

-- an ask: a query's direction and path, how many steps of it are made, and the cells that they led
-- to
pub record Ask : Type 0 where
  pub dir : Dir
  pub path : List Step
  pub made : ℕ
  pub cells : Cells

pub record State : Type 0 where
  pub shelves : List Shelf
  pub asks : List Ask

-- a shelf that is not there: no step of a joined path is on one
abbrev pub no_shelf : Shelf
no_shelf = record { out = no_extent; ins = []; pieces = []; placed = []; sealed = false }

abbrev pub shelf_at : List Shelf → ℕ → Shelf
shelf_at shelves n = slice_index_or shelves n no_shelf

-- the piece is placed, and the least piece that is not
abbrev pub is_placed : Shelf → ℕ → Bool
is_placed s k = list_any (λ j. j == k) s.placed

abbrev pub missing_piece : Shelf → Option ℕ
missing_piece s = find (λ k. not (is_placed s k)) (range_with_len 0 (length s.pieces))

-- the pairs of a piece, of the pieces that are placed, and of all pieces
abbrev pub piece_pairs : Shelf → ℕ → List Pair
piece_pairs s k = slice_index_or s.pieces k []

abbrev pub placed_pairs : Shelf → List Pair
placed_pairs s = flat_map (piece_pairs s) s.placed

abbrev pub whole_pairs : Shelf → List Pair
whole_pairs s = flat_map (λ pairs. pairs) s.pieces

-- the pairs that a look takes: of the placed pieces where the shelf is sealed, else of all pieces,
-- as tracing gives
abbrev pub pairs_taken : Shelf → List Pair
pairs_taken s = if s.sealed then placed_pairs s else whole_pairs s
