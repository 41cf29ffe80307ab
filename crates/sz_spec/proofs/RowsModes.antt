-- Rows of modes, payloads and pieces: which strategy a query step uses, which payloads are an operator's, what
-- is kept for a cell and what it stands for, and how many pieces there are.
--
-- The key idea: on written-out lists, arrays and bytes every definition is a computation, so each row is its
-- own proof. Expected values by hand.
use Rattle.std.proofs.Common.{◌≡◌, ℕ, Bool, pos, true, false, List, [], ◌∷◌, map, refl}
use Rattle.std.specs.List.{flat_map}
use Rattle.sz_cells.specs.Extent.{Extent, flat, layered, cell_of}
use Rattle.sz_spec.specs.declared.op.Op.{Op}
use Rattle.sz_spec.specs.declared.op.Op.TheVariants as op
use Rattle.sz_spec.specs.declared.modes.Dir.TheVariants.{Back, Forward}
use Rattle.sz_spec.specs.declared.modes.Mode.TheVariants as mode
use Rattle.sz_spec.specs.declared.modes.Strategy.TheVariants as strategy
use Rattle.sz_spec.specs.Values.{Grid, extent_at, extents_of}
use Rattle.sz_spec.specs.Shapes.{output_extent}
use Rattle.sz_spec.specs.Modes.{has_mode, way, is_stored}
use Rattle.sz_spec.specs.Payloads.{is_payload, mapped_by_payload, payload_of, overrides}
use Rattle.sz_spec.specs.Pieces.{pieces_of, is_in_piece}
use Rattle.sz_spec.proofs.RowsArrays.{n, none, grid, hills}

-- ---- the way

-- what is indexed for queries of the direction comes first; one cell comes before many; the mapping comes before all,
-- and running again is last
pub ways-back : map (λ list. way list Back)
    ((strategy.FullOneF ∷ strategy.FullOneB ∷ []) ∷ (strategy.FullManyF ∷ strategy.FullManyB ∷ [])
    ∷ (strategy.FullManyB ∷ strategy.FullOneB ∷ [])
    ∷ (strategy.BlackBox ∷ strategy.FullOneB ∷ strategy.Map ∷ [])
    ∷ (strategy.BlackBox ∷ strategy.FullManyF ∷ []) ∷ (strategy.BlackBox ∷ []) ∷ [])
    ≡ strategy.FullOneB ∷ strategy.FullManyB ∷ strategy.FullOneB ∷ strategy.Map ∷ strategy.FullManyF
    ∷ strategy.BlackBox ∷ []
ways-back = refl

pub ways-forward : map (λ list. way list Forward)
    ((strategy.FullOneB ∷ strategy.FullOneF ∷ []) ∷ (strategy.FullManyB ∷ strategy.FullManyF ∷ [])
    ∷ (strategy.FullManyF ∷ strategy.FullOneF ∷ [])
    ∷ (strategy.FullOneF ∷ strategy.Map ∷ strategy.BlackBox ∷ [])
    ∷ (strategy.BlackBox ∷ strategy.CompMany ∷ []) ∷ [])
    ≡ strategy.FullOneF ∷ strategy.FullManyF ∷ strategy.FullOneF ∷ strategy.Map ∷ strategy.CompMany ∷ []
ways-forward = refl

-- backward payloads come before what is indexed for forward queries, forward after all pairs
pub way-payload : way (strategy.FullOneF ∷ strategy.FullManyF ∷ strategy.CompMany ∷ []) Back
    ≡ strategy.CompMany
way-payload = refl

pub way-payload_forward : way (strategy.PayOne ∷ strategy.CompOne ∷ strategy.FullManyB ∷ []) Forward
    ≡ strategy.FullManyB
way-payload_forward = refl

pub way-pay_one : way (strategy.CompOne ∷ strategy.PayMany ∷ strategy.PayOne ∷ []) Back ≡ strategy.PayOne
way-pay_one = refl

pub way-comp_one : way (strategy.CompMany ∷ strategy.PayMany ∷ strategy.CompOne ∷ []) Forward
    ≡ strategy.CompOne
way-comp_one = refl

pub way-pay_many : way (strategy.CompMany ∷ strategy.PayMany ∷ []) Back ≡ strategy.PayMany
way-pay_many = refl

-- one list, in both directions: whatever is listed later, the direction's order tells
pub way-each_direction : (let list = strategy.FullManyB ∷ strategy.FullOneB ∷ strategy.FullManyF
    ∷ strategy.FullOneF ∷ [] in (way list Back ≡ strategy.FullOneB) × (way list Forward ≡ strategy.FullOneF))
way-each_direction = (refl, refl)

pub way-other_index : (way (strategy.FullManyB ∷ strategy.PayOne ∷ strategy.FullOneB ∷ []) Forward
    ≡ strategy.FullOneB)
    × (way (strategy.FullManyF ∷ strategy.BlackBox ∷ strategy.FullOneF ∷ []) Back ≡ strategy.FullOneF)
way-other_index = (refl, refl)

pub way-payload_first : (let list = strategy.CompMany ∷ strategy.PayMany ∷ strategy.CompOne ∷ strategy.PayOne ∷ [] in
    (way list Back ≡ strategy.PayOne) × (way list Forward ≡ strategy.PayOne))
way-payload_first = (refl, refl)

pub way-composite_first : (let list = strategy.CompMany ∷ strategy.PayMany ∷ strategy.CompOne ∷ [] in
    (way list Back ≡ strategy.CompOne) × (way list Forward ≡ strategy.CompOne))
way-composite_first = (refl, refl)

pub way-payload_of_many : (let list = strategy.BlackBox ∷ strategy.CompMany ∷ strategy.PayMany ∷ [] in
    (way list Back ≡ strategy.PayMany) × (way list Forward ≡ strategy.PayMany))
way-payload_of_many = (refl, refl)

-- ---- modes

pub mapped-by_shapes : (has_mode op.Neg mode.Map ≡ true) × (has_mode op.Neg mode.Pay ≡ false)
    × (has_mode op.Neg mode.Comp ≡ false)
mapped-by_shapes = (refl, refl, refl)

pub mapped-by_values : (has_mode op.Lookup mode.Map ≡ false) × (has_mode op.Lookup mode.Pay ≡ true)
    × (has_mode op.Lookup mode.Comp ≡ true)
mapped-by_values = (refl, refl, refl)

pub stored : (is_stored strategy.Map ≡ false) × (is_stored strategy.BlackBox ≡ false)
    × (is_stored strategy.CompOne ≡ true)
stored = (refl, refl, refl)

-- ---- payloads

-- what is kept for the output's cell of index k, and whether a composite store keeps it
abbrev kept : Op → List Grid → ℕ → List ℕ
kept o inputs k = payload_of o inputs (cell_of (output_extent o (extents_of inputs)) k)

abbrev is_kept : Op → List Grid → ℕ → Bool
is_kept o inputs k = overrides o inputs (cell_of (output_extent o (extents_of inputs)) k)

-- a payload of the output's cell of index k stands for the cell of index j of input i
abbrev stands : Op → List Extent → List ℕ → ℕ → ℕ → ℕ → Bool
stands o ins payload i k j =
    mapped_by_payload o ins payload i (cell_of (output_extent o ins) k) (cell_of (extent_at ins i) j)

-- ---- of lookup: no byte, or four bytes of a column of the table

-- two names, and a table of 300 columns
abbrev ends : List Extent
ends = flat 1 2 ∷ flat 1 300 ∷ []

pub column-last : is_payload op.Lookup ends (0 ∷ 0 ∷ 1 ∷ 43 ∷ []) ≡ true
column-last = refl

pub column-past : is_payload op.Lookup ends (0 ∷ 0 ∷ 1 ∷ 44 ∷ []) ≡ false
column-past = refl

pub column-none : is_payload op.Lookup ends [] ≡ true
column-none = refl

pub column-short : is_payload op.Lookup ends (0 ∷ 0 ∷ 1 ∷ []) ≡ false
column-short = refl

pub column-long : is_payload op.Lookup ends (0 ∷ 0 ∷ 0 ∷ 1 ∷ 0 ∷ []) ≡ false
column-long = refl

-- the first name is empty, and the second is 258
abbrev names : List Grid
names = grid 1 2 (none ∷ n 258 ∷ []) ∷ record { extent = flat 1 300; values = [] } ∷ []

pub column-kept : kept op.Lookup names 1 ≡ 0 ∷ 0 ∷ 1 ∷ 2 ∷ []
column-kept = refl

pub column-not_kept : kept op.Lookup names 0 ≡ []
column-not_kept = refl

-- a composite store keeps it for the matched ones alone
pub column-overrides : (is_kept op.Lookup names 1 ≡ true) × (is_kept op.Lookup names 0 ≡ false)
column-overrides = (refl, refl)

pub column-stands : stands op.Lookup ends (0 ∷ 0 ∷ 1 ∷ 2 ∷ []) 1 1 258 ≡ true
column-stands = refl

pub column-other : stands op.Lookup ends (0 ∷ 0 ∷ 1 ∷ 2 ∷ []) 1 1 2 ≡ false
column-other = refl

pub column-same_cell : stands op.Lookup ends [] 0 1 1 ≡ true
column-same_cell = refl

pub column-other_cell : stands op.Lookup ends [] 0 1 0 ≡ false
column-other_cell = refl

pub column-no_cell : stands op.Lookup ends [] 1 0 0 ≡ false
column-no_cell = refl

-- ---- of clean: the byte 0 or 1

abbrev clean : Op
clean = op.Clean (pos 5)

pub flag-zero : is_payload clean (flat 2 2 ∷ []) (0 ∷ []) ≡ true
flag-zero = refl

pub flag-one : is_payload clean (flat 2 2 ∷ []) (1 ∷ []) ≡ true
flag-one = refl

pub flag-two : is_payload clean (flat 2 2 ∷ []) (2 ∷ []) ≡ false
flag-two = refl

pub flag-none : is_payload clean (flat 2 2 ∷ []) [] ≡ false
flag-none = refl

pub flag-long : is_payload clean (flat 2 2 ∷ []) (1 ∷ 1 ∷ []) ≡ false
flag-long = refl

pub flag-kept : (kept clean (hills ∷ []) 0 ≡ 1 ∷ []) × (kept clean (hills ∷ []) 2 ≡ 0 ∷ [])
flag-kept = (refl, refl)

-- a composite store keeps it for the hot ones alone
pub flag-overrides : (is_kept clean (hills ∷ []) 0 ≡ true) × (is_kept clean (hills ∷ []) 2 ≡ false)
flag-overrides = (refl, refl)

-- the byte 1 stands for the square of the cell's layer, and 0 for the cell
pub flag-square : stands clean (layered 2 2 2 ∷ []) (1 ∷ []) 0 3 0 ≡ true
flag-square = refl

pub flag-layer : stands clean (layered 2 2 2 ∷ []) (1 ∷ []) 0 3 5 ≡ false
flag-layer = refl

pub flag-cell : (stands clean (flat 2 2 ∷ []) (0 ∷ []) 0 3 3 ≡ true)
    × (stands clean (flat 2 2 ∷ []) (0 ∷ []) 0 3 0 ≡ false)
flag-cell = (refl, refl)

-- ---- of regions: no byte, or the bytes of the component

abbrev regions : Op
regions = op.Regions (pos 5)

-- the bytes of so many runs, each from a first to a last index below 256
abbrev spelled : ℕ → List (ℕ × ℕ) → List ℕ
spelled count runs = 0 ∷ 0 ∷ 0 ∷ count ∷ flat_map
    (λ r. 0 ∷ 0 ∷ 0 ∷ r.0 ∷ 0 ∷ 0 ∷ 0 ∷ r.1 ∷ []) runs

-- two runs, 0 to 1 and 4 to 4
abbrev hill : List ℕ
hill = spelled 2 ((0, 1) ∷ (4, 4) ∷ [])

pub hill-kept : kept regions (hills ∷ []) 4 ≡ hill
hill-kept = refl

pub hill-not_kept : kept regions (hills ∷ []) 2 ≡ []
hill-not_kept = refl

-- a composite store keeps it for the high ones alone, and none for an operator with a mapping
pub hill-overrides : (is_kept regions (hills ∷ []) 4 ≡ true) × (is_kept regions (hills ∷ []) 2 ≡ false)
    × (is_kept op.Neg (hills ∷ []) 4 ≡ false)
hill-overrides = (refl, refl, refl)

pub hill-payload : is_payload regions (flat 3 3 ∷ []) hill ≡ true
hill-payload = refl

pub hill-none : is_payload regions (flat 3 3 ∷ []) [] ≡ true
hill-none = refl

-- of a smaller shape, with a byte more, with a run cut in two, with a run that falls, and with another number
-- of runs, they are no payload
pub hill-outside : is_payload regions (flat 2 2 ∷ []) hill ≡ false
hill-outside = refl

pub hill-byte_more : is_payload regions (flat 3 3 ∷ []) (0 ∷ 0 ∷ 0 ∷ 0 ∷ 0 ∷ []) ≡ false
hill-byte_more = refl

pub hill-cut : is_payload regions (flat 3 3 ∷ []) (spelled 2 ((0, 0) ∷ (1, 1) ∷ [])) ≡ false
hill-cut = refl

pub hill-falls : is_payload regions (flat 3 3 ∷ []) (spelled 1 ((1, 0) ∷ [])) ≡ false
hill-falls = refl

pub hill-other_number : is_payload regions (flat 3 3 ∷ []) (spelled 1 ((0, 1) ∷ (4, 4) ∷ [])) ≡ false
hill-other_number = refl

pub hill-stands : (stands regions (flat 3 3 ∷ []) hill 0 4 1 ≡ true)
    × (stands regions (flat 3 3 ∷ []) hill 0 4 3 ≡ false)
hill-stands = (refl, refl)

pub hill-cell : (stands regions (flat 3 3 ∷ []) [] 0 2 2 ≡ true)
    × (stands regions (flat 3 3 ∷ []) [] 0 2 1 ≡ false)
hill-cell = (refl, refl)

-- the other operators have no payload
pub others : is_payload op.Neg (flat 1 1 ∷ []) [] ≡ false
others = refl

-- ---- pieces

pub pieces-one : pieces_of (flat 1 1) ≡ 1
pieces-one = refl

pub pieces-full : pieces_of (flat 4 16) ≡ 1
pieces-full = refl

pub pieces-two : pieces_of (flat 5 13) ≡ 2
pieces-two = refl

pub pieces-most : pieces_of (layered 16 256 256) ≡ 16384
pieces-most = refl

-- index 63 is the last of piece 0, and 64 the first of piece 1, which has one cell
pub piece-last : is_in_piece (flat 5 13) 0 (cell_of (flat 5 13) 63) ≡ true
piece-last = refl

pub piece-next : (is_in_piece (flat 5 13) 0 (cell_of (flat 5 13) 64) ≡ false)
    × (is_in_piece (flat 5 13) 1 (cell_of (flat 5 13) 64) ≡ true)
piece-next = (refl, refl)

pub piece-outside : is_in_piece (flat 5 13) 1 (cell_of (flat 5 13) 65) ≡ false
piece-outside = refl
