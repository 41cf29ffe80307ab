-- How pairs are indexed: for each cell on one side, the cells on the other side.
use Rattle.std.specs.Prelude.{◌≡◌, ℕ, ◌<◌, List, [], Bool, true, ◌&&◌, ◌==◌, length, All}
use Rattle.std.specs.List.{slice_index_or, list_any, flat_map}
use Rattle.sz_cells.specs.declared.Cell.{Cell}
use Rattle.sz_cells.specs.Extent.{Extent, size_of, index_of}
use Rattle.sz_cells.specs.Cells.{Cells, has, cells_where}
use Rattle.sz_spec.specs.declared.modes.Dir.{Dir}
use Rattle.sz_spec.specs.declared.modes.Dir.TheVariants.{Back, Forward}
use Rattle.sz_spec.specs.Sides.{extent_before, extent_after}
use Rattle.sz_spec.specs.Values.{no_extent}
use Rattle.sz_core.specs.declared.pairs.Pair.{Pair}

-- for each row-major index on one side, the row-major indexes of cells of a shape on the other
pub record Links : Type 0 where
  pub to : Extent
  pub groups : List (List ℕ)

-- the cell of a pair from which a step leads, and the one to which it leads
abbrev pub near_cell : Dir → Pair → ℕ
near_cell Back p = p.out
near_cell Forward p = p.cell

abbrev pub far_cell : Dir → Pair → ℕ
far_cell Back p = p.cell
far_cell Forward p = p.out

-- some index of a group is this one
abbrev pub is_among : List ℕ → ℕ → Bool
is_among group t = list_any (λ j. j == t) group

-- index k is linked to index t by groups, and by links
abbrev pub groups_lead : List (List ℕ) → ℕ → ℕ → Bool
groups_lead groups k t = is_among (slice_index_or groups k []) t

abbrev pub leads : Links → ℕ → ℕ → Bool
leads links k t = groups_lead links.groups k t

-- a pair of an input leads from index k to index t
abbrev pub pair_leads : Dir → ℕ → ℕ → ℕ → Pair → Bool
pair_leads dir input k t p = (p.input == input) && ((near_cell dir p == k) && (far_cell dir p == t))

-- the shapes of a node's output and of what the node takes, and the pairs of each piece of the
-- output
pub record Relation : Type 0 where
  pub out : Extent
  pub ins : List Extent
  pub pieces : List (List Pair)

-- an index of the pairs of input i, from cells of the shape `near` to cells of the shape `far`
pub record HasPairs (dir : Dir) (i : ℕ) (near far : Extent) (pairs : List Pair)
    (links : Links) : Type 0 where
  pub to : links.to ≡ far
  pub count : length links.groups ≡ size_of near
  pub led : (k t : ℕ) → leads links k t ≡ list_any (pair_leads dir i k t) pairs

abbrev pub relation_of : Extent → List Extent → List (List Pair) → Relation
relation_of out ins pieces = record { out = out; ins = ins; pieces = pieces }

-- the links of no pair, for an index that is not there
abbrev pub no_links : Links
no_links = record { to = no_extent; groups = [] }

-- one index for each input of a relation
pub record AreIndexesOf (dir : Dir) (r : Relation) (indexes : List Links) : Type 0 where
  pub count : length indexes ≡ length r.ins
  pub each : (i : ℕ) → i < length r.ins
      → HasPairs dir i (extent_before dir r.out r.ins i) (extent_after dir r.out r.ins i)
      (flat_map (λ pairs. pairs) r.pieces) (slice_index_or indexes i no_links)

-- the pair is of another input, or lies within so many indexes on the near side and the shape on
-- the far side
abbrev pub LiesWithin : Dir → ℕ → ℕ → Extent → Pair → Type 0
LiesWithin dir input count to p = p.input ≡ input → (near_cell dir p < count)
    × (far_cell dir p < size_of to)

-- each pair of a relation whose input is there lies within its shapes
abbrev pub PairsLieWithin : Relation → Type 0
PairsLieWithin r = (dir : Dir) (i : ℕ) → i < length r.ins
    → All (All (LiesWithin dir i (size_of (extent_before dir r.out r.ins i))
    (extent_after dir r.out r.ins i))) r.pieces

-- each index to which one is linked is an index of the shape
abbrev pub LeadInto : Extent → List (List ℕ) → Type 0
LeadInto to groups = (k t : ℕ) → groups_lead groups k t ≡ true → t < size_of to

-- a set that is seen as the cells of its shape that it has
abbrev pub IsSpelled : Cells → Type 0
IsSpelled set = cells_where set.extent (has set) ≡ set

-- the cells of a shape to which some index of a list is linked
abbrev pub is_linked_from : List (List ℕ) → List ℕ → Extent → Cell → Bool
is_linked_from groups ks to x = list_any (λ k. groups_lead groups k (index_of to x)) ks

-- the cells to which some index of the set is linked
abbrev pub cells_linked : Links → Cells → Cells
cells_linked links set = cells_where links.to (is_linked_from links.groups set.indexes links.to)
