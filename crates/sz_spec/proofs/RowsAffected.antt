-- Rows of what a changed base array changes: the affected cells of each node.
--
-- The key idea: on written-out flows and arrays the definition is a computation. Expected values by hand. Sets are
-- given by the row-major indexes of their cells.
use Rattle.std.proofs.Common.{◌≡◌, ℕ, pos, List, [], ◌∷◌, map, refl}
use Rattle.sz_cells.specs.Cells.{Cells}
use Rattle.sz_cells.specs.Extent.{flat}
use Rattle.sz_spec.specs.declared.op.Op.TheVariants as op
use Rattle.sz_spec.specs.declared.op.Fold.TheVariants as fold
use Rattle.sz_spec.specs.declared.flow.SourceRef.TheVariants.{Input, Node as Output}
use Rattle.sz_spec.specs.Values.{Grid}
use Rattle.sz_spec.specs.Flows.{Graph}
use Rattle.sz_spec.specs.Affected.{affected, cells_in}
use Rattle.sz_spec.proofs.RowsArrays.{node, flow, n, grid, at}

-- the indexes of the affected cells of each node
abbrev reached : Graph → List Grid → List Grid → ℕ → Cells → List (List ℕ)
reached g old new input changed = map (λ (set : Cells). set.indexes) (affected g old new input changed)

abbrev row : List ℕ → Grid
row cells = grid 1 3 (map n cells)

abbrev regions : Graph
regions = flow 1 (node (op.Regions (pos 5)) (Input 0 ∷ []) ∷ [])

-- a pixel that becomes high joins two regions: it was related to itself alone, and is now to all three
pub regions-joined : reached regions (row (9 ∷ 0 ∷ 9 ∷ []) ∷ []) (row (9 ∷ 8 ∷ 9 ∷ []) ∷ []) 0 (at (flat 1 3) (1 ∷ []))
    ≡ (0 ∷ 1 ∷ 2 ∷ []) ∷ []
regions-joined = refl

-- and one that becomes low parts them
pub regions-parted : reached regions (row (9 ∷ 8 ∷ 9 ∷ []) ∷ []) (row (9 ∷ 0 ∷ 9 ∷ []) ∷ []) 0 (at (flat 1 3) (1 ∷ []))
    ≡ (0 ∷ 1 ∷ 2 ∷ []) ∷ []
regions-parted = refl

-- a cell that is named is changed, though its value stays
pub named-stays : reached regions (row (9 ∷ 0 ∷ 0 ∷ []) ∷ []) (row (9 ∷ 0 ∷ 0 ∷ []) ∷ []) 0 (at (flat 1 3) (2 ∷ []))
    ≡ (2 ∷ []) ∷ []
named-stays = refl

pub none-named : reached regions (row (9 ∷ 0 ∷ 0 ∷ []) ∷ []) (row (9 ∷ 0 ∷ 0 ∷ []) ∷ []) 0 (at (flat 1 3) []) ≡ [] ∷ []
none-named = refl

-- a hot cell becomes sound: what was hot stood on its square, and the others on themselves
pub cleaned : reached (flow 1 (node (op.Clean (pos 100)) (Input 0 ∷ []) ∷ [])) (row (1 ∷ 300 ∷ 3 ∷ []) ∷ [])
    (row (1 ∷ 2 ∷ 3 ∷ []) ∷ []) 0 (at (flat 1 3) (1 ∷ [])) ≡ (1 ∷ []) ∷ []
cleaned = refl

-- a neighbour of a hot cell changes
pub cleaned-beside : reached (flow 1 (node (op.Clean (pos 100)) (Input 0 ∷ []) ∷ [])) (row (1 ∷ 300 ∷ 3 ∷ []) ∷ [])
    (row (7 ∷ 300 ∷ 3 ∷ []) ∷ []) 0 (at (flat 1 3) (0 ∷ [])) ≡ (0 ∷ 1 ∷ []) ∷ []
cleaned-beside = refl

-- node 0 is the negation of base array 0, node 1 its sum with base array 0, and node 2 that of base array 1 with itself
abbrev diamond : Graph
diamond = flow 2 (node op.Neg (Input 0 ∷ []) ∷ node op.Add (Output 0 ∷ Input 0 ∷ [])
    ∷ node op.Add (Input 1 ∷ Input 1 ∷ []) ∷ [])

-- what stands on the changed array alone is reached, though both base arrays are one array
pub diamond-first : reached diamond (row (1 ∷ 2 ∷ 3 ∷ []) ∷ row (1 ∷ 2 ∷ 3 ∷ []) ∷ [])
    (row (1 ∷ 5 ∷ 3 ∷ []) ∷ row (1 ∷ 2 ∷ 3 ∷ []) ∷ []) 0 (at (flat 1 3) (1 ∷ [])) ≡ (1 ∷ []) ∷ (1 ∷ []) ∷ [] ∷ []
diamond-first = refl

pub diamond-second : reached diamond (row (1 ∷ 2 ∷ 3 ∷ []) ∷ row (1 ∷ 2 ∷ 3 ∷ []) ∷ [])
    (row (1 ∷ 2 ∷ 3 ∷ []) ∷ row (1 ∷ 5 ∷ 3 ∷ []) ∷ []) 1 (at (flat 1 3) (1 ∷ [])) ≡ [] ∷ [] ∷ (1 ∷ []) ∷ []
diamond-second = refl

-- a node behind another stands on its affected cells: a sum over a row of what two regions were
pub behind : reached
    (flow 1 (node (op.Regions (pos 5)) (Input 0 ∷ []) ∷ node (op.Block fold.Sum 1 2) (Output 0 ∷ []) ∷ []))
    (row (9 ∷ 0 ∷ 9 ∷ []) ∷ []) (row (9 ∷ 8 ∷ 9 ∷ []) ∷ []) 0 (at (flat 1 3) (1 ∷ []))
    ≡ (0 ∷ 1 ∷ 2 ∷ []) ∷ (0 ∷ 1 ∷ []) ∷ []
behind = refl

pub counted : cells_in (at (flat 1 3) (0 ∷ 2 ∷ []) ∷ at (flat 1 3) [] ∷ at (flat 1 1) (0 ∷ []) ∷ []) ≡ 3
counted = refl
