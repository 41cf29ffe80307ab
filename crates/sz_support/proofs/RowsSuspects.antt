-- Rows of suspects, node by node, and of the laws: arrays that differ in one pixel, and cells that keep their values.
--
-- The key idea: on written-out flows and arrays every definition is a computation. Expected values by hand. Sets are
-- given by the row-major indexes of their cells.
use Rattle.std.proofs.Common.{◌≡◌, ℕ, zero, suc, ℤ, pos, List, [], ◌∷◌, map, Option}
use Rattle.std.proofs.Common.{None, Bool, ◌==◌, refl, sym, ◌∙◌, arith, unwrap_or, eq-eqb}
use Rattle.std.specs.List.{slice_get}
use Rattle.std.proofs.lemmas.Bool.{and_from, true≢false}
use Rattle.sz_cells.specs.declared.Cell.{Cell}
use Rattle.sz_cells.specs.Extent.{flat, index_of}
use Rattle.sz_cells.specs.Cells.{Cells, is_same}
use Rattle.sz_spec.specs.declared.op.Op.TheVariants as op
use Rattle.sz_spec.specs.declared.flow.SourceRef.TheVariants.{Input, Node as Output}
use Rattle.sz_spec.specs.Values.{Grid, value_at, input_at}
use Rattle.sz_spec.specs.Flows.{Graph, evaluations}
use Rattle.sz_spec.specs.LawsDependence.{CanRun}
use Rattle.sz_spec.proofs.RowsArrays.{node, flow, n, grid, at, kernel}
use Rattle.sz_spec.proofs.RowsDependence.{of-three}
use Rattle.sz_support.specs.LawsSupports.{IsLedTo}
use Rattle.sz_support.specs.Suspects.{suspects}
use Rattle.sz_support.specs.LawsSuspects.{AgreeElsewhere, support_of}
use Rattle.sz_support.proofs.SuspectSets.{others-keep}

-- the indexes of the suspects of each node, where the pixels of these indexes of base array b may hold anything
abbrev suspected : Graph → List Grid → ℕ → Cells → List (List ℕ)
suspected g base b set = map (λ (z : Cells). z.indexes) (suspects g base b set)

abbrev row : List ℕ → Grid
row cells = grid 1 5 (map n cells)

abbrev pixel : ℕ → Cells
pixel k = at (flat 1 5) (k ∷ [])

-- ---- one node

abbrev regions : Graph
regions = flow 1 (node (op.Regions (pos 5)) (Input 0 ∷ []) ∷ [])

-- the pixel between two regions: itself and the cells of both
pub between : suspected regions (row (9 ∷ 9 ∷ 0 ∷ 9 ∷ 9 ∷ []) ∷ []) 0 (pixel 2)
    ≡ (0 ∷ 1 ∷ 2 ∷ 3 ∷ 4 ∷ []) ∷ []
between = refl

-- a pixel of a region: the region's cells, and not those of the other
pub inside : suspected regions (row (9 ∷ 9 ∷ 0 ∷ 9 ∷ 9 ∷ []) ∷ []) 0 (pixel 0) ≡ (0 ∷ 1 ∷ []) ∷ []
inside = refl

-- a pixel two cells off: itself
pub off : suspected regions (row (0 ∷ 0 ∷ 9 ∷ 0 ∷ 0 ∷ []) ∷ []) 0 (pixel 0) ≡ (0 ∷ []) ∷ []
off = refl

-- no pixel, and a pixel of an array that no node takes: none
pub nothing : suspected regions (row (9 ∷ 9 ∷ 0 ∷ 9 ∷ 9 ∷ []) ∷ []) 0 (at (flat 1 5) []) ≡ [] ∷ []
nothing = refl

pub other-array : suspected
    (flow 2 (node (op.Regions (pos 5)) (Input 0 ∷ []) ∷ node op.Neg (Input 1 ∷ []) ∷ []))
    (row (9 ∷ 9 ∷ 0 ∷ 9 ∷ 9 ∷ []) ∷ row (0 ∷ 0 ∷ 0 ∷ 0 ∷ 0 ∷ []) ∷ []) 1 (pixel 2) ≡ [] ∷ (2 ∷ []) ∷ []
other-array = refl

-- ---- a chain of two regions

-- the second node takes the labels of the first, and joins those that are at least 4
abbrev chain : Graph
chain = flow 1 (node (op.Regions (pos 5)) (Input 0 ∷ []) ∷ node (op.Regions (pos 4)) (Output 0 ∷ []) ∷ [])

-- the pixel between the regions: the cells of both, at both nodes
pub chain-between : suspected chain (row (0 ∷ 9 ∷ 0 ∷ 9 ∷ 9 ∷ []) ∷ []) 0 (pixel 2)
    ≡ (1 ∷ 2 ∷ 3 ∷ 4 ∷ []) ∷ (1 ∷ 2 ∷ 3 ∷ 4 ∷ []) ∷ []
chain-between = refl

-- the first pixel: the first region alone
pub chain-first : suspected chain (row (0 ∷ 9 ∷ 0 ∷ 9 ∷ 9 ∷ []) ∷ []) 0 (pixel 0)
    ≡ (0 ∷ 1 ∷ []) ∷ (0 ∷ 1 ∷ []) ∷ []
chain-first = refl

-- where a convolution moves the labels one cell on, the second regions stand elsewhere than the first
abbrev moved : Graph
moved = flow 1
    (node (op.Regions (pos 5)) (Input 0 ∷ [])
    ∷ node (op.Convolve (kernel 1 3 (pos 1 ∷ pos 0 ∷ pos 0 ∷ []))) (Output 0 ∷ [])
    ∷ node (op.Regions (pos 1)) (Output 1 ∷ []) ∷ [])

pub moved-chain : suspected moved (row (0 ∷ 9 ∷ 0 ∷ 0 ∷ 0 ∷ []) ∷ []) 0 (pixel 0)
    ≡ (0 ∷ 1 ∷ []) ∷ (1 ∷ 2 ∷ []) ∷ (1 ∷ 2 ∷ []) ∷ []
moved-chain = refl

pub moved-rim : suspected moved (row (0 ∷ 9 ∷ 0 ∷ 0 ∷ 0 ∷ []) ∷ []) 0 (pixel 2)
    ≡ (1 ∷ 2 ∷ []) ∷ (2 ∷ 3 ∷ []) ∷ (2 ∷ 3 ∷ []) ∷ []
moved-rim = refl

-- ---- a diamond

-- regions of the array, the array moved one cell on, and the sum of the two
abbrev diamond : Graph
diamond = flow 1
    (node (op.Regions (pos 5)) (Input 0 ∷ [])
    ∷ node (op.Convolve (kernel 1 3 (pos 1 ∷ pos 0 ∷ pos 0 ∷ []))) (Input 0 ∷ [])
    ∷ node op.Add (Output 0 ∷ Output 1 ∷ []) ∷ [])

-- the sum's suspects are those of both
pub diamond-both : suspected diamond (row (0 ∷ 9 ∷ 0 ∷ 0 ∷ 0 ∷ []) ∷ []) 0 (pixel 2)
    ≡ (1 ∷ 2 ∷ []) ∷ (3 ∷ []) ∷ (1 ∷ 2 ∷ 3 ∷ []) ∷ []
diamond-both = refl

-- the difference of an array and itself: its cell is a suspect, and its value is one whatever number stands there
abbrev nothing_left : Graph
nothing_left = flow 1 (node op.Sub (Input 0 ∷ Input 0 ∷ []) ∷ [])

pub idle-suspected : suspected nothing_left (row (1 ∷ 2 ∷ 3 ∷ 4 ∷ 5 ∷ []) ∷ []) 0 (pixel 2) ≡ (2 ∷ []) ∷ []
idle-suspected = refl

pub idle-before : evaluations nothing_left (row (1 ∷ 2 ∷ 3 ∷ 4 ∷ 5 ∷ []) ∷ []) ≡ row (0 ∷ 0 ∷ 0 ∷ 0 ∷ 0 ∷ []) ∷ []
idle-before = refl

pub idle-after : evaluations nothing_left (row (1 ∷ 2 ∷ 9 ∷ 4 ∷ 5 ∷ []) ∷ []) ≡ row (0 ∷ 0 ∷ 0 ∷ 0 ∷ 0 ∷ []) ∷ []
idle-after = refl

-- ---- the laws, where a pixel two cells off is raised

abbrev cell : ℕ → ℕ → Cell
cell r c = record { row = r; col = c }

abbrev before : List Grid
before = grid 1 3 (n 0 ∷ n 0 ∷ n 9 ∷ []) ∷ []

abbrev after : List Grid
after = grid 1 3 (n 8 ∷ n 0 ∷ n 9 ∷ []) ∷ []

pub can-run : CanRun regions before
can-run = record { right = refl; count = refl; limits = of-three; fits = refl }

abbrev the_first : Cell → Bool
the_first c = is_same c (cell 0 0)

-- arrays that differ in their first value hold the same at each later number
later : (v w : Option ℤ) (vs : List (Option ℤ)) (k : ℕ) → (k ≡ 0 → ⊥)
    → unwrap_or (slice_get (v ∷ vs) k) None ≡ unwrap_or (slice_get (w ∷ vs) k) None
later v w vs zero not_first = absurd (not_first refl)
later v w vs (suc k) not_first = refl

pub elsewhere : AgreeElsewhere 0 the_first before after
elsewhere zero x held other =
    later (n 0) (n 8) (n 0 ∷ n 9 ∷ []) (index_of (flat 1 3) x)
    (λ first.
    let row_one : x.row ≡ 0 = omega arith in
    let col_one : x.col ≡ 0 = omega arith in
    true≢false (sym (and_from (x.row == 0) (x.col == 0) (eq-eqb x.row 0 row_one) (eq-eqb x.col 0 col_one)) ∙ other))
elsewhere (suc i) x held other = refl

-- so the label of the last cell is the same
pub off-kept : value_at (input_at (evaluations regions before) 0) (cell 0 2)
    ≡ value_at (input_at (evaluations regions after) 0) (cell 0 2)
off-kept = others-keep regions before after 0 0 the_first (cell 0 2) can-run refl elsewhere refl refl

-- and its neighbour leads to it
pub led : IsLedTo regions before 0 (cell 0 2) 0 (cell 0 1)
led = (
  record { node = 0; input = 0 } ∷ [],
  cell 0 1 ∷ [],
  (refl, refl, refl),
  ((node (op.Regions (pos 5)) (Input 0 ∷ []), refl, refl, refl), refl),
)

-- ---- the support of cells

-- of the region between two low pixels, at its node and at the node behind it
pub support-one : (support_of regions (row (0 ∷ 0 ∷ 9 ∷ 0 ∷ 0 ∷ []) ∷ []) 0 (λ o. is_same o (cell 0 2)) 0).indexes
    ≡ 1 ∷ 2 ∷ 3 ∷ []
support-one = refl

pub support-sum : (support_of diamond (row (0 ∷ 9 ∷ 0 ∷ 0 ∷ 0 ∷ []) ∷ []) 2 (λ o. is_same o (cell 0 1)) 0).indexes
    ≡ 0 ∷ 1 ∷ 2 ∷ []
support-sum = refl

pub support-none : (support_of diamond (row (0 ∷ 9 ∷ 0 ∷ 0 ∷ 0 ∷ []) ∷ []) 1 (λ o. is_same o (cell 0 0)) 0).indexes ≡ []
support-none = refl
