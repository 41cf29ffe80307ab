-- The small arrays, sets, images and flows that the worked rows are written in.
use Rattle.std.specs.Prelude.{ℕ, ℤ, pos, neg_ℤ, List, [], ◌∷◌, Option, Some, None}
use Rattle.sz_cells.specs.Extent.{Extent, layered, flat}
use Rattle.sz_cells.specs.Cells.{Cells}
use Rattle.sz_spec.specs.declared.op.Op.{Op}
use Rattle.sz_spec.specs.declared.flow.Node.{Node}
use Rattle.sz_spec.specs.declared.flow.SourceRef.{SourceRef}
use Rattle.sz_spec.specs.Flows.{Graph}
use Rattle.sz_spec.specs.Values.{Grid, input_at, extents_of}
use Rattle.sz_spec.specs.Shapes.{output_extent}
use Rattle.sz_spec.specs.Lineage.{related, back, forward}
use Rattle.sz_spec.specs.Weights.{Weights}

-- what a cell holds: a number from 0, a number below 0, nothing
abbrev pub n : ℕ → Option ℤ
n k = Some (pos k)

abbrev pub minus : ℕ → Option ℤ
minus k = Some (neg_ℤ (pos k))

abbrev pub none : Option ℤ
none = None

-- an array of one layer, of so many rows and columns
abbrev pub grid : ℕ → ℕ → List (Option ℤ) → Grid
grid rows cols values = record { extent = flat rows cols; values = values }

-- an array of so many layers, each of so many rows, and columns
abbrev pub stack : ℕ → ℕ → ℕ → List (Option ℤ) → Grid
stack layers height cols values = record { extent = layered layers height cols; values = values }

-- a kernel
abbrev pub kernel : ℕ → ℕ → List ℤ → Weights
kernel rows cols weights = record { rows = rows; cols = cols; weights = weights }

-- the set of the cells of a shape with these row-major indexes
abbrev pub at : Extent → List ℕ → Cells
at e ks = record { extent = e; indexes = ks }

-- the cells of input i to which the output's cells of these indexes are related
abbrev pub back_of : Op → List Grid → ℕ → List ℕ → Cells
back_of op inputs i ks =
    back (related op inputs i) (input_at inputs i).extent (at (output_extent op (extents_of inputs)) ks)

-- the cells of the output that are related to the cells of input i of these indexes
abbrev pub forward_of : Op → List Grid → ℕ → List ℕ → Cells
forward_of op inputs i ks =
    forward (related op inputs i) (output_extent op (extents_of inputs)) (at (input_at inputs i).extent ks)

-- a node, and a flow of so many base arrays and these nodes
abbrev pub node : Op → List SourceRef → Node
node o from = record { op = o; from = from }

abbrev pub flow : ℕ → List Node → Graph
flow inputs nodes = record { inputs = inputs; nodes = nodes }

-- 1 to 9 in three rows
abbrev pub nine : Grid
nine = grid 3 3 (n 1 ∷ n 2 ∷ n 3 ∷ n 4 ∷ n 5 ∷ n 6 ∷ n 7 ∷ n 8 ∷ n 9 ∷ [])

-- 1 to 6 in two rows
abbrev pub six : Grid
six = grid 2 3 (n 1 ∷ n 2 ∷ n 3 ∷ n 4 ∷ n 5 ∷ n 6 ∷ [])

-- two layers of one row: 1 and 2, then 3 and nothing
abbrev pub two : Grid
two = stack 2 1 2 (n 1 ∷ n 2 ∷ n 3 ∷ none ∷ [])

-- two regions of high cells, one of three cells and one of one
abbrev pub hills : Grid
hills = grid 3 3 (n 9 ∷ n 9 ∷ n 0 ∷ n 0 ∷ n 9 ∷ n 0 ∷ n 9 ∷ n 0 ∷ n 0 ∷ [])

-- a cross of ones in a kernel of three by three
abbrev pub plus : Weights
plus = kernel 3 3 (pos 0 ∷ pos 1 ∷ pos 0 ∷ pos 1 ∷ pos 1 ∷ pos 1 ∷ pos 0 ∷ pos 1 ∷ pos 0 ∷ [])
