-- Rows of flows: both sides of each limit, which fault is told where there are several, and what flows evaluate to.
--
-- The key idea: on written-out flows every definition is a computation, so each row is its own proof. Expected
-- values by hand.
use Rattle.std.proofs.Common.{◌≡◌, ℕ, ◌*◌, ◌-◌, ◌^◌, pos, negsuc, true, false, List, []}
use Rattle.std.proofs.Common.{◌∷◌, map, Some, None, refl}
use Rattle.std.specs.Prelude.{Ok, Err}
use Rattle.sz_cells.specs.Extent.{flat}
use Rattle.std.specs.List.{range_with_len}
use Rattle.sz_spec.specs.declared.op.Op.{Op}
use Rattle.sz_spec.specs.declared.op.Op.TheVariants as op
use Rattle.sz_spec.specs.declared.op.Fold.TheVariants as fold
use Rattle.sz_spec.specs.declared.flow.Node.{Node}
use Rattle.sz_spec.specs.declared.flow.SourceRef.TheVariants.{Input, Node as Output}
use Rattle.sz_spec.specs.declared.flow.FlowFault.TheVariants as fault
use Rattle.sz_spec.specs.Weights.{Weights, is_kernel, taps_of}
use Rattle.sz_spec.specs.Shapes.{has_right_parameters}
use Rattle.sz_spec.specs.Flows.{Graph, flow_fault, evaluations}
use Rattle.sz_spec.specs.FlowShapes.{output_shapes}
use Rattle.sz_spec.proofs.RowsArrays.{node, flow, n, minus, none, grid, kernel, six}

-- ---- limits

-- so many nodes, each a negation of the first base array
abbrev many : ℕ → List Node
many count = map (λ k. node op.Neg (Input 0 ∷ [])) (range_with_len 0 count)

pub no-nodes : flow_fault (flow 1 []) ≡ Some fault.NoNodes
no-nodes = refl

pub one-node : flow_fault (flow 1 (many 1)) ≡ None
one-node = refl

pub most-nodes : flow_fault (flow 1 (many 32)) ≡ None
most-nodes = refl

pub more-nodes : flow_fault (flow 1 (many 33)) ≡ Some fault.TooManyNodes
more-nodes = refl

pub most-inputs : flow_fault (flow 32 (many 1)) ≡ None
most-inputs = refl

pub more-inputs : flow_fault (flow 33 (many 1)) ≡ Some fault.TooManyInputs
more-inputs = refl

-- the last base array, and the number after it
pub last-input : flow_fault (flow 3 (node op.Neg (Input 2 ∷ []) ∷ [])) ≡ None
last-input = refl

pub past-input : flow_fault (flow 3 (node op.Neg (Input 3 ∷ []) ∷ [])) ≡ Some (fault.BadSource 0 0)
past-input = refl

-- the node before, and the node itself
pub node-before : flow_fault (flow 1 (node op.Neg (Input 0 ∷ []) ∷ node op.Neg (Output 0 ∷ []) ∷ []))
    ≡ None
node-before = refl

pub node-itself : flow_fault (flow 1 (node op.Neg (Input 0 ∷ []) ∷ node op.Neg (Output 1 ∷ []) ∷ []))
    ≡ Some (fault.BadSource 1 0)
node-itself = refl

-- the first of two sources that are none
pub second-source : flow_fault (flow 1 (node op.Add (Input 0 ∷ Input 1 ∷ []) ∷ []))
    ≡ Some (fault.BadSource 0 1)
second-source = refl

pub both-sources : flow_fault (flow 1 (node op.Add (Output 0 ∷ Input 1 ∷ []) ∷ []))
    ≡ Some (fault.BadSource 0 0)
both-sources = refl

-- too few and too many sources
pub too-few : flow_fault (flow 1 (node op.Add (Input 0 ∷ []) ∷ [])) ≡ Some (fault.WrongArity 0)
too-few = refl

pub too-many : flow_fault (flow 1 (node op.Neg (Input 0 ∷ Input 0 ∷ []) ∷ [])) ≡ Some (fault.WrongArity 0)
too-many = refl

pub lookup-two : flow_fault (flow 2 (node op.Lookup (Input 0 ∷ Input 1 ∷ []) ∷ [])) ≡ None
lookup-two = refl

-- ---- several faults

-- too many nodes are told first, then too many base arrays, then the least node, and in it the number of sources,
-- the sources, the parameters

abbrev wrong_slice : Op
wrong_slice = op.Slice 0 0 0 1

pub nodes-first : flow_fault (flow 33 (many 33)) ≡ Some fault.TooManyNodes
nodes-first = refl

pub none-first : flow_fault (flow 33 []) ≡ Some fault.NoNodes
none-first = refl

pub inputs-before_nodes : flow_fault (flow 33 (node op.Neg [] ∷ [])) ≡ Some fault.TooManyInputs
inputs-before_nodes = refl

pub least-node : flow_fault
    (flow 1 (node op.Neg (Input 0 ∷ []) ∷ node wrong_slice (Input 0 ∷ []) ∷ node op.Neg [] ∷ []))
    ≡ Some (fault.BadParameter 1)
least-node = refl

pub arity-first : flow_fault (flow 1 (node wrong_slice (Input 7 ∷ Input 8 ∷ []) ∷ []))
    ≡ Some (fault.WrongArity 0)
arity-first = refl

pub source-second : flow_fault (flow 1 (node wrong_slice (Input 7 ∷ []) ∷ [])) ≡ Some (fault.BadSource 0 0)
source-second = refl

pub parameter-last : flow_fault (flow 1 (node wrong_slice (Input 0 ∷ []) ∷ [])) ≡ Some (fault.BadParameter 0)
parameter-last = refl

-- ---- parameters

pub clips : map has_right_parameters
    (op.Clip (pos 3) (pos 3) ∷ op.Clip (pos 3) (pos 2) ∷ op.Clip (negsuc 4) (negsuc 3) ∷ [])
    ≡ true ∷ false ∷ true ∷ []
clips = refl

-- a slice and a block have a row and a column
pub slices : map has_right_parameters (op.Slice 0 0 1 1 ∷ op.Slice 1 1 0 1 ∷ op.Slice 1 1 1 0 ∷ [])
    ≡ true ∷ false ∷ false ∷ []
slices = refl

pub blocks : map (λ (sides : ℕ × ℕ). has_right_parameters (op.Block fold.Sum sides.0 sides.1))
    ((1, 1) ∷ (0, 1) ∷ (1, 0) ∷ [])
    ≡ true ∷ false ∷ false ∷ []
blocks = refl

-- a kernel of ones
abbrev ones : ℕ → ℕ → Weights
ones rows cols = kernel rows cols (map (λ k. pos 1) (range_with_len 0 (rows * cols)))

-- sides are odd and at most 9
pub kernel-sides : map is_kernel (ones 1 1 ∷ ones 9 9 ∷ ones 11 1 ∷ ones 1 11 ∷ ones 2 3 ∷ ones 3 2 ∷ [])
    ≡ true ∷ true ∷ false ∷ false ∷ false ∷ false ∷ []
kernel-sides = refl

-- there are as many weights as cells
pub kernel-ragged : is_kernel (kernel 3 0 (pos 1 ∷ pos 2 ∷ [])) ≡ false
kernel-ragged = refl

pub kernel-no_rows : is_kernel (kernel 0 1 []) ≡ false
kernel-no_rows = refl

pub kernel-too_few : is_kernel (kernel 1 3 (pos 1 ∷ pos 1 ∷ [])) ≡ false
kernel-too_few = refl

pub kernel-too_many : is_kernel (kernel 1 1 (pos 1 ∷ pos 1 ∷ [])) ≡ false
kernel-too_many = refl

-- a weight is within 32 bits
pub weights : map (λ weight. is_kernel (kernel 1 1 (weight ∷ [])))
    (pos (2 ^ 31 - 1) ∷ pos (2 ^ 31) ∷ negsuc (2 ^ 31 - 1) ∷ negsuc (2 ^ 31) ∷ [])
    ≡ true ∷ false ∷ true ∷ false ∷ []
weights = refl

pub weight-last : is_kernel (kernel 1 3 (pos 1 ∷ pos 1 ∷ pos (2 ^ 31) ∷ [])) ≡ false
weight-last = refl

pub kernel-parameter : flow_fault (flow 1 (node (op.Convolve (ones 3 2)) (Input 0 ∷ []) ∷ []))
    ≡ Some (fault.BadParameter 0)
kernel-parameter = refl

-- the places of the weights that are not 0
pub taps-two : taps_of
    (kernel 3 3 (pos 0 ∷ pos 4 ∷ pos 0 ∷ pos 0 ∷ pos 0 ∷ negsuc 0 ∷ pos 0 ∷ pos 0 ∷ pos 0 ∷ []))
    ≡ record { row = 0; col = 1; weight = pos 4 } ∷ record { row = 1; col = 2; weight = negsuc 0 } ∷ []
taps-two = refl

-- ---- evaluations: each node has an output, in the order of the nodes

-- the second base array less the first, that negated, and the product of the two
abbrev subtracting : Graph
subtracting = flow 2
    (node op.Sub (Input 1 ∷ Input 0 ∷ [])
    ∷ node op.Neg (Output 0 ∷ [])
    ∷ node op.Mul (Output 0 ∷ Output 1 ∷ []) ∷ [])

pub difference : evaluations subtracting (grid 1 2 (n 5 ∷ none ∷ []) ∷ grid 1 2 (n 2 ∷ n 1 ∷ []) ∷ [])
    ≡ grid 1 2 (minus 3 ∷ none ∷ [])
    ∷ grid 1 2 (n 3 ∷ none ∷ [])
    ∷ grid 1 2 (minus 9 ∷ none ∷ []) ∷ []
difference = refl

pub turned-sliced : evaluations
    (flow 1 (node op.Transpose (Input 0 ∷ []) ∷ node (op.Slice 1 1 2 1) (Output 0 ∷ []) ∷ [])) (six ∷ [])
    ≡ grid 3 2 (n 1 ∷ n 4 ∷ n 2 ∷ n 5 ∷ n 3 ∷ n 6 ∷ []) ∷ grid 2 1 (n 5 ∷ n 6 ∷ []) ∷ []
turned-sliced = refl

-- ---- shapes: those of all outputs, or the first node whose rule is broken

-- the transposed first base array, one row of that, and the sum of that row and the second base array
abbrev summing : Graph
summing = flow 2
    (node op.Transpose (Input 0 ∷ [])
    ∷ node (op.Slice 1 0 1 2) (Output 0 ∷ [])
    ∷ node op.Add (Output 1 ∷ Input 1 ∷ []) ∷ [])

pub shapes-fit : output_shapes summing (flat 2 3 ∷ flat 1 2 ∷ []) ≡ Ok (flat 3 2 ∷ flat 1 2 ∷ flat 1 2 ∷ [])
shapes-fit = refl

pub second-breaks : output_shapes summing (flat 2 1 ∷ flat 1 3 ∷ []) ≡ Err 1
second-breaks = refl

pub third-breaks : output_shapes summing (flat 2 3 ∷ flat 1 3 ∷ []) ≡ Err 2
third-breaks = refl
