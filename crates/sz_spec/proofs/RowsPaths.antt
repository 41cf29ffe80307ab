-- Rows of paths: which are joined in each direction, both sides of the limits, in which shape they start, and
-- where sets lead to.
--
-- The key idea: on written-out flows and paths every definition is a computation, so each row is its own proof.
-- Expected values by hand. Sets are given by the row-major indexes of their cells.
use Rattle.std.proofs.Common.{◌≡◌, ℕ, ◌-◌, true, false, List, [], ◌∷◌, map, refl}
use Rattle.std.specs.List.{range_with_len}
use Rattle.sz_cells.specs.Extent.{flat, layered}
use Rattle.sz_spec.specs.declared.op.Op.TheVariants as op
use Rattle.sz_spec.specs.declared.op.Fold.TheVariants as fold
use Rattle.sz_spec.specs.declared.flow.SourceRef.TheVariants.{Input, Node as Output}
use Rattle.sz_spec.specs.declared.modes.Dir.TheVariants.{Back, Forward}
use Rattle.sz_spec.specs.Values.{Grid}
use Rattle.sz_spec.specs.Flows.{Graph, evaluations}
use Rattle.sz_spec.specs.Paths.{Step, is_joined, compose, start_extent}
use Rattle.sz_spec.proofs.RowsArrays.{node, flow, n, grid, at, six, two}

abbrev step : ℕ → ℕ → Step
step n i = record { node = n; input = i }

-- node 0 is the negation of base array 0, and node 1 the sum of node 0 and base array 0
abbrev sum : Graph
sum = flow 1 (node op.Neg (Input 0 ∷ []) ∷ node op.Add (Output 0 ∷ Input 0 ∷ []) ∷ [])

-- ---- joined

-- backward a path goes from later nodes to earlier ones, and forward from earlier ones to later
pub joined : (is_joined Back sum (step 1 0 ∷ step 0 0 ∷ []) ≡ true)
    × (is_joined Forward sum (step 0 0 ∷ step 1 0 ∷ []) ≡ true)
joined = (refl, refl)

pub turned-paths : (is_joined Back sum (step 0 0 ∷ step 1 0 ∷ []) ≡ false)
    × (is_joined Forward sum (step 1 0 ∷ step 0 0 ∷ []) ≡ false)
turned-paths = (refl, refl)

-- input 1 of the sum comes from a base array, and not from the negation
pub other-input : (is_joined Back sum (step 1 1 ∷ step 0 0 ∷ []) ≡ false)
    × (is_joined Forward sum (step 0 0 ∷ step 1 1 ∷ []) ≡ false)
other-input = (refl, refl)

-- each input of the sum is one step
pub each-input : (is_joined Back sum (step 1 1 ∷ []) ≡ true)
    × (is_joined Forward sum (step 1 1 ∷ []) ≡ true)
each-input = (refl, refl)

-- a step of a node or of an input that is not there is no path, also at its end
pub no-node : (is_joined Back sum (step 2 0 ∷ []) ≡ false)
    × (is_joined Forward sum (step 2 0 ∷ []) ≡ false)
no-node = (refl, refl)

pub no-input : (is_joined Back sum (step 0 1 ∷ []) ≡ false)
    × (is_joined Forward sum (step 1 2 ∷ []) ≡ false)
no-input = (refl, refl)

pub no-input_last : is_joined Back sum (step 1 0 ∷ step 0 1 ∷ []) ≡ false
no-input_last = refl

pub no-input_first : is_joined Forward sum (step 0 1 ∷ step 1 0 ∷ []) ≡ false
no-input_first = refl

-- a base array is not the output of the node of its number
pub not-a_node : is_joined Back
    (flow 1 (node op.Neg (Input 0 ∷ []) ∷ node op.Neg (Input 0 ∷ []) ∷ []))
    (step 1 0 ∷ step 0 0 ∷ []) ≡ false
not-a_node = refl

-- ---- 1 to 32 steps

-- so many negations, each of the one before
abbrev negations : ℕ → Graph
negations count = flow 1
    (node op.Neg (Input 0 ∷ []) ∷ map (λ k. node op.Neg (Output k ∷ [])) (range_with_len 0 (count - 1)))

abbrev onward : ℕ → List Step
onward count = map (λ k. step k 0) (range_with_len 0 count)

abbrev backward : ℕ → List Step
backward count = map (λ k. step (count - 1 - k) 0) (range_with_len 0 count)

pub no-step : (is_joined Back sum [] ≡ false) × (is_joined Forward sum [] ≡ false)
no-step = (refl, refl)

pub one-step : (is_joined Back sum (step 0 0 ∷ []) ≡ true) × (is_joined Forward sum (step 0 0 ∷ []) ≡ true)
one-step = (refl, refl)

pub most-steps_back : is_joined Back (negations 32) (backward 32) ≡ true
most-steps_back = refl

pub most-steps_forward : is_joined Forward (negations 32) (onward 32) ≡ true
most-steps_forward = refl

pub more-steps_back : is_joined Back (negations 33) (backward 33) ≡ false
more-steps_back = refl

pub more-steps_forward : is_joined Forward (negations 33) (onward 33) ≡ false
more-steps_forward = refl

-- ---- where a path starts, and where it leads to

-- two rows of three are turned, and of the three rows of two the last two of the second column are taken
abbrev turning : Graph
turning = flow 1 (node op.Transpose (Input 0 ∷ []) ∷ node (op.Slice 1 1 2 1) (Output 0 ∷ []) ∷ [])

abbrev turned : List Grid
turned = evaluations turning (six ∷ [])

pub start-back : start_extent Back turning (six ∷ []) turned (step 1 0) ≡ flat 2 1
start-back = refl

pub start-back_first : start_extent Back turning (six ∷ []) turned (step 0 0) ≡ flat 3 2
start-back_first = refl

pub start-forward : start_extent Forward turning (six ∷ []) turned (step 0 0) ≡ flat 2 3
start-forward = refl

pub start-forward_second : start_extent Forward turning (six ∷ []) turned (step 1 0) ≡ flat 3 2
start-forward_second = refl

-- the number 6 is at (1,0), was at (2,1), and at (1,2) before
pub leads-back : compose Back turning (six ∷ []) turned (step 1 0 ∷ step 0 0 ∷ []) (at (flat 2 1) (1 ∷ []))
    ≡ at (flat 2 3) (5 ∷ [])
leads-back = refl

pub leads-back_one : compose Back turning (six ∷ []) turned (step 1 0 ∷ []) (at (flat 2 1) (0 ∷ 1 ∷ []))
    ≡ at (flat 3 2) (3 ∷ 5 ∷ [])
leads-back_one = refl

pub leads-forward : compose Forward turning (six ∷ []) turned (step 0 0 ∷ step 1 0 ∷ [])
    (at (flat 2 3) (0 ∷ 4 ∷ 5 ∷ [])) ≡ at (flat 2 1) (0 ∷ 1 ∷ [])
leads-forward = refl

pub leads-forward_one : compose Forward turning (six ∷ []) turned (step 0 0 ∷ []) (at (flat 2 3) (2 ∷ []))
    ≡ at (flat 3 2) (4 ∷ [])
leads-forward_one = refl

-- along no step a set stays
pub leads-nowhere : compose Back turning (six ∷ []) turned [] (at (flat 2 1) (1 ∷ []))
    ≡ at (flat 2 1) (1 ∷ [])
leads-nowhere = refl

-- a cell and a table of unlike shapes: each input has its own shape
abbrev finding : Graph
finding = flow 2
    (node op.Neg (Input 0 ∷ [])
    ∷ node op.Neg (Output 0 ∷ [])
    ∷ node op.Lookup (Output 1 ∷ Input 1 ∷ []) ∷ [])

abbrev given : List Grid
given = grid 2 1 (n 0 ∷ n 2 ∷ []) ∷ grid 1 3 (n 10 ∷ n 20 ∷ n 30 ∷ []) ∷ []

pub start-table : start_extent Forward finding given (evaluations finding given) (step 2 1) ≡ flat 1 3
start-table = refl

pub start-names : start_extent Forward finding given (evaluations finding given) (step 2 0) ≡ flat 2 1
start-names = refl

pub leads-to_table : compose Back finding given (evaluations finding given) (step 2 1 ∷ [])
    (at (flat 2 1) (1 ∷ [])) ≡ at (flat 1 3) (2 ∷ [])
leads-to_table = refl

pub leads-from_table : compose Forward finding given (evaluations finding given) (step 2 1 ∷ [])
    (at (flat 1 3) (0 ∷ 1 ∷ [])) ≡ at (flat 2 1) (0 ∷ [])
leads-from_table = refl

pub leads-to_names : compose Back finding given (evaluations finding given)
    (step 2 0 ∷ step 1 0 ∷ step 0 0 ∷ []) (at (flat 2 1) (1 ∷ [])) ≡ at (flat 2 1) (1 ∷ [])
leads-to_names = refl

-- through the fold of two layers, forward to one layer and back to two
abbrev folding : Graph
folding = flow 1 (node (op.FoldLayers fold.Sum) (Input 0 ∷ []) ∷ node op.Transpose (Output 0 ∷ []) ∷ [])

pub leads-to_layers : compose Back folding (two ∷ []) (evaluations folding (two ∷ []))
    (step 1 0 ∷ step 0 0 ∷ []) (at (flat 2 1) (1 ∷ [])) ≡ at (layered 2 1 2) (1 ∷ 3 ∷ [])
leads-to_layers = refl

pub leads-from_layers : compose Forward folding (two ∷ []) (evaluations folding (two ∷ []))
    (step 0 0 ∷ step 1 0 ∷ []) (at (layered 2 1 2) (2 ∷ [])) ≡ at (flat 2 1) (0 ∷ [])
leads-from_layers = refl
