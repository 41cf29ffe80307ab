-- Rows of choices of strategies: degrees, units, costs, and the best choices of small flows.
--
-- The key idea: on written-out operators and shapes every definition is a computation. Expected values by hand.
use Rattle.std.proofs.Common.{◌≡◌, pos, true, false, List, [], ◌∷◌, refl}
use Rattle.sz_cells.specs.Extent.{Extent, flat, layered}
use Rattle.sz_spec.specs.declared.op.Op.{Op}
use Rattle.sz_spec.specs.declared.op.Op.TheVariants as op
use Rattle.sz_spec.specs.declared.op.Fold.TheVariants as fold
use Rattle.sz_spec.specs.declared.modes.Strategy.TheVariants as strategy
use Rattle.sz_spec.specs.Shapes.{Site, output_extent}
use Rattle.sz_planner.specs.Choices.{degree_of, estimate, row_of, units_over, units_at, cost_at}
use Rattle.sz_planner.specs.Choices.{is_choice, units_of, cost_of, comes_before}
use Rattle.sz_spec.proofs.RowsArrays.{plus, kernel}

-- an operator over inputs of these shapes
abbrev site : Op → List Extent → Site
site o ins = record { op = o; ins = ins; out = output_extent o ins }

-- ---- degrees

-- of one cell of one input, and of two inputs
pub degree-one : degree_of (site op.Neg (flat 2 2 ∷ [])) ≡ 1
degree-one = refl

pub degree-moved : (degree_of (site op.Transpose (flat 2 3 ∷ [])) ≡ 1)
    × (degree_of (site (op.Slice 0 1 2 2) (flat 2 3 ∷ [])) ≡ 1)
degree-moved = (refl, refl)

pub degree-two : (degree_of (site op.Add (flat 2 2 ∷ flat 2 2 ∷ [])) ≡ 2)
    × (degree_of (site op.Lookup (flat 2 2 ∷ flat 1 5 ∷ [])) ≡ 2)
degree-two = (refl, refl)

-- the weights that are not 0, and 1 where all are
pub degree-convolve : (degree_of (site (op.Convolve plus) (flat 3 3 ∷ [])) ≡ 5)
    × (degree_of (site (op.Convolve (kernel 1 1 (pos 0 ∷ []))) (flat 3 3 ∷ [])) ≡ 1)
degree-convolve = (refl, refl)

-- a full block of the input, no larger than a layer of it
pub degree-block : (degree_of (site (op.Block fold.Sum 2 3) (flat 7 7 ∷ [])) ≡ 6)
    × (degree_of (site (op.Block fold.Sum 5 9) (flat 3 4 ∷ [])) ≡ 12)
    × (degree_of (site (op.Block fold.Sum 5 2) (layered 2 3 4 ∷ [])) ≡ 6)
degree-block = (refl, refl, refl)

pub degree-others : (degree_of (site (op.Clean (pos 1)) (flat 1 1 ∷ [])) ≡ 9)
    × (degree_of (site (op.Regions (pos 1)) (flat 1 1 ∷ [])) ≡ 64)
    × (degree_of (site (op.FoldLayers fold.Max) (layered 3 2 2 ∷ [])) ≡ 3)
degree-others = (refl, refl, refl)

-- ---- the table, for 5 cells and degree 3: bytes, back, forward

pub table-free : (estimate 5 3 strategy.Map ≡ row_of 0 3 3) × (estimate 5 3 strategy.BlackBox ≡ row_of 0 20 20)
table-free = (refl, refl)

pub table-full : (estimate 5 3 strategy.FullOneB ≡ row_of 240 1 5) × (estimate 5 3 strategy.FullOneF ≡ row_of 240 5 1)
    × (estimate 5 3 strategy.FullManyB ≡ row_of 120 2 5) × (estimate 5 3 strategy.FullManyF ≡ row_of 120 5 2)
table-full = (refl, refl, refl, refl)

pub table-payload : (estimate 5 3 strategy.PayOne ≡ row_of 80 3 5) × (estimate 5 3 strategy.PayMany ≡ row_of 40 6 5)
    × (estimate 5 3 strategy.CompOne ≡ row_of 20 3 5) × (estimate 5 3 strategy.CompMany ≡ row_of 10 6 5)
table-payload = (refl, refl, refl, refl)

-- a unit that is begun is one
pub units-begun : (units_over 0 ≡ 0) × (units_over 1 ≡ 1) × (units_over 4096 ≡ 1) × (units_over 4097 ≡ 2)
units-begun = (refl, refl, refl, refl)

-- ---- choices for clean on two rows of two

abbrev cleaning : Site
cleaning = site (op.Clean (pos 100)) (flat 2 2 ∷ [])

pub cleaning-traced : (units_at cleaning strategy.BlackBox ≡ 0) × (cost_at 1 0 cleaning strategy.BlackBox ≡ 16)
cleaning-traced = (refl, refl)

pub cleaning-stored : (units_at cleaning strategy.FullOneB ≡ 1) × (cost_at 1 0 cleaning strategy.FullOneB ≡ 1)
cleaning-stored = (refl, refl)

-- asked once in each direction the two that are found by single cells cost the same, and the one that is found
-- backward comes first
pub cleaning-both : (cost_at 1 1 cleaning strategy.FullOneB ≡ 5) × (cost_at 1 1 cleaning strategy.FullOneF ≡ 5)
cleaning-both = (refl, refl)

pub before-at_first : (comes_before (strategy.FullOneB ∷ []) (strategy.FullOneF ∷ []) ≡ true)
    × (comes_before (strategy.FullOneF ∷ []) (strategy.FullOneB ∷ []) ≡ false)
before-at_first = (refl, refl)

-- the first node decides, then the next
pub before-later :
    (comes_before (strategy.FullOneB ∷ strategy.BlackBox ∷ []) (strategy.BlackBox ∷ strategy.Map ∷ []) ≡ true)
    × (comes_before (strategy.Map ∷ strategy.PayOne ∷ []) (strategy.Map ∷ strategy.PayMany ∷ []) ≡ true)
    × (comes_before (strategy.Map ∷ []) (strategy.Map ∷ []) ≡ false)
before-later = (refl, refl, refl)

-- two such nodes within one unit
pub two-nodes : (units_of (cleaning ∷ cleaning ∷ []) (strategy.FullOneB ∷ strategy.BlackBox ∷ []) ≡ 1)
    × (cost_of 1 0 (cleaning ∷ cleaning ∷ []) (strategy.FullOneB ∷ strategy.BlackBox ∷ []) ≡ 17)
two-nodes = (refl, refl)

-- a choice has a strategy for each node, and one that its operator supports
pub choice-is : is_choice (cleaning ∷ cleaning ∷ []) (strategy.CompOne ∷ strategy.BlackBox ∷ []) ≡ true
choice-is = refl

pub choice-is_none : (is_choice (cleaning ∷ []) (strategy.Map ∷ []) ≡ false)
    × (is_choice (cleaning ∷ []) [] ≡ false) × (is_choice [] (strategy.Map ∷ []) ≡ false)
choice-is_none = (refl, refl, refl)

-- negation by its mapping
pub negation : (units_at (site op.Neg (flat 1 1 ∷ [])) strategy.Map ≡ 0)
    × (cost_at 1 0 (site op.Neg (flat 1 1 ∷ [])) strategy.Map ≡ 1)
negation = (refl, refl)
