-- Choices of strategies: one for each node of a flow, what their stores take in units, and what so
-- many asks in each direction cost. The numbers are rules of thumb, and say nothing of real sizes.
use Rattle.std.specs.Prelude.{◌≡◌, ℕ, ◌+◌, ◌*◌, ◌/◌, List, [], ◌∷◌, length, Bool, true}
use Rattle.std.specs.Prelude.{false, ◌&&◌, ◌||◌, ◌==◌, ◌≤◌, nat_lt, min, max}
use Rattle.sz_cells.specs.Extent.{Extent, size_of, height_of}
use Rattle.sz_spec.specs.declared.op.Op.{Op}
use Rattle.sz_spec.specs.declared.op.Op.TheVariants.{Add, Sub, Mul, Min, Max, Lookup, Convolve}
use Rattle.sz_spec.specs.declared.op.Op.TheVariants.{Block, Regions, Clean, FoldLayers}
use Rattle.sz_spec.specs.declared.modes.Strategy.{Strategy}
use Rattle.sz_spec.specs.declared.modes.Strategy.TheVariants as strategy
use Rattle.sz_spec.specs.Weights.{taps_of}
use Rattle.sz_spec.specs.Values.{extent_at}
use Rattle.sz_spec.specs.Shapes.{Site}
use Rattle.sz_spec.specs.Modes.{supports, number_of}

-- the degree of an operator whose first input has this shape: about how many cells an output cell
-- is related to
abbrev pub degree_over : Extent → Op → ℕ
degree_over e Add = 2
degree_over e Sub = 2
degree_over e Mul = 2
degree_over e Min = 2
degree_over e Max = 2
degree_over e Lookup = 2
degree_over e (Convolve kernel) = max 1 (length (taps_of kernel))
degree_over e (Block fold h w) = min h (height_of e) * min w e.cols
degree_over e (Clean t) = 9
degree_over e (Regions t) = 64
degree_over e (FoldLayers fold) = e.layers
degree_over e _ = 1

abbrev pub degree_of : Site → ℕ
degree_of s = degree_over (extent_at s.ins 0) s.op

-- a strategy's row of the table: the bytes of its store, and what an ask costs backward and forward
pub record Estimate : Type 0 where
  pub bytes : ℕ
  pub back : ℕ
  pub forward : ℕ

abbrev pub row_of : ℕ → ℕ → ℕ → Estimate
row_of bytes back forward = record { bytes = bytes; back = back; forward = forward }

-- the table, for n output cells and degree d
abbrev pub estimate : ℕ → ℕ → Strategy → Estimate
estimate n d strategy.Map = row_of 0 d d
estimate n d strategy.FullOneB = row_of (16 * n * d) 1 n
estimate n d strategy.FullOneF = row_of (16 * n * d) n 1
estimate n d strategy.FullManyB = row_of (8 * n * d) 2 n
estimate n d strategy.FullManyF = row_of (8 * n * d) n 2
estimate n d strategy.PayOne = row_of (16 * n) d n
estimate n d strategy.PayMany = row_of (8 * n) (2 * d) n
estimate n d strategy.CompOne = row_of (4 * n) d n
estimate n d strategy.CompMany = row_of (2 * n) (2 * d) n
estimate n d strategy.BlackBox = row_of 0 (4 * n) (4 * n)

-- what is estimated of a node's operator with a strategy
abbrev pub estimate_of : Site → Strategy → Estimate
estimate_of s choice = estimate (size_of s.out) (degree_of s) choice

-- the units of so many bytes: 4,096 bytes each, the last of which may be begun
abbrev pub units_over : ℕ → ℕ
units_over bytes = (bytes + 4095) / 4096

abbrev pub units_at : Site → Strategy → ℕ
units_at s choice = units_over (estimate_of s choice).bytes

-- what so many asks back and so many forward cost at one node
abbrev pub cost_at : ℕ → ℕ → Site → Strategy → ℕ
cost_at back forward s choice = let e = estimate_of s choice in back * e.back + forward * e.forward

-- a choice: one strategy a node, supported by the node's operator
abbrev pub is_choice : List Site → List Strategy → Bool
is_choice [] [] = true
is_choice (s ∷ sites) (choice ∷ list) = supports s.op choice && is_choice sites list
is_choice _ _ = false

-- the units of a choice, and its cost
abbrev pub units_of : List Site → List Strategy → ℕ
units_of (s ∷ sites) (choice ∷ list) = units_at s choice + units_of sites list
units_of _ _ = 0

abbrev pub cost_of : ℕ → ℕ → List Site → List Strategy → ℕ
cost_of back forward (s ∷ sites) (choice ∷ list) =
    cost_at back forward s choice + cost_of back forward sites list
cost_of back forward _ _ = 0

-- a list of strategies comes before another: at the first node where they differ its number is the
-- lesser
abbrev pub comes_before : List Strategy → List Strategy → Bool
comes_before (a ∷ rest) (b ∷ more) = nat_lt (number_of a) (number_of b)
    || ((number_of a == number_of b) && comes_before rest more)
comes_before _ _ = false

-- a choice within a limit that no choice within it undercuts, and the first of those that cost the
-- same
pub record IsBestChoice (back forward limit : ℕ) (sites : List Site) (list : List Strategy) :
    Type 0 where
  pub choice : is_choice sites list ≡ true
  pub within : units_of sites list ≤ limit
  pub least : (other : List Strategy) → is_choice sites other ≡ true → units_of sites other ≤ limit
      → cost_of back forward sites list ≤ cost_of back forward sites other
  pub first : (other : List Strategy) → is_choice sites other ≡ true → units_of sites other ≤ limit
      → cost_of back forward sites other ≡ cost_of back forward sites list
      → comes_before other list ≡ false
