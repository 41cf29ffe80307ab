-- Rows of how many kinds of lineage an output has.
--
-- The key idea: on written-out arrays the definition is a computation. Expected values by hand.
use Rattle.std.proofs.Common.{◌≡◌, pos, [], ◌∷◌, refl}
use Rattle.sz_spec.specs.declared.op.Op.TheVariants as op
use Rattle.sz_spec.specs.Kinds.{kinds_of}
use Rattle.sz_spec.proofs.RowsArrays.{grid, n, none, kernel, hills, nine, two}

-- two regions of high cells, and five low cells, each a kind of its own
pub regions : kinds_of (op.Regions (pos 5)) (hills ∷ []) ≡ 7
regions = refl

-- each cell of a matched pair has its key and its entry, and one without a match its key alone
pub lookup : kinds_of op.Lookup (grid 1 3 (n 0 ∷ n 0 ∷ n 1 ∷ []) ∷ grid 1 2 (n 10 ∷ n 20 ∷ []) ∷ []) ≡ 3
lookup = refl

pub lookup-unmatched : kinds_of op.Lookup (grid 1 2 (none ∷ n 9 ∷ []) ∷ grid 1 1 (n 10 ∷ []) ∷ []) ≡ 2
lookup-unmatched = refl

-- a kernel without a weight: no cell stands behind any
pub convolve-nothing : kinds_of (op.Convolve (kernel 1 1 (pos 0 ∷ []))) (nine ∷ []) ≡ 0
convolve-nothing = refl

-- one weight above the middle: the first row has no lineage
pub convolve-above : kinds_of (op.Convolve (kernel 3 1 (pos 1 ∷ pos 0 ∷ pos 0 ∷ []))) (nine ∷ []) ≡ 6
convolve-above = refl

-- one kind, though of two cells; and of each layer its own
pub regions-whole : kinds_of (op.Regions (pos 5)) (grid 1 2 (n 9 ∷ n 9 ∷ []) ∷ []) ≡ 1
regions-whole = refl

pub regions-layers : kinds_of (op.Regions (pos 1)) (two ∷ []) ≡ 3
regions-layers = refl
