-- Operators of which each output cell is related to some cell of an input, so that a set of all its
-- cells reaches them all.
use Rattle.std.specs.Prelude.{ℕ, ◌+◌, ◌*◌, ◌/◌, Bool, false, ◌&&◌, ◌==◌, not, nat_lt}
use Rattle.sz_spec.specs.declared.op.Op.{Op}
use Rattle.sz_spec.specs.declared.op.Op.TheVariants.{Transpose, Slice, Convolve, Block, Lookup}
use Rattle.sz_spec.specs.declared.op.Op.TheVariants.{Regions, Clean, FoldLayers}
use Rattle.sz_spec.specs.Weights.{Weights, is_zero, tap_at}

-- the number of the tap in the middle of a kernel, counted row by row
abbrev pub middle_of : Weights → ℕ
middle_of w = w.rows / 2 * w.cols + w.cols / 2

-- there is a weight in the middle of a kernel, and it is not 0
abbrev pub has_middle : Weights → Bool
has_middle w = nat_lt (middle_of w) (w.rows * w.cols)
    && not (is_zero (tap_at w (middle_of w)).weight)

-- each output cell is related to some cell of input i, whatever the inputs hold (it is so of the
-- elementwise operators too, which are not asked)
abbrev pub reaches_all : Op → ℕ → Bool
reaches_all Transpose i = i == 0
reaches_all (Slice r0 c0 h w) i = i == 0
reaches_all (Convolve kernel) i = (i == 0) && has_middle kernel
reaches_all (Block fold h w) i = i == 0
reaches_all Lookup i = i == 0
reaches_all (Regions t) i = i == 0
reaches_all (Clean t) i = i == 0
reaches_all (FoldLayers fold) i = i == 0
reaches_all op i = false
