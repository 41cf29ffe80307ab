-- The operators that make a cell of a window of cells round it, in its layer.
use Rattle.std.specs.Prelude.{Bool, true, false}
use Rattle.sz_spec.specs.declared.op.Op.{Op}
use Rattle.sz_spec.specs.declared.op.Op.TheVariants.{Convolve, Clean}

-- the operator is one of this crate
abbrev pub is_windowed : Op → Bool
is_windowed (Convolve kernel) = true
is_windowed (Clean t) = true
is_windowed _ = false

-- the operator is one of this crate, and its lineage is a mapping
abbrev pub is_convolution : Op → Bool
is_convolution (Convolve kernel) = true
is_convolution _ = false
