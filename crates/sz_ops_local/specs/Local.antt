-- The operators that work on cells near one another: which they are.
use Rattle.std.specs.Prelude.{Bool, true, false}
use Rattle.sz_spec.specs.declared.op.Op.{Op}
use Rattle.sz_spec.specs.declared.op.Op.TheVariants.{Neg, Abs, AddK, MulK, Clip, Add, Sub, Mul, Min}
use Rattle.sz_spec.specs.declared.op.Op.TheVariants.{Max, Block}

-- each output cell is made of the cells at its own place alone
abbrev pub is_elementwise : Op → Bool
is_elementwise Neg = true
is_elementwise Abs = true
is_elementwise (AddK k) = true
is_elementwise (MulK k) = true
is_elementwise (Clip lo hi) = true
is_elementwise Add = true
is_elementwise Sub = true
is_elementwise Mul = true
is_elementwise Min = true
is_elementwise Max = true
is_elementwise _ = false

-- the operator is one of this crate: an elementwise one, or one that folds blocks
abbrev pub is_local : Op → Bool
is_local (Block fold h w) = true
is_local op = is_elementwise op
