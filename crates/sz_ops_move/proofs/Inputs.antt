-- What the operators take: those with a mapping have one input.
use Rattle.std.proofs.Common.{◌≡◌, ℕ, ◌<◌, true, true≢false, length, refl, sym, arith}
use Rattle.sz_spec.specs.declared.op.Op.{Op}
use Rattle.sz_spec.specs.declared.op.Op.TheVariants.{Transpose, Slice, FoldLayers}
use Rattle.sz_spec.specs.Shapes.{Site, IsSite, arity}
use Rattle.sz_ops_move.specs.Moving.{is_mapping, is_single}

-- one input
pub one-input : (op : Op) → is_mapping op ≡ true → arity op ≡ 1
one-input Transpose h = refl
one-input (Slice r0 c0 height width) h = refl
one-input (FoldLayers fold) h = refl
one-input _ h = absurd (true≢false (sym h))

-- a mapping to one cell is a mapping
pub single-mapping : (op : Op) → is_single op ≡ true → is_mapping op ≡ true
single-mapping (FoldLayers fold) h = refl
single-mapping _ h = h

pub first-input : (s : Site) (i : ℕ) → is_mapping s.op ≡ true → IsSite s → i < length s.ins → i ≡ 0
first-input s i h site few = omega (arith, few, site.arity, one-input s.op h)
