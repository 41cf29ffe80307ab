-- Folds of the numbers of many cells into one, for blocks and for layers.
use Rattle.std.specs.Prelude.{ℕ, ◌+◌, ◌-◌, ◌/◌, ℤ, pos, List, [], ◌∷◌, length, Option, Some}
use Rattle.std.specs.Prelude.{None}
use Rattle.std.specs.List.{reduce}
use Rattle.std.specs.Int.{int_min, int_max}
use Rattle.sz_spec.specs.declared.op.Fold.{Fold}
use Rattle.sz_spec.specs.declared.op.Fold.TheVariants.{Sum, Min, Max, Count}
use Rattle.sz_spec.specs.Values.{fit, total}

-- of no number the sum, the least and the greatest are empty, and the count is 0; a sum is fitted
-- once
abbrev pub fold_of : Fold → List ℤ → Option ℤ
fold_of Sum [] = None
fold_of Sum (z ∷ zs) = fit (total (z ∷ zs))
fold_of Min zs = reduce int_min zs
fold_of Max zs = reduce int_max zs
fold_of Count zs = Some (pos (length zs))

-- how many blocks of this side are laid over so many rows or columns, the last of which may be
-- shorter
abbrev pub blocks_over : ℕ → ℕ → ℕ
blocks_over n side = (n + (side - 1)) / side
