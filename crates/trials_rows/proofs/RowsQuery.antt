-- Rows of how long a path of an ask may be: 1 to 32 steps.
use Rattle.std.specs.Prelude.{◌≡◌, [], ◌∷◌, length, replicate}
use Rattle.std.proofs.Common.{refl, arith}
use Rattle.sz_cells.specs.Extent.{flat}
use Rattle.sz_spec.specs.declared.op.Op.TheVariants.{Neg}
use Rattle.sz_query.specs.Views.{View, by_map}
use Rattle.sz_query.specs.Answers.{IsPath}

-- a step over the negation of one cell
abbrev step : View
step = by_map (record { op = Neg; out = flat 1 1; ins = flat 1 1 ∷ [] })

path-of-none : IsPath [] → ⊥
path-of-none path = absurd (omega (arith, path.0))

path-of-one : IsPath (step ∷ [])
path-of-one = (omega arith, omega arith)

path-of-32 : IsPath (replicate 32 step)
path-of-32 = let long : length (replicate 32 step) ≡ 32 = refl in (omega (arith, long), omega (arith, long))

path-of-33 : IsPath (replicate 33 step) → ⊥
path-of-33 path = let long : length (replicate 33 step) ≡ 33 = refl in absurd (omega (arith, path.1, long))
