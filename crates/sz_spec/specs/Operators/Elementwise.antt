-- What the elementwise operators make of one number, and of two.
use Rattle.std.specs.Prelude.{ℤ, pos, nat_abs, int_lt}
use Rattle.std.specs.Prelude.{if◌then◌else◌, Option, Some}
use Rattle.sz_spec.specs.Values.{fit}

abbrev pub absolute : ℤ → Option ℤ
absolute z = fit (pos (nat_abs z))

-- lo below lo, hi above hi, else the number
abbrev pub clipped : ℤ → ℤ → ℤ → Option ℤ
clipped lo hi z = if int_lt z lo then Some lo else (if int_lt hi z then Some hi else Some z)
