-- A step of a path, written as a pair of numbers.
use Rattle.std.specs.Prelude.{ℕ}
use Rattle.sz_spec.specs.Paths.{Step}

abbrev pub step_of : ℕ × ℕ → Step
step_of p = record { node = p.0; input = p.1 }
