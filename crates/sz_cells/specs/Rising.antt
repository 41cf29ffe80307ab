-- Lists of row-major indexes that strictly rise.
use Rattle.std.specs.Prelude.{ℕ, ◌+◌, ◌<◌, ◌≤◌, List, [], ◌∷◌}

-- numbers that strictly rise, none below `least`, each below `bound`
abbrev pub AreRising : ℕ → ℕ → List ℕ → Type 0
AreRising least bound [] = Unit {0}
AreRising least bound (x ∷ xs) = (least ≤ x) × (x < bound) × AreRising (x + 1) bound xs
