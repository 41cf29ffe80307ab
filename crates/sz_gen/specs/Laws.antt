-- What a reader may take for granted of the generated session. Each law is proved of the
-- definitions.
use Rattle.std.specs.Prelude.{◌≡◌, ◌<◌, ℕ, length}
use Rattle.sz_gen.specs.Draws.{draw_of}
use Rattle.sz_gen.specs.Session.{load_lines}

-- every seed and side make 42 lines
abbrev pub SessionsHave42Lines : Type 0
SessionsHave42Lines = (seed side : ℕ) → length (load_lines seed side) ≡ 42

-- a draw of m gives a number below m
abbrev pub DrawsAreBelow : Type 0
DrawsAreBelow = (x m : ℕ) → 0 < m → draw_of x m < m
