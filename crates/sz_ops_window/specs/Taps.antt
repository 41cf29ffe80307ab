-- Taps by their numbers, row by row of a kernel: to which cell one leads, and what the first of
-- them add.
use Rattle.std.specs.Prelude.{ℕ, ◌+◌, ◌-◌, pos, ◌∷◌, [], Bool, not, ◌&&◌, nat_le}
use Rattle.std.specs.Prelude.{Option, Some, None, if◌then◌else◌}
use Rattle.std.specs.List.{list_any, range_with_len}
use Rattle.sz_cells.specs.declared.Cell.{Cell}
use Rattle.sz_cells.specs.Extent.{Extent}
use Rattle.sz_spec.specs.declared.modes.Dir.{Dir}
use Rattle.sz_spec.specs.declared.modes.Dir.TheVariants.{Back, Forward}
use Rattle.sz_spec.specs.Weights.{Weights, is_zero, tap_at}
use Rattle.sz_spec.specs.Operators.Convolve.{is_under}

-- the weight of a number is not 0, and cell x lies under it where the middle lies on cell o
abbrev pub is_covered : Extent → Weights → ℕ → Cell → Cell → Bool
is_covered e w n o x = not (is_zero (tap_at w n).weight) && is_under e w o x (tap_at w n)

-- the tap of a number leads from cell c to cell x: backward to the cell under it, forward to the
-- cell on which the middle lies
abbrev pub leads : Dir → Extent → Weights → Cell → ℕ → Cell → Bool
leads Back e w c n x = is_covered e w n c x
leads Forward e w c n x = is_covered e w n x c

-- one of the first n taps leads from cell c to cell x
abbrev pub led_before : Dir → Extent → Weights → Cell → ℕ → Cell → Bool
led_before dir e w c n x = list_any (λ k. leads dir e w c k x) (range_with_len 0 n)

-- the difference, where there is one
abbrev pub less : ℕ → ℕ → Option ℕ
less a b = if nat_le b a then Some (a - b) else None

-- from a row or a column, the one to which a tap in this row or column of the kernel leads, where
-- the middle is in that row or column of it
abbrev pub moved : Dir → ℕ → ℕ → ℕ → Option ℕ
moved Back start tap middle = less (start + tap) middle
moved Forward start tap middle = less (start + middle) tap

-- the kernel under which a cell alone lies, and that of the nine cells of a square
abbrev pub one : Weights
one = record { rows = 1; cols = 1; weights = pos 1 ∷ [] }

abbrev pub nine : Weights
nine = record {
  rows = 3;
  cols = 3;
  weights = pos 1 ∷ pos 1 ∷ pos 1 ∷ pos 1 ∷ pos 1 ∷ pos 1 ∷ pos 1 ∷ pos 1 ∷ pos 1 ∷ [];
}
