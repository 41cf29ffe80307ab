-- The numbers of options.
use Rattle.std.specs.Prelude.{◌≤◌, ℕ, List, Option, Some, None, codes}
use Rattle.std.specs.Str.Parse.{IsNumeral, digits_value, without_leading_plus}
use Rattle.clap.specs.Words.{Row, Text, one_of}

-- The number of a text: its decimal digits, where a plus may stand before them. No text has the
-- number 0, which is never read: each option of a job has a text (`HasNumbers`).
abbrev pub number_of : Option Text → ℕ
number_of None = 0
number_of (Some text) = digits_value 10 (without_leading_plus text)

-- there is a text, it is a numeral, and its number is one from `least` to `most`
abbrev pub IsNumberIn : ℕ → ℕ → Option Text → Type 0
IsNumberIn least most None = ⊥
IsNumberIn least most (Some text) = IsNumeral 10 (without_leading_plus text)
    × (least ≤ number_of (Some text)) × (number_of (Some text) ≤ most)

-- each option has a number in its range
pub record HasNumbers (found : List Row) : Type 0 where
  pub workers : IsNumberIn 1 64 (one_of (codes "workers") found)
  pub askers : IsNumberIn 1 64 (one_of (codes "askers") found)
  pub seed : IsNumberIn 0 4294967295 (one_of (codes "seed") found)
  pub side : IsNumberIn 1 512 (one_of (codes "side") found)
