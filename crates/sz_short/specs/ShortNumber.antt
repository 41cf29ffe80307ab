-- A short number: a number below 4,294,967,296 in 1 to 5 bytes, seven bits in each, the lowest
-- first. The top bit of a byte is 1 where a further byte follows, and 0 in the last one, which is 0
-- only where it is the only one. So a number has one spelling.
use Rattle.std.specs.Prelude.{ℕ, zero, suc, ◌+◌, ◌*◌, ◌/◌, ◌%◌, ◌^◌, ◌<◌, ◌≤◌, List, [], ◌∷◌}
use Rattle.std.specs.Prelude.{if◌then◌else◌, nat_lt}

-- the bytes of a number, seven bits in each, in at most so many bytes more than one
unfoldable pub short_within : ℕ → ℕ → List ℕ
short_within zero n = n ∷ []
short_within (suc more) n =
    if nat_lt n 128 then n ∷ [] else (n % 128 + 128) ∷ short_within more (n / 128)

-- the number is one of four bytes, and its seven bits in each byte need no more than so many bytes
-- more than one
pub record IsWithin (more n : ℕ) : Type 0 where
  pub small : n < 2 ^ 32
  pub low : n < 128 ^ suc more

-- a number of four bytes
abbrev pub IsSmall : ℕ → Type 0
IsSmall n = n < 2 ^ 32

-- the one spelling of a number of four bytes
unfoldable pub short_number : ℕ → List ℕ
short_number n = short_within 4 n

-- the number that bytes of seven bits each spell, the lowest first
abbrev pub number_spelled : List ℕ → ℕ
number_spelled [] = 0
number_spelled (b ∷ bytes) = b % 128 + 128 * number_spelled bytes

-- bytes behind a first: the top bit is 1 in each but the last one, which is not 0
abbrev pub IsShortTail : List ℕ → Type 0
IsShortTail [] = ⊥
IsShortTail (b ∷ []) = (0 < b) × (b < 128)
IsShortTail (b ∷ c ∷ bytes) = (128 ≤ b) × (b < 256) × IsShortTail (c ∷ bytes)

-- one byte whose top bit is 0, or bytes of which just the last one has such a top bit and is not 0
abbrev pub IsShortSpelling : List ℕ → Type 0
IsShortSpelling [] = ⊥
IsShortSpelling (b ∷ []) = b < 128
IsShortSpelling (b ∷ c ∷ bytes) = (128 ≤ b) × (b < 256) × IsShortTail (c ∷ bytes)
