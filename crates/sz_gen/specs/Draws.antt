-- The numbers that a session draws. The generator has one number of 64 bits. Each draw first makes
-- the next number of it, and then reads its upper 31 bits.
use Rattle.std.specs.Prelude.{ℕ, zero, suc, ◌+◌, ◌*◌, ◌/◌, ◌%◌, ◌^◌}

-- the number that follows x
unfoldable pub next_number : ℕ → ℕ
next_number x = (x * 6364136223846793005 + 1442695040888963407) % 2 ^ 64

-- the number that n draws leave, where it was x before them
unfoldable pub number_after : ℕ → ℕ → ℕ
number_after x zero = x
number_after x (suc n) = next_number (number_after x n)

-- what a draw of m gives, where the number was x before it: one of 0 to m - 1
unfoldable pub draw_of : ℕ → ℕ → ℕ
draw_of x m = (next_number x / 2 ^ 33) % m
