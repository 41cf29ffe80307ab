-- The generator's number after one draw more, and after draws that follow draws.
-- The key idea: both go by the definition's own recursion on the number of draws.
use Rattle.std.proofs.Common.{◌≡◌, ℕ, zero, suc, ◌+◌, refl, ap, ◌∙◌, add-one, arith}
use Rattle.sz_gen.specs.Draws.{next_number, number_after}

-- without a draw the number stays
pub number_after-zero : (x : ℕ) → number_after x 0 ≡ x
unfolding number_after
number_after-zero x = refl

-- one draw more makes the next number
pub number_after-suc : (x n : ℕ) {now then : ℕ} → now ≡ number_after x n → then ≡ next_number now
    → then ≡ number_after x (n + 1)
unfolding number_after
number_after-suc x n was is = rw add-one (is ∙ ap next_number was)

-- draws that follow draws are so many together
pub number_after-twice : (x m n : ℕ) → number_after (number_after x m) n ≡ number_after x (m + n)
unfolding number_after
number_after-twice x m zero = ap (number_after x) (omega arith)
number_after-twice x m (suc n) =
    let more : m + suc n ≡ suc (m + n) = omega arith in
    rw more (ap next_number (number_after-twice x m n))
