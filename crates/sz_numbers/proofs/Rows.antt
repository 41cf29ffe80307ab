-- Rows: numbers and their bytes as they are by hand.
use Rattle.std.proofs.Common.{◌≡◌, [], ◌∷◌, refl}
use Rattle.std.specs.Int.{w32, w64, to_be_bytes}
use Rattle.sz_numbers.specs.Numbers.{four_at, eight_at}

four_spelled : (to_be_bytes w32 258 ≡ 0 ∷ 0 ∷ 1 ∷ 2 ∷ []) × (to_be_bytes w32 4294967295 ≡ 255 ∷ 255 ∷ 255 ∷ 255 ∷ [])
four_spelled = (refl, refl)

eight_spelled : to_be_bytes w64 27 ≡ 0 ∷ 0 ∷ 0 ∷ 0 ∷ 0 ∷ 0 ∷ 0 ∷ 27 ∷ []
eight_spelled = refl

-- behind another byte, and before one more
four_read : four_at (9 ∷ 0 ∷ 0 ∷ 1 ∷ 2 ∷ 9 ∷ []) 1 ≡ 258
four_read = refl

eight_read : eight_at (9 ∷ 1 ∷ 0 ∷ 0 ∷ 0 ∷ 0 ∷ 0 ∷ 0 ∷ 27 ∷ 9 ∷ []) 1 ≡ 72057594037927963
eight_read = refl
