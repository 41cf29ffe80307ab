-- What holds of bytes that are only appended to: what was there first is still there, and the bytes of rows of numbers
-- are those of the numbers one after another.
use Rattle.std.proofs.Common.{◌≡◌, ℕ, zero, suc, ◌+◌, ◌*◌, ◌/◌, ◌<◌, List, [], ◌∷◌, ◌++◌, length, take, refl, sym}
use Rattle.std.proofs.Common.{ap, ap₂, ◌∙◌, arith, length-append}
use Rattle.std.specs.List.{All, flat_map}
use Rattle.std.proofs.Math.Nat.{mul-div_cancel}
use Rattle.std.proofs.Math.Seq.{take-length}
use Rattle.std.proofs.lemmas.List.{take_at, take-take}
use Rattle.std.proofs.lemmas.List.Concat.{flat_map-append}
use Rattle.std.proofs.lemmas.List.Elements.{All-head, All-tail}
use Rattle.sz_region.specs.Putting.{AreRows}

-- what stood before something was appended still stands
pub kept-first : (old word now : List ℕ) → take (length (old ++ word)) now ≡ old ++ word → take (length old) now ≡ old
kept-first old word now kept =
    sym (take-take (length old) (length (old ++ word)) now (omega (arith, length-append old word)))
    ∙ ap (take (length old)) kept ∙ take_at old word (length old) refl

-- nothing was appended yet
pub kept-same : (old now : List ℕ) → now ≡ old → take (length old) now ≡ old
kept-same old now same = ap (take (length old)) same ∙ take-length old

-- rows have as many numbers as they are wide, each
pub rows-count : (width : ℕ) (rows : List (List ℕ)) → All (λ row. length row ≡ width) rows
    → length (flat_map (λ row. row) rows) ≡ length rows * width
rows-count width [] wide = omega arith
rows-count width (row ∷ rows) wide =
    let rest = rows-count width rows (All-tail (λ xs. length xs ≡ width) row rows wide) in
    omega (arith, length-append row (flat_map (λ r. r) rows), All-head (λ xs. length xs ≡ width) row rows wide)

-- so many numbers make so many rows
pub rows-number : (width : ℕ) (numbers : List ℕ) (rows : List (List ℕ)) → 0 < width → AreRows width numbers rows
    → length numbers / width ≡ length rows
rows-number width numbers rows some are =
    ap (λ (n : ℕ). n / width) (ap length (sym are.flat) ∙ rows-count width rows are.wide)
    ∙ mul-div_cancel (length rows) some

-- the numbers' bytes row by row
pub rows-flat : {X : Type 0} (word : X → List ℕ) (rows : List (List X))
    → flat_map word (flat_map (λ row. row) rows) ≡ flat_map (flat_map word) rows
rows-flat word [] = refl
rows-flat word (row ∷ rows) =
    flat_map-append word row (flat_map (λ r. r) rows) ∙ ap (λ (xs : List ℕ). flat_map word row ++ xs)
    (rows-flat word rows)
