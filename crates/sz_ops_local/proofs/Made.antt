-- Values that are made one after another, each of what stands at its place.
use Rattle.std.proofs.Common.{◌≡◌, ℕ, ◌+◌, ◌<◌, suc, List, [], ◌∷◌, ◌++◌, map, length, get_or, take}
use Rattle.std.proofs.Common.{sym, ap, ap₂, ◌∙◌, arith, Option, None, min}
use Rattle.std.specs.Prelude.{ℤ}
use Rattle.std.specs.List.{zip}
use Rattle.std.proofs.Math.Seq.{take-suc, take-length}
use Rattle.std.proofs.lemmas.List.{map-append}
use Rattle.std.proofs.lemmas.Slice.Zip.{get_or-zip, length-zip}

-- one more
pub made-next : {A : Type 0} (f : A → Option ℤ) (xs : List A) (so_far : List (Option ℤ)) (d : A) (k : ℕ) (v : Option ℤ)
    → k < length xs → so_far ≡ map f (take k xs) → v ≡ f (get_or xs k d) → so_far ++ v ∷ [] ≡ map f (take (k + 1) xs)
made-next f xs so_far d k v low made is =
    let one : k + 1 ≡ suc k = omega arith in
    ap₂ (λ (a : List (Option ℤ)) (b : Option ℤ). a ++ b ∷ []) made is
    ∙ sym (map-append f (take k xs) (get_or xs k d ∷ []))
    ∙ sym (ap (λ n. map f (take n xs)) one ∙ ap (map f) (take-suc xs k d low))

-- all of them
pub made-all : {A : Type 0} (f : A → Option ℤ) (xs : List A) (made : List (Option ℤ)) (k : ℕ) → k ≡ length xs
    → made ≡ map f (take k xs) → made ≡ map f xs
made-all f xs made k all is = is ∙ ap (λ n. map f (take n xs)) all ∙ ap (map f) (take-length xs)

-- the same of two lists
pub zip-at : (xs ys : List (Option ℤ)) (k : ℕ) → k < min (length xs) (length ys)
    → get_or (zip xs ys) k (None, None) ≡ (get_or xs k None, get_or ys k None)
zip-at xs ys k low = get_or-zip xs ys k (None, None) (omega (arith, low)) (omega (arith, low))

pub zip-below : (xs ys : List (Option ℤ)) (k : ℕ) → k < min (length xs) (length ys) → k < length (zip xs ys)
zip-below xs ys k low = omega (arith, low, length-zip xs ys)
