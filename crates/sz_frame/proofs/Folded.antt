-- What a summary of numbers is after one number more, and after those of some values.
--
-- The key idea: each part of a summary is a walk over the list, so it goes by parts at the list's end.
use Rattle.std.proofs.Common.{◌≡◌, ℕ, ◌+◌, List, [], ◌∷◌, ◌++◌, length, Option, Some, None}
use Rattle.std.proofs.Common.{refl, sym, ap, ◌∙◌, take, get_or, append_assoc, append-nil}
use Rattle.std.specs.Prelude.{ℤ, pos, ◌+ℤ◌, fold}
use Rattle.std.specs.List.{reduce}
use Rattle.std.specs.Int.{int_min, int_max}
use Rattle.std.proofs.Common.{◌<◌}
use Rattle.std.proofs.lemmas.List.{take_more}
use Rattle.std.proofs.lemmas.List.Sums.{fold-append}
use Rattle.std.proofs.lemmas.List.Elements.{filter_map-append}
use Rattle.sz_spec.specs.Values.{total}
use Rattle.sz_frame.specs.Folding.{summary_of, numbers_in}

-- one item more
pub reduce-first : (f : ℤ → ℤ → ℤ) (zs : List ℤ) (z : ℤ) → None ≡ reduce f zs → Some z ≡ reduce f (zs ++ z ∷ [])
reduce-first f [] z none = refl
reduce-first f (y ∷ ys) z none = let never = none in cc

pub reduce-next : (f : ℤ → ℤ → ℤ) (zs : List ℤ) (z m : ℤ) → Some m ≡ reduce f zs
    → Some (f m z) ≡ reduce f (zs ++ z ∷ [])
reduce-next f [] z m some = let never = some in cc
reduce-next f (y ∷ ys) z m some =
    let is : m ≡ fold f y ys = cc in
    ap (λ a. Some (f a z)) is ∙ ap (λ a. Some a) (sym (fold-append f y ys (z ∷ [])))

-- one number more in the whole sum
pub total-next : (zs : List ℤ) (z : ℤ) → total zs +ℤ z ≡ total (zs ++ z ∷ [])
total-next zs z = sym (fold-append (λ a b. a +ℤ b) (pos 0) zs (z ∷ []))

-- a summary by its parts
pub summary-is : (zs : List ℤ) (count : ℕ) (sum : ℤ) (least greatest : Option ℤ) → count ≡ length zs
    → sum ≡ total zs → least ≡ reduce int_min zs → greatest ≡ reduce int_max zs
    → record { count = count; sum = sum; least = least; greatest = greatest } ≡ summary_of zs
summary-is zs count sum least greatest a b c d = cc

-- one value more, which holds a number
pub numbers-some : (zs : List ℤ) (values : List (Option ℤ)) (k : ℕ) (z : ℤ) → k < length values
    → get_or values k None ≡ Some z
    → (zs ++ numbers_in (take k values)) ++ z ∷ [] ≡ zs ++ numbers_in (take (k + 1) values)
numbers-some zs values k z inside is =
    append_assoc zs (numbers_in (take k values)) (z ∷ [])
    ∙ ap (λ ys. zs ++ ys)
    (sym (ap numbers_in (take_more values k None inside) ∙ filter_map-append (λ v. v) (take k values) _
    ∙ (rw is refl)))

-- or nothing
pub numbers-none : (zs : List ℤ) (values : List (Option ℤ)) (k : ℕ) → k < length values
    → get_or values k None ≡ None
    → zs ++ numbers_in (take k values) ≡ zs ++ numbers_in (take (k + 1) values)
numbers-none zs values k inside is =
    ap (λ ys. zs ++ ys)
    (sym (ap numbers_in (take_more values k None inside) ∙ filter_map-append (λ v. v) (take k values) _
    ∙ (rw is (append-nil _))))
