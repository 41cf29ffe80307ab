-- Sums over what shared values are seen as, one after another.
use Rattle.std.proofs.Common.{◌≡◌, ℕ, zero, suc, ◌+◌, ◌<◌, ◌≤◌, List, [], ◌∷◌, ◌++◌, map, length, get_or}
use Rattle.std.proofs.Common.{take, drop, refl, sym, ap, ap₂, subst, ◌∙◌, arith, drop-cons, append_assoc}
use Rattle.std.specs.Prelude.{sum_by}
use Rattle.std.proofs.lemmas.List.Sums.{sum_by-cons, sum_by_push}
use Rattle.std.proofs.lemmas.List.{take_more}

map-append : {A X : Type 0} (g : A → X) (items more : List A) → map g (items ++ more) ≡ map g items ++ map g more
map-append g [] more = refl
map-append g (a ∷ items) more = ap (λ xs. g a ∷ xs) (map-append g items more)

-- one more
pub sum-next : {A X : Type 0} (f : X → ℕ) (g : A → X) (items : List A) (i : ℕ) (d : A) → i < length items
    → sum_by f (map g (take (i + 1) items)) ≡ sum_by f (map g (take i items)) + f (g (get_or items i d))
sum-next f g items i d inside =
    ap (λ items'. sum_by f (map g items')) (take_more items i d inside)
    ∙ ap (sum_by f) (map-append g (take i items) (get_or items i d ∷ []))
    ∙ sum_by_push f (map g (take i items)) (g (get_or items i d))

-- one less
pub sum-left : {A X : Type 0} (f : X → ℕ) (g : A → X) (items : List A) (i : ℕ) (d : A) → i < length items
    → sum_by f (map g (drop i items)) ≡ f (g (get_or items i d)) + sum_by f (map g (drop (i + 1) items))
sum-left f g items i d inside =
    let one : suc i ≡ i + 1 = omega arith in
    ap (λ items'. sum_by f (map g items')) (drop-cons items i d inside)
    ∙ sum_by-cons f (g (get_or items i d)) (map g (drop (suc i) items))
    ∙ ap (λ (n : ℕ). f (g (get_or items i d)) + sum_by f (map g (drop n items))) one

-- a list to which the next one was added
pub pushed-next : {A X : Type 0} (g : A → X) (before so_far new : List X) (items : List A) (i : ℕ) (d : A) (x : X)
    → i < length items → so_far ≡ before ++ map g (take i items) → x ≡ g (get_or items i d)
    → new ≡ so_far ++ x ∷ [] → new ≡ before ++ map g (take (i + 1) items)
pushed-next g before so_far new items i d x inside was is more =
    more
    ∙ ap₂ (λ xs y. xs ++ y ∷ []) was is
    ∙ append_assoc before (map g (take i items)) (g (get_or items i d) ∷ [])
    ∙ ap (λ xs. before ++ xs)
    (sym (ap (map g) (take_more items i d inside) ∙ map-append g (take i items) (get_or items i d ∷ [])))
