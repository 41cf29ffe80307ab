-- What is one: lists that are sorted to one list but for the order, and records that have both numbers.
use Rattle.std.proofs.Common.{◌≡◌, ◌==◌, ◌&&◌, ℕ, List, ap, ap₂, subst, sym, ◌∙◌}
use Rattle.std.specs.Bool.{Decides}
use Rattle.std.specs.Prelude.{IsPermutation}
use Rattle.std.proofs.lemmas.Bool.Decides.{Decides-eqb, Decides-and}
use Rattle.std.proofs.lemmas.List.Sorted.{IsPermutation-sym, IsPermutation-trans}

-- lists that are sorted to one list are one but for the order
pub sorted-alike : {X : Type 0} (a b left right : List X) → IsPermutation a left → IsPermutation b right
    → left ≡ right → IsPermutation a b
sorted-alike {X} a b left right first second one =
    IsPermutation-trans a right b (subst (λ (xs : List X). IsPermutation a xs) one first)
    (IsPermutation-sym b right second)

-- what is made of two numbers is one where both of them are
pub numbers-decide : {X : Type 0} (p q : X → ℕ) (make : ℕ → ℕ → X) → ((x : X) → make (p x) (q x) ≡ x) → (a b : X)
    → Decides ((p a == p b) && (q a == q b)) (a ≡ b)
numbers-decide p q make whole a b =
    let both = Decides-and (p a == p b) (q a == q b) (Decides-eqb (p a) (p b)) (Decides-eqb (q a) (q b)) in (
      λ t. let same = both.0 t in sym (whole a) ∙ ap₂ make same.0 same.1 ∙ whole b,
      λ e. both.1 (ap p e, ap q e),
    )
