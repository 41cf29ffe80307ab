-- For whoever claims piece after piece: what was claimed or met stays so, and the next piece joins it.
-- Key idea: a claim puts its piece at the end of one list and leaves the other.
use Rattle.std.proofs.Common.{◌≡◌, ◌+◌, ◌<◌, ◌⊎◌, ℕ, Bool, true, false, Contains, List, []}
use Rattle.std.proofs.Common.{◌∷◌, ◌++◌, sym, refl, subst, inl, inr, ⊎_elim, below_more}
use Rattle.std.proofs.lemmas.List.Elements.{Contains-append_left, Contains-push}

-- a list that grew has what it had, and what was put behind it
grown-has : (old new : List ℕ) (n : ℕ) → new ≡ old ++ n ∷ [] → (piece : ℕ) → Contains old piece
    → Contains new piece
grown-has old new n is piece has =
    subst (λ (l : List ℕ). Contains l piece) (sym is) (Contains-append_left old (n ∷ []) piece has)

grown-has-last : (old new : List ℕ) (n : ℕ) → new ≡ old ++ n ∷ [] → Contains new n
grown-has-last old new n is = subst (λ (l : List ℕ). Contains l n) (sym is) (Contains-push old n)

same-has : (old new : List ℕ) → new ≡ old → (piece : ℕ) → Contains old piece → Contains new piece
same-has old new is piece has = subst (λ (l : List ℕ). Contains l piece) (sym is) has

-- One claim more, of the piece n: the lists before it and after it, what is known of the pieces below n, the answer,
-- and the clauses of `claim` on both lists
pub reach-next : (n : ℕ) (claimed met claimed' met' : List ℕ)
    → ((piece : ℕ) → piece < n → Contains claimed piece ⊎ Contains met piece) → (won : Bool)
    → (won ≡ true → claimed' ≡ claimed ++ n ∷ []) → (won ≡ true → met' ≡ met)
    → (won ≡ false → claimed' ≡ claimed) → (won ≡ false → met' ≡ met ++ n ∷ [])
    → (piece : ℕ) → piece < n + 1 → Contains claimed' piece ⊎ Contains met' piece
reach-next n claimed met claimed' met' before true won_claimed won_met lost_claimed lost_met =
    below_more _ _
    (λ k h. ⊎_elim
    (λ has. inl (grown-has _ _ n (won_claimed refl) k has))
    (λ has. inr (same-has _ _ (won_met refl) k has))
    (before k h))
    (inl (grown-has-last _ _ n (won_claimed refl)))
reach-next n claimed met claimed' met' before false won_claimed won_met lost_claimed lost_met =
    below_more _ _
    (λ k h. ⊎_elim
    (λ has. inl (same-has _ _ (lost_claimed refl) k has))
    (λ has. inr (grown-has _ _ n (lost_met refl) k has))
    (before k h))
    (inr (grown-has-last _ _ n (lost_met refl)))
