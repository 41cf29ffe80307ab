-- Numbers of placed pieces, and the piece of a cell.
use Rattle.std.proofs.Common.{◌≡◌, ℕ, suc, ◌/◌, ◌<◌, ◌==◌, Bool, true, false, ◌⊎◌, List, [], ◌∷◌, length}
use Rattle.std.proofs.Common.{refl, sym, ◌∙◌, true≢false, eqb-true, eq-eqb, inl, inr}
use Rattle.std.proofs.Common.{arith, set, get_or-set_other}
use Rattle.std.specs.Prelude.{replicate}
use Rattle.std.specs.List.{list_all}
use Rattle.std.proofs.lemmas.Bool.{cases_Bool, and_from}
use Rattle.std.proofs.lemmas.List.{get_or-set_same, get_or-replicate, length-replicate}
use Rattle.sz_cells.proofs.Sets.{index-below}
use Rattle.sz_cells.specs.declared.Cell.{Cell}
use Rattle.sz_cells.specs.Extent.{Extent, holds, index_of}
use Rattle.sz_spec.specs.Pieces.{pieces_of, is_in_piece}
use Rattle.sz_store.specs.Kept.{is_placed}

pub placed-same : (placed : List Bool) (k : ℕ) → k < length placed → is_placed (set placed k true) k ≡ true
placed-same placed k inside = get_or-set_same placed k true false inside

pub placed-more : (placed : List Bool) (k j : ℕ) → k < length placed → is_placed placed j ≡ true
    → is_placed (set placed k true) j ≡ true
placed-more placed k j inside there =
    elim (cases_Bool (j == k)) [
      | inl same ↦ rw (eqb-true j k same) (placed-same placed k inside)
      | inr other ↦ get_or-set_other placed k j true false (λ e. true≢false (sym (eq-eqb j k e) ∙ other)) ∙ there
    ]

pub placed-cases : (placed : List Bool) (k j : ℕ) → is_placed (set placed k true) j ≡ true
    → (j ≡ k) ⊎ (is_placed placed j ≡ true)
placed-cases placed k j there =
    elim (cases_Bool (j == k)) [
      | inl same ↦ inl (eqb-true j k same)
      | inr other ↦
          inr (sym (get_or-set_other placed k j true false (λ e. true≢false (sym (eq-eqb j k e) ∙ other))) ∙ there)
    ]

pub is-false : (b : Bool) → (b ≡ true → ⊥) → b ≡ false
is-false true never = absurd (never refl)
is-false false never = refl

pub all-placed : (placed : List Bool) → ((k : ℕ) → k < length placed → is_placed placed k ≡ true)
    → list_all (λ b. b) placed ≡ true
all-placed [] each = refl
all-placed (b ∷ placed) each =
    rw (each 0 (omega arith)) (all-placed placed (λ k below. each (suc k) (omega arith)))

-- all of so many that are placed
pub whole-replicate : (n : ℕ) → list_all (λ b. b) (replicate n true) ≡ true
whole-replicate n =
    all-placed (replicate n true)
    (λ k below. get_or-replicate n k true false (omega (arith, length-replicate n true, below)))

-- the piece of a cell
pub own-piece : (e : Extent) (o : Cell) → holds e o ≡ true
    → (index_of e o / 64 < pieces_of e) × (is_in_piece e (index_of e o / 64) o ≡ true)
own-piece e o held =
    let below = index-below e o held in (
      omega arith,
      and_from (holds e o) (index_of e o / 64 == index_of e o / 64) held
          (eq-eqb (index_of e o / 64) (index_of e o / 64) refl),
    )
