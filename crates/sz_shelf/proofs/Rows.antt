-- Worked rows of the definitions, on a shelf of two pieces: what each says, and what it must refuse.
use Rattle.std.specs.Prelude.{◌≡◌, ◌==◌, [], ◌∷◌, Bool, true, false}
use Rattle.std.proofs.Common.{refl, ap}
use mathlib.Core.Bool.{true≢false}
use Rattle.sz_shelf.specs.Rule.{HasNoRepeats}
use Rattle.sz_shelf.specs.Steps.{longer}
use Rattle.sz_shelf.specs.Answers.{place_answer, seal_answer, look_answer, read_by}
use Rattle.sz_shelf.specs.declared.answers.Placed.TheVariants as placed
use Rattle.sz_shelf.specs.declared.answers.SealReply.TheVariants as seal
use Rattle.sz_shelf.specs.declared.answers.Look.{Look}
use Rattle.sz_shelf.specs.declared.answers.Look.TheVariants as look
use Rattle.sz_spec.specs.Modes.{number_of}
use Rattle.sz_spec.specs.declared.modes.Strategy.TheVariants.{FullOneB, FullOneF}

-- nothing is placed; then piece 1; then both
seal-first : seal_answer 2 [] ≡ seal.Missing 0
seal-first = refl

seal-second : seal_answer 2 (1 ∷ []) ≡ seal.Missing 0
seal-second = refl

seal-last : seal_answer 2 (1 ∷ 0 ∷ []) ≡ seal.Sealed
seal-last = refl

place-new : place_answer 0 (1 ∷ []) false ≡ placed.New
place-new = refl

place-again : place_answer 1 (1 ∷ []) false ≡ placed.Already
place-again = refl

place-late : place_answer 1 (1 ∷ 0 ∷ []) true ≡ placed.Sealed
place-late = refl

look-early : look_answer FullOneB 2 (1 ∷ []) false ≡ look.Unsealed 0
look-early = refl

look-whole : look_answer FullOneB 2 (1 ∷ 0 ∷ []) false ≡ look.Unsealed 2
look-whole = refl

look-sealed : look_answer FullOneB 2 (1 ∷ 0 ∷ []) true ≡ read_by FullOneB
look-sealed = refl

-- a look by one strategy is not told as one by another
look-other : look_answer FullOneB 2 (1 ∷ 0 ∷ []) true ≡ read_by FullOneF → ⊥
look-other is = true≢false (ap is-full_one_b is) where
  is-full_one_b : Look → Bool
  is-full_one_b (look.Done by) = number_of by.strategy == number_of FullOneB
  is-full_one_b (look.Unsealed k) = false

-- the longer list, and the first of two that are equally long
longer-second : longer (1 ∷ []) (1 ∷ 0 ∷ []) ≡ 1 ∷ 0 ∷ []
longer-second = refl

longer-first : longer (1 ∷ []) (0 ∷ []) ≡ 1 ∷ []
longer-first = refl

-- a piece twice in a list
piece-twice : HasNoRepeats (1 ∷ 0 ∷ 1 ∷ []) → ⊥
piece-twice once = true≢false once.0
