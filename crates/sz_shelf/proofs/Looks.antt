-- What the answer of a look tells of what its turn found.
use Rattle.std.proofs.Common.{◌≡◌, ℕ, List, [], ◌∷◌, Bool, true, false, refl, sym, ap, ◌∙◌}
use mathlib.Core.Bool.{true≢false}
use Rattle.sz_spec.specs.declared.modes.Strategy.{Strategy}
use Rattle.sz_shelf.specs.Answers.{look_answer, read_by}
use Rattle.sz_shelf.specs.declared.read_by.ReadBy.{ReadBy}
use Rattle.sz_shelf.specs.declared.answers.Look.{Look}
use Rattle.sz_shelf.specs.declared.answers.Look.TheVariants as look

abbrev is-done : Look → Bool
is-done (look.Done _) = true
is-done (look.Unsealed _) = false

-- one that is done found a seal, and tells the strategy that was asked for
pub done-found : (s : Strategy) (n : ℕ) (found : List ℕ) (sealed : Bool) (by : ReadBy) (r : Look)
    → r ≡ look_answer s n found sealed → r ≡ look.Done by → (sealed ≡ true) × (r ≡ read_by s)
done-found s n found true by r answer is = (refl, answer)
done-found s n found false by r answer is = absurd (true≢false (sym (ap is-done (sym answer ∙ is))))

-- one that is not found none
pub unsealed-found : (s : Strategy) (n : ℕ) (found : List ℕ) (sealed : Bool) (k : ℕ) (r : Look)
    → r ≡ look_answer s n found sealed → r ≡ look.Unsealed k → sealed ≡ false
unsealed-found s n found true k r answer is = absurd (true≢false (ap is-done (sym answer ∙ is)))
unsealed-found s n found false k r answer is = refl
