-- A word that is none of a table's is no operator's.
use Rattle.std.proofs.Common.{◌≡◌, ℕ, List, [], ◌∷◌, Bool, true, false, if◌then◌else◌, None, ap, ◌∙◌, refl}
use Rattle.std.specs.Str.{bytes_eq}
use Rattle.std.proofs.lemmas.Slice.Eq.{bytes_eq-Decides}
use Rattle.serde_json.specs.Data.{Data}
use Rattle.sz_script.specs.Nodes.{Operator, op_by}

-- a word is none of these operators'
abbrev pub AreOthers : List Operator → List ℕ → Type 0
AreOthers [] word = Unit {0}
AreOthers (o ∷ os) word = (word ≡ o.word → ⊥) × AreOthers os word

other_word : (word named : List ℕ) (b : Bool) → bytes_eq word named ≡ b → (word ≡ named → ⊥)
    → bytes_eq word named ≡ false
other_word word named true e other = absurd (other ((bytes_eq-Decides word named).0 e))
other_word word named false e other = e

pub none_named : (os : List Operator) (word : List ℕ) (d : Data) → AreOthers os word → op_by os word d ≡ None
none_named [] word d others = refl
none_named (o ∷ os) word d others =
    ap (λ (b : Bool). if b then o.read d else op_by os word d) (other_word word o.word _ refl others.0)
    ∙ none_named os word d others.1
