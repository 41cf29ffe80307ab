-- What a form of a line is. In the forms, NAME is a text, U a whole number from 0 to 4,294,967,295,
-- and I a whole number that is an i64. A number with a point or an exponent is no whole number, and
-- `-0` is none.
use Rattle.std.specs.Prelude.{ℕ, List, [], ◌∷◌, Option, option_map, option_and_then}
use Rattle.serde_json.specs.Data.{Data}
use Rattle.serde_json.specs.Find.{as_str}
use Rattle.sz_script.specs.Fields.{number_in, at}
use Rattle.sz_script.specs.Drafts.{Draft, plain}
use Rattle.sz_script.specs.declared.command.Command.{Command}

-- a form: the fields that a line of it has, exactly these, and what they say, where each has its
-- type
pub record Form : Type 0 where
  pub fields : List (List ℕ)
  pub draft : Data → Option Draft

-- a form of a name, under its word, and one field more
abbrev pub of_name : {X : Type 0} → (List ℕ → X → Draft) → List ℕ → List ℕ → (Data → Option X)
    → Form
of_name make word field f = record {
  fields = word ∷ field ∷ [];
  draft = λ d. option_and_then (λ name. option_map (make name) (at f field d)) (at as_str word d);
}

-- a form of a version alone, under its word
abbrev pub of_version : (ℕ → Command) → List ℕ → Form
of_version make word = record {
  fields = word ∷ [];
  draft = λ d. option_map (λ version. plain (make version)) (at number_in word d);
}
