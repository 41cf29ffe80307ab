-- What the forms that ask along a path have in common: a version, a direction, a path and cells.
use Rattle.std.specs.Prelude.{ℕ, List, [], ◌∷◌, codes, Option, None, option_map}
use Rattle.std.specs.Prelude.{option_and_then}
use Rattle.serde_json.specs.Data.{Data}
use Rattle.sz_spec.specs.declared.modes.Dir.{Dir}
use Rattle.sz_spec.specs.Paths.{Step}
use Rattle.sz_script.specs.Fields.{number_in, numbers_in, list_in, list_at, at}
use Rattle.sz_script.specs.Words.{dir_in}
use Rattle.sz_script.specs.Drafts.{Draft}
use Rattle.sz_script.specs.Form.{Form}
use Rattle.sz_script.specs.declared.command.NamedCell.{NamedCell}
use Rattle.sz_script.specs.declared.forms.question.Question.{Question}

-- the fields behind the first, which names the form and holds the version
abbrev pub question_fields : List ℕ → List (List ℕ)
question_fields word = word ∷ codes "dir" ∷ codes "path" ∷ codes "cells" ∷ []

-- [U,U]: a node, and the number of one of its inputs
abbrev pub step_in : Data → Option Step
step_in d = option_map (λ (p : ℕ × ℕ). record { node = p.0; input = p.1 }) (numbers_in d)

-- a place of a layer, by its row in the layer and its column
abbrev pub named_cell_at : ℕ → Data → Data → Option NamedCell
named_cell_at layer r c =
    option_and_then
    (λ row. option_map (λ col. record { layer = layer; row = row; col = col }) (number_in c))
    (number_in r)

-- [U,U], a row and a column of layer 0, or [U,U,U], a layer, a row in it and a column
abbrev pub named_cell_among : List Data → Option NamedCell
named_cell_among (r ∷ c ∷ []) = named_cell_at 0 r c
named_cell_among (l ∷ r ∷ c ∷ []) = option_and_then (λ layer. named_cell_at layer r c) (number_in l)
named_cell_among _ = None

abbrev pub named_cell_in : Data → Option NamedCell
named_cell_in d = option_and_then named_cell_among (list_in d)

-- a version, a direction, a path and cells
abbrev pub question : ℕ → Dir → List Step → List NamedCell → Question
question version dir path cells =
    record { version = version; dir = dir; path = path; cells = cells }

abbrev pub question_in : List ℕ → Data → Option Question
question_in word d =
    option_and_then (λ version. option_and_then (λ dir. option_and_then
    (λ path. option_map (question version dir path) (list_at named_cell_in (codes "cells") d))
    (list_at step_in (codes "path") d))
    (at dir_in (codes "dir") d))
    (at number_in word d)

-- the form of a question under its word
abbrev pub question_form : (Question → Draft) → List ℕ → Form
question_form make word = record {
  fields = question_fields word;
  draft = λ d. option_map make (question_in word d);
}
