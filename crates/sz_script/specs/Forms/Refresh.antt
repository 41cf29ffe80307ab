-- {"refresh":U,"input":U,"set":[NEW,..]}: set cells of a base array of a version, and
-- start its flow again on the array that they give.
use Rattle.std.specs.Prelude.{ℕ, List, [], ◌∷◌, codes, Option, None, option_map, option_and_then}
use Rattle.serde_json.specs.Data.{Data}
use Rattle.sz_script.specs.Fields.{number_in, list_in, list_at, at}
use Rattle.sz_script.specs.Layers.{value_in}
use Rattle.sz_script.specs.Drafts.{Draft, plain}
use Rattle.sz_script.specs.Form.{Form}
use Rattle.sz_script.specs.declared.command.NewCell.{NewCell}
use Rattle.sz_script.specs.declared.command.Command.TheVariants as command

-- a cell of a layer, by its row in the layer and its column, with what it is to hold
abbrev pub new_cell_at : ℕ → Data → Data → Data → Option NewCell
new_cell_at layer r c v =
    option_and_then (λ row. option_and_then (λ col.
    option_map (λ value. record { layer = layer; row = row; col = col; value = value })
    (value_in v))
    (number_in c))
    (number_in r)

-- [U,U,VALUE], a row and a column of layer 0, or [U,U,U,VALUE], a layer, a row in it and a column
abbrev pub new_cell_among : List Data → Option NewCell
new_cell_among (r ∷ c ∷ v ∷ []) = new_cell_at 0 r c v
new_cell_among (l ∷ r ∷ c ∷ v ∷ []) =
    option_and_then (λ layer. new_cell_at layer r c v) (number_in l)
new_cell_among _ = None

abbrev pub new_cell_in : Data → Option NewCell
new_cell_in d = option_and_then new_cell_among (list_in d)

abbrev pub with_set : ℕ → ℕ → List NewCell → Draft
with_set version input set = plain (command.Refresh version input set)

abbrev pub refresh_form : Form
refresh_form = record {
  fields = codes "refresh" ∷ codes "input" ∷ codes "set" ∷ [];
  draft = λ d. option_and_then (λ version. option_and_then
      (λ input. option_map (with_set version input) (list_at new_cell_in (codes "set") d))
      (at number_in (codes "input") d))
      (at number_in (codes "refresh") d);
}
