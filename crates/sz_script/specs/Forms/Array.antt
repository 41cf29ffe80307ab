-- {"array":NAME,"cells":LIST}: an array of one layer, a list of rows of numbers and nulls.
use Rattle.std.specs.Prelude.{ℕ, List, [], ◌∷◌, codes, Option, option_map}
use Rattle.serde_json.specs.Data.{Data}
use Rattle.sz_script.specs.Fields.{list_in}
use Rattle.sz_script.specs.Layers.{grid_of}
use Rattle.sz_script.specs.Drafts.{Draft, in_layers}
use Rattle.sz_script.specs.Form.{Form, of_name}
use Rattle.sz_script.specs.declared.command.Command.TheVariants as command

-- a value that is a list, as the only layer of an array
abbrev pub one_layer : Data → Option (List Data)
one_layer d = option_map (λ rows. d ∷ []) (list_in d)

abbrev pub with_one_layer : List ℕ → List Data → Draft
with_one_layer name layers =
    record { command = command.Array name (grid_of layers); cells = in_layers layers }

abbrev pub array_form : Form
array_form = of_name with_one_layer (codes "array") (codes "cells") one_layer
