-- {"layers":NAME,"cells":[LIST,..]}: an array of several layers, each a list of rows.
use Rattle.std.specs.Prelude.{ℕ, List, codes}
use Rattle.serde_json.specs.Data.{Data}
use Rattle.sz_script.specs.Fields.{list_in}
use Rattle.sz_script.specs.Layers.{grid_of}
use Rattle.sz_script.specs.Drafts.{Draft, in_layers}
use Rattle.sz_script.specs.Form.{Form, of_name}
use Rattle.sz_script.specs.declared.command.Command.TheVariants as command

abbrev pub with_layers : List ℕ → List Data → Draft
with_layers name layers =
    record { command = command.Layers name (grid_of layers); cells = in_layers layers }

abbrev pub layers_form : Form
layers_form = of_name with_layers (codes "layers") (codes "cells") list_in
