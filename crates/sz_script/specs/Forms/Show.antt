-- {"show":U,"node":U}: show the output of a node of a version.
use Rattle.std.specs.Prelude.{[], ◌∷◌, codes, option_map, option_and_then}
use Rattle.sz_script.specs.Fields.{number_in, at}
use Rattle.sz_script.specs.Drafts.{plain}
use Rattle.sz_script.specs.Form.{Form}
use Rattle.sz_script.specs.declared.command.Command.TheVariants as command

abbrev pub show_form : Form
show_form = record {
  fields = codes "show" ∷ codes "node" ∷ [];
  draft = λ d. option_and_then
      (λ version. option_map (λ node. plain (command.Show version node))
      (at number_in (codes "node") d))
      (at number_in (codes "show") d);
}
