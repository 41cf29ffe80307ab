-- {"strategy":NAME,"node":U,"list":[S,..]}: set the strategies of a node, each by its word.
use Rattle.std.specs.Prelude.{[], ◌∷◌, codes, option_map, option_and_then}
use Rattle.serde_json.specs.Find.{as_str}
use Rattle.sz_script.specs.Fields.{number_in, list_at, at}
use Rattle.sz_script.specs.Words.{strategy_in}
use Rattle.sz_script.specs.Drafts.{plain}
use Rattle.sz_script.specs.Form.{Form}
use Rattle.sz_script.specs.declared.command.Command.TheVariants as command

abbrev pub strategy_form : Form
strategy_form = record {
  fields = codes "strategy" ∷ codes "node" ∷ codes "list" ∷ [];
  draft = λ d. option_and_then
      (λ name. option_and_then
      (λ node. option_map (λ list. plain (command.Strategy name node list))
      (list_at strategy_in (codes "list") d))
      (at number_in (codes "node") d))
      (at as_str (codes "strategy") d);
}
