-- {"flow":NAME,"inputs":U,"nodes":[NODE,..]}: hold a flow under a name.
use Rattle.std.specs.Prelude.{ℕ, List, [], ◌∷◌, codes, option_map, option_and_then}
use Rattle.serde_json.specs.Find.{as_str}
use Rattle.sz_spec.specs.declared.flow.Node.{Node}
use Rattle.sz_script.specs.Fields.{number_in, list_at, at}
use Rattle.sz_script.specs.Nodes.{node_in}
use Rattle.sz_script.specs.Drafts.{Draft, plain}
use Rattle.sz_script.specs.Form.{Form}
use Rattle.sz_script.specs.declared.command.Command.TheVariants as command

abbrev pub with_flow : List ℕ → ℕ → List Node → Draft
with_flow name inputs nodes =
    plain (command.Flow name (record { inputs = inputs; nodes = nodes }))

abbrev pub flow_form : Form
flow_form = record {
  fields = codes "flow" ∷ codes "inputs" ∷ codes "nodes" ∷ [];
  draft = λ d. option_and_then
      (λ name. option_and_then
      (λ inputs. option_map (with_flow name inputs) (list_at node_in (codes "nodes") d))
      (at number_in (codes "inputs") d))
      (at as_str (codes "flow") d);
}
