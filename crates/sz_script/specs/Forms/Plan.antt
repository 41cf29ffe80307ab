-- {"plan":NAME,"base":[[NAME,U],..],"units":U,"back":U,"forward":U}: plan the strategies of a
-- flow's nodes on base arrays, for so many units and so many asks in each direction.
use Rattle.std.specs.Prelude.{ℕ, List, [], ◌∷◌, codes, option_map, option_and_then}
use Rattle.serde_json.specs.Find.{as_str}
use Rattle.sz_script.specs.Fields.{number_in, list_at, at}
use Rattle.sz_script.specs.Drafts.{Draft, plain}
use Rattle.sz_script.specs.Form.{Form}
use Rattle.sz_script.specs.Forms.Start.{base_in}
use Rattle.sz_script.specs.declared.command.BaseName.{BaseName}
use Rattle.sz_script.specs.declared.command.Command.TheVariants as command

abbrev pub within_units : List ℕ → List BaseName → ℕ → ℕ → ℕ → Draft
within_units name base units back forward = plain (command.Plan name base units back forward)

abbrev pub plan_form : Form
plan_form = record {
  fields = codes "plan" ∷ codes "base" ∷ codes "units" ∷ codes "back" ∷ codes "forward" ∷ [];
  draft = λ d. option_and_then (λ name. option_and_then (λ base. option_and_then
      (λ units. option_and_then
      (λ back. option_map (within_units name base units back) (at number_in (codes "forward") d))
      (at number_in (codes "back") d))
      (at number_in (codes "units") d))
      (list_at base_in (codes "base") d))
      (at as_str (codes "plan") d);
}
