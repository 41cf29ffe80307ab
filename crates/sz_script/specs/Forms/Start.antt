-- {"start":NAME,"base":[[NAME,U],..]}: start a version of a flow on base arrays.
use Rattle.std.specs.Prelude.{ℕ, List, [], ◌∷◌, codes, Option, option_map, option_and_then}
use Rattle.serde_json.specs.Data.{Data}
use Rattle.serde_json.specs.Find.{as_str}
use Rattle.sz_script.specs.Fields.{number_in, two_in, list_at, at}
use Rattle.sz_script.specs.Drafts.{Draft, plain}
use Rattle.sz_script.specs.Form.{Form}
use Rattle.sz_script.specs.declared.command.BaseName.{BaseName}
use Rattle.sz_script.specs.declared.command.Command.TheVariants as command

-- [NAME,U]
abbrev pub base_in : Data → Option BaseName
base_in d =
    option_and_then
    (λ (p : Data × Data). option_and_then
    (λ name. option_map (λ v. record { name = name; version = v }) (number_in p.1)) (as_str p.0))
    (two_in d)

abbrev pub with_base : List ℕ → List BaseName → Draft
with_base name base = plain (command.Start name base)

abbrev pub start_form : Form
start_form = record {
  fields = codes "start" ∷ codes "base" ∷ [];
  draft = λ d. option_and_then
      (λ name. option_map (with_base name)
      (list_at base_in (codes "base") d))
      (at as_str (codes "start") d);
}
