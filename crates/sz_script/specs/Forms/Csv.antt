-- {"csv":NAME,"text":TEXT}: an array of one layer, as comma-separated text.
use Rattle.std.specs.Prelude.{ℕ, List, codes}
use Rattle.serde_json.specs.Find.{as_str}
use Rattle.sz_script.specs.Records.{grid_of_text}
use Rattle.sz_script.specs.Drafts.{Draft, in_text}
use Rattle.sz_script.specs.Form.{Form, of_name}
use Rattle.sz_script.specs.declared.command.Command.TheVariants as command

abbrev pub with_text : List ℕ → List ℕ → Draft
with_text name text =
    record { command = command.Csv name (grid_of_text text); cells = in_text text }

abbrev pub csv_form : Form
csv_form = of_name with_text (codes "csv") (codes "text") as_str
