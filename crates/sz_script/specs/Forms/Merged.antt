-- {"merged":U}: tell the kinds of lineage of a version's merged stores.
use Rattle.std.specs.Prelude.{codes}
use Rattle.sz_script.specs.Form.{Form, of_version}
use Rattle.sz_script.specs.declared.command.Command.TheVariants as command

abbrev pub merged_form : Form
merged_form = of_version command.Merged (codes "merged")
