-- {"merge":U}: merge the stores of a version.
use Rattle.std.specs.Prelude.{codes}
use Rattle.sz_script.specs.Form.{Form, of_version}
use Rattle.sz_script.specs.declared.command.Command.TheVariants as command

abbrev pub merge_form : Form
merge_form = of_version command.Merge (codes "merge")
