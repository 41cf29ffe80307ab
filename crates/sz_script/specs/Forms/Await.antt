-- {"await":U}: await a version.
use Rattle.std.specs.Prelude.{codes}
use Rattle.sz_script.specs.Form.{Form, of_version}
use Rattle.sz_script.specs.declared.command.Command.TheVariants as command

abbrev pub await_form : Form
await_form = of_version command.Await (codes "await")
