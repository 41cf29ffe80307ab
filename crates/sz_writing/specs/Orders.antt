-- Which command a line that is written for an array is to be read as.
use Rattle.std.specs.Prelude.{ℕ, List, ◌==◌, if◌then◌else◌}
use Rattle.sz_spec.specs.Values.{Grid}
use Rattle.sz_script.specs.declared.command.Command.{Command}
use Rattle.sz_script.specs.declared.command.Command.TheVariants as order

-- the command that holds an array under a name: in layers, where it has more than one
abbrev pub array_order : List ℕ → Grid → Command
array_order name array =
    if array.extent.layers == 1 then order.Array name array else order.Layers name array
