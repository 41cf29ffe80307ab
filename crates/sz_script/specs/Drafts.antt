-- The rules that a line of a form is read by, one after another.
use Rattle.std.specs.Prelude.{ℕ, List, Bool, false, not, if◌then◌else◌, Option, Some, None}
use Rattle.std.specs.Prelude.{Result, Ok}
use Rattle.std.specs.Prelude.{Err, is_some}
use Rattle.std.specs.List.{list_all}
use Rattle.serde_json.specs.Data.{Data}
use Rattle.sz_spec.specs.declared.flow.FlowFault.{FlowFault}
use Rattle.sz_script.specs.Names.{is_name}
use Rattle.sz_script.specs.Layers.{are_bad_cells, are_too_many_cells}
use Rattle.sz_script.specs.Right.{names_in, fault_in}
use Rattle.sz_script.specs.Records.{is_bad_text, has_too_many_fields}
use Rattle.sz_script.specs.declared.command.Command.{Command}
use Rattle.sz_script.specs.declared.refusal.Refusal.{Refusal}
use Rattle.sz_script.specs.declared.refusal.Refusal.TheVariants as refusal

-- how a form gives the cells of an array: it has none, or gives layers of them, or a
-- comma-separated text
pub data CellsGiven : Type 0 where
  no_cells : CellsGiven
  in_layers : List Data → CellsGiven
  in_text : List ℕ → CellsGiven

-- the cells are bad
abbrev pub are_bad : CellsGiven → Bool
are_bad no_cells = false
are_bad (in_layers ds) = are_bad_cells ds
are_bad (in_text text) = is_bad_text text

-- there are too many cells
abbrev pub are_too_many : CellsGiven → Bool
are_too_many no_cells = false
are_too_many (in_layers ds) = are_too_many_cells ds
are_too_many (in_text text) = has_too_many_fields text

-- what a line of a form says: the command that it is where no rule refuses it, and the cells of an
-- array as it gives them
pub record Draft : Type 0 where
  pub command : Command
  pub cells : CellsGiven

-- a draft of a form without cells of an array
abbrev pub plain : Command → Draft
plain c = record { command = c; cells = no_cells }

-- a name of the line is none
abbrev pub has_bad_name : Draft → Bool
has_bad_name x = not (list_all is_name (names_in x.command))

-- the cells are bad
abbrev pub has_bad_cells : Draft → Bool
has_bad_cells x = are_bad x.cells

-- there are too many cells
abbrev pub has_too_many_cells : Draft → Bool
has_too_many_cells x = are_too_many x.cells

-- the flow has a fault
abbrev pub has_bad_flow : Draft → Bool
has_bad_flow x = is_some (fault_in x.command)

-- a command, unless its flow has a fault
abbrev pub unless_fault : Option FlowFault → Command → Result Command Refusal
unless_fault None c = Ok c
unless_fault (Some fault) c = Err (refusal.BadFlow fault)

-- the command of a draft, or the first of these rules that refuses it
abbrev pub reading_of_draft : Draft → Result Command Refusal
reading_of_draft x = if has_bad_name x then Err refusal.BadName
    else if has_bad_cells x then Err refusal.BadCells
    else if has_too_many_cells x then Err refusal.TooManyCells
    else unless_fault (fault_in x.command) x.command

-- the same of a value that may be of no form
abbrev pub reading_of_form : Option Draft → Result Command Refusal
reading_of_form None = Err refusal.NoForm
reading_of_form (Some x) = reading_of_draft x
