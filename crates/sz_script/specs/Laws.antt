-- What a reader may take for granted of reading a line: each refusal comes exactly where its rule
-- holds and none before it, and what is read is right.
use Rattle.std.specs.Prelude.{◌≡◌, ℕ, ◌<◌, ◌≤◌, ◌↔◌, List, length, Bool, true, false, Some}
use Rattle.std.specs.Prelude.{None, Ok, Err}
use Rattle.serde_json.specs.Data.{Data}
use Rattle.sz_spec.specs.declared.flow.FlowFault.{FlowFault}
use Rattle.sz_spec.specs.declared.modes.Strategy.{Strategy}
use Rattle.sz_script.specs.Right.{fault_in, IsRight}
use Rattle.sz_script.specs.Words.{name_of_strategy, strategy_named}
use Rattle.sz_script.specs.Drafts.{Draft, has_bad_name, has_bad_cells, has_too_many_cells}
use Rattle.sz_script.specs.Forms.{draft_of}
use Rattle.sz_script.specs.Reading.{json_of, reading}
use Rattle.sz_script.specs.declared.command.Command.{Command}
use Rattle.sz_script.specs.declared.refusal.Refusal.{Refusal}
use Rattle.sz_script.specs.declared.refusal.Refusal.TheVariants as refusal

-- ---- before the fields are looked at

abbrev pub TooLongExactly : Type 0
TooLongExactly = (line : List ℕ) → (reading line ≡ Err refusal.TooLong) ↔ (33554432 < length line)

abbrev pub NoJsonExactly : Type 0
NoJsonExactly = (line : List ℕ)
    → (reading line ≡ Err refusal.NoJson) ↔ ((length line ≤ 33554432) × (json_of line ≡ None))

-- the JSON has the fields of no form, or one of them has another type
abbrev pub NoFormExactly : Type 0
NoFormExactly = (line : List ℕ) → (reading line ≡ Err refusal.NoForm)
    ↔ ((length line ≤ 33554432) × (d : Data) × (json_of line ≡ Some d) × (draft_of d ≡ None))

-- ---- what the fields say

-- a line that is short enough, and JSON of a form, says this
pub record Says (line : List ℕ) (x : Draft) : Type 0 where
  pub short : length line ≤ 33554432
  pub value : Data
  pub json : json_of line ≡ Some value
  pub form : draft_of value ≡ Some x

abbrev pub BadNameExactly : Type 0
BadNameExactly = (line : List ℕ) → (reading line ≡ Err refusal.BadName)
    ↔ ((x : Draft) × Says line x × (has_bad_name x ≡ true))

abbrev pub BadCellsExactly : Type 0
BadCellsExactly = (line : List ℕ) → (reading line ≡ Err refusal.BadCells)
    ↔ ((x : Draft) × Says line x × (has_bad_name x ≡ false) × (has_bad_cells x ≡ true))

abbrev pub TooManyCellsExactly : Type 0
TooManyCellsExactly = (line : List ℕ) → (reading line ≡ Err refusal.TooManyCells)
    ↔ ((x : Draft) × Says line x × (has_bad_name x ≡ false) × (has_bad_cells x ≡ false)
    × (has_too_many_cells x ≡ true))

-- no rule before that of flows holds of what a line says
pub record PassesUpToFlow (x : Draft) : Type 0 where
  pub names : has_bad_name x ≡ false
  pub cells : has_bad_cells x ≡ false
  pub few : has_too_many_cells x ≡ false

abbrev pub BadFlowExactly : Type 0
BadFlowExactly = (line : List ℕ) (fault : FlowFault)
    → (reading line ≡ Err (refusal.BadFlow fault))
    ↔ ((x : Draft) × Says line x × PassesUpToFlow x × (fault_in x.command ≡ Some fault))

-- a line is a command exactly where no rule holds
abbrev pub ReadExactly : Type 0
ReadExactly = (line : List ℕ) (c : Command) → (reading line ≡ Ok c)
    ↔ ((x : Draft) × Says line x × PassesUpToFlow x × (fault_in x.command ≡ None) × (x.command ≡ c))

-- ---- what is read

-- the refusals of lines alone: each other is of what is held
abbrev pub is_of_lines : Refusal → Bool
is_of_lines refusal.TooLong = true
is_of_lines refusal.NoJson = true
is_of_lines refusal.NoForm = true
is_of_lines refusal.BadName = true
is_of_lines refusal.BadCells = true
is_of_lines refusal.TooManyCells = true
is_of_lines (refusal.BadFlow fault) = true
is_of_lines _ = false

abbrev pub NoOtherRefusal : Type 0
NoOtherRefusal = (line : List ℕ) (r : Refusal) → reading line ≡ Err r → is_of_lines r ≡ true

abbrev pub CommandsAreRight : Type 0
CommandsAreRight = (line : List ℕ) (c : Command) → reading line ≡ Ok c → IsRight c

-- the word of a strategy names it
abbrev pub WordsNameTheirStrategies : Type 0
WordsNameTheirStrategies = (s : Strategy) → strategy_named (name_of_strategy s) ≡ Some s
