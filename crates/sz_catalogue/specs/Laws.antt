-- What a reader may take for granted of judging and of what is held. Each law is proved of the
-- definitions.
use Rattle.std.specs.Prelude.{◌≡◌, List, ◌∷◌, ◌++◌, Bool, true, not, ◌↔◌, Some, None, Ok}
use Rattle.std.specs.Prelude.{ℕ, ◌<◌, ◌^◌}
use Rattle.std.specs.Fmt.{decimal}
use Rattle.std.specs.Str.Parse.{IsNumeral, digits_value}
use Rattle.std.specs.List.{list_any}
use Rattle.sz_cells.specs.Extent.{Extent}
use Rattle.sz_spec.specs.declared.modes.Dir.{Dir}
use Rattle.sz_spec.specs.FlowShapes.{output_shapes}
use Rattle.sz_spec.specs.Paths.{Step, start_extent}
use Rattle.sz_script.specs.declared.command.Command.{Command}
use Rattle.sz_script.specs.declared.refusal.Refusal.{Refusal}
use Rattle.sz_catalogue.specs.Holdings.{Version, Holdings, version_numbered, next_number}
use Rattle.sz_catalogue.specs.Holdings.{arrays_of, shapes_of}
use Rattle.sz_catalogue.specs.Starts.{step_start}
use Rattle.sz_catalogue.specs.Rules.{rules_of, judged}
use Rattle.sz_catalogue.specs.Responses.{refused}
use Rattle.sz_catalogue.specs.Changes.{after_command, accepted, outputs}

-- no rule of these holds
abbrev pub none_holds : List (Bool × Refusal) → Bool
none_holds rules = not (list_any (λ (r : Bool × Refusal). r.0) rules)

-- a refused command changes nothing, and its reply is the refusal
abbrev pub RefusedCommandsChangeNothing : Type 0
RefusedCommandsChangeNothing = (c : Holdings) (command : Command) (rule : Refusal)
    → judged c command ≡ Some rule → after_command c command ≡ (c, refused rule)

-- a command that no rule refuses changes and replies what it is to
abbrev pub OtherCommandsAreTaken : Type 0
OtherCommandsAreTaken = (c : Holdings) (command : Command)
    → judged c command ≡ None → after_command c command ≡ accepted c command

-- a command is refused by a rule exactly where that rule holds and none before it does
abbrev pub RefusalsAreTheFirst : Type 0
RefusalsAreTheFirst = (c : Holdings) (command : Command) (rule : Refusal)
    → judged c command ≡ Some rule
    → (before : List (Bool × Refusal)) × (after : List (Bool × Refusal))
    × (rules_of c command ≡ before ++ (true, rule) ∷ after) × (none_holds before ≡ true)

abbrev pub FirstRulesRefuse : Type 0
FirstRulesRefuse = (c : Holdings) (command : Command) (rule : Refusal)
    (before after : List (Bool × Refusal))
    → rules_of c command ≡ before ++ (true, rule) ∷ after
    → none_holds before ≡ true → judged c command ≡ Some rule

-- a command is taken exactly where none of its rules holds
abbrev pub TakenCommandsBreakNoRule : Type 0
TakenCommandsBreakNoRule = (c : Holdings) (command : Command)
    → (judged c command ≡ None) ↔ (none_holds (rules_of c command) ≡ true)

-- the number of the version that is started next is not held
abbrev pub NextNumbersAreNew : Type 0
NextNumbersAreNew = (c : Holdings) → version_numbered c (next_number c) ≡ None

-- the numbers of a reply, in decimal, read back
abbrev pub NumbersReadBack : Type 0
NumbersReadBack = (n : ℕ) → n < 2 ^ 64
    → IsNumeral 10 (decimal n) × (digits_value 10 (decimal n) ≡ n)

-- where the shapes of a version fit, a path starts in the shape that it has over the evaluations
abbrev pub PathsStartInTheirArrays : Type 0
PathsStartInTheirArrays = (dir : Dir) (v : Version) (s : Step) (shapes : List Extent)
    → output_shapes v.flow (shapes_of v.base) ≡ Ok shapes
    → step_start dir v s ≡ start_extent dir v.flow (arrays_of v.base) (outputs v) s
