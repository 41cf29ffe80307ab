-- What is right of a command in itself: its names, and its flow.
use Rattle.std.specs.Prelude.{◌≡◌, ℕ, List, [], ◌∷◌, map, Bool, true, ◌&&◌, Option, None, is_none}
use Rattle.std.specs.List.{list_all}
use Rattle.sz_spec.specs.declared.flow.FlowFault.{FlowFault}
use Rattle.sz_spec.specs.Flows.{flow_fault}
use Rattle.sz_script.specs.Names.{is_name}
use Rattle.sz_script.specs.declared.command.Command.{Command}
use Rattle.sz_script.specs.declared.command.Command.TheVariants as command

-- the names of a command, those of base arrays too
abbrev pub names_in : Command → List (List ℕ)
names_in (command.Array name array) = name ∷ []
names_in (command.Csv name array) = name ∷ []
names_in (command.Layers name array) = name ∷ []
names_in (command.Flow name flow) = name ∷ []
names_in (command.Strategy name node list) = name ∷ []
names_in (command.Start name base) = name ∷ map (λ b. b.name) base
names_in (command.Plan name base units back forward) = name ∷ map (λ b. b.name) base
names_in _ = []

-- the fault of its flow, where it has one
abbrev pub fault_in : Command → Option FlowFault
fault_in (command.Flow name flow) = flow_fault flow
fault_in _ = None

-- a right command: each of its names is one, and its flow is well formed
abbrev pub is_right : Command → Bool
is_right c = list_all is_name (names_in c) && is_none (fault_in c)

abbrev pub IsRight : Command → Type 0
IsRight c = is_right c ≡ true
