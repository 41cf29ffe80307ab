-- The table of refusals: the numbers that are printed of each, the refusal's own first. It stands
-- in the order in which the rules are tested.
use Rattle.std.specs.Prelude.{ℕ, List, [], ◌∷◌, Option, Some, None}
use Rattle.sz_spec.specs.declared.flow.FlowFault.{FlowFault}
use Rattle.sz_spec.specs.declared.flow.FlowFault.TheVariants as fault
use Rattle.sz_script.specs.declared.refusal.Refusal.{Refusal}
use Rattle.sz_script.specs.declared.refusal.Refusal.TheVariants as refusal

-- a flow's fault: its number, and its node and input where it has them
abbrev pub fault_numbers : FlowFault → List ℕ
fault_numbers fault.NoNodes = 1 ∷ []
fault_numbers fault.TooManyNodes = 2 ∷ []
fault_numbers (fault.BadSource node input) = 3 ∷ node ∷ input ∷ []
fault_numbers (fault.WrongArity node) = 4 ∷ node ∷ []
fault_numbers (fault.BadParameter node) = 5 ∷ node ∷ []
fault_numbers fault.TooManyInputs = 6 ∷ []

abbrev pub numbers_of : Refusal → List ℕ
numbers_of refusal.TooLong = 2 ∷ []
numbers_of refusal.NoJson = 1 ∷ []
numbers_of refusal.NoForm = 3 ∷ []
numbers_of refusal.BadName = 4 ∷ []
numbers_of refusal.BadCells = 5 ∷ []
numbers_of refusal.TooManyCells = 6 ∷ []
numbers_of refusal.NoRoomForArray = 7 ∷ []
numbers_of (refusal.BadFlow fault) = 8 ∷ fault_numbers fault
numbers_of refusal.NoRoomForFlow = 9 ∷ []
numbers_of refusal.NoSuchFlow = 10 ∷ []
numbers_of refusal.NoSuchArray = 11 ∷ []
numbers_of refusal.WrongBase = 12 ∷ []
numbers_of (refusal.ShapesDoNotFit node) = 13 ∷ node ∷ []
numbers_of refusal.NoRoomForVersion = 14 ∷ []
numbers_of refusal.NoSuchVersion = 15 ∷ []
numbers_of refusal.NotJoined = 16 ∷ []
numbers_of refusal.OutOfRange = 17 ∷ []
numbers_of refusal.BadStrategies = 18 ∷ []
numbers_of refusal.NotAwaited = 19 ∷ []
numbers_of refusal.NoSuchNode = 20 ∷ []
numbers_of refusal.StillBuilt = 22 ∷ []
numbers_of refusal.NoSuchInput = 23 ∷ []
numbers_of refusal.TooManyUnits = 24 ∷ []
numbers_of refusal.NotMerged = 25 ∷ []

-- a number that is there, before others
abbrev pub before : Option ℕ → List ℕ → List ℕ
before None numbers = numbers
before (Some n) numbers = n ∷ numbers
