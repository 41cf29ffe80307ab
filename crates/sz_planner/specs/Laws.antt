-- What a reader may take for granted of choices. Each law is proved of the definitions.
use Rattle.std.specs.Prelude.{◌≡◌, ℕ, List}
use Rattle.sz_spec.specs.declared.modes.Strategy.{Strategy}
use Rattle.sz_spec.specs.Shapes.{Site}
use Rattle.sz_planner.specs.Choices.{IsBestChoice}
use Rattle.sz_planner.specs.Costs.{list_within}

-- there is a best choice within any limit: the list that is read off from the least costs
abbrev pub ListsAreBestChoices : Type 0
ListsAreBestChoices = (back forward limit : ℕ) (sites : List Site)
    → IsBestChoice back forward limit sites (list_within back forward sites limit)

-- and there is no other
abbrev pub BestChoicesAreOne : Type 0
BestChoicesAreOne = (back forward limit : ℕ) (sites : List Site) (one other : List Strategy)
    → IsBestChoice back forward limit sites one → IsBestChoice back forward limit sites other
    → one ≡ other
