-- What a plan is answered: the best choice of strategies for the nodes of the version that a start
-- would make, what it costs, and the units that its stores take.
use Rattle.std.specs.Prelude.{ℕ, List}
use Rattle.sz_spec.specs.Shapes.{Site}
use Rattle.sz_planner.specs.Choices.{cost_of, units_of}
use Rattle.sz_planner.specs.Costs.{list_within}
use Rattle.sz_catalogue.specs.Holdings.{Version}
use Rattle.sz_catalogue.specs.Sites.{sites_of}
use Rattle.sz_catalogue.specs.Responses.{Response, planned}

-- the list that is planned for operators at their shapes, within so many units and for so many asks
-- in each direction, with its cost and its units
abbrev pub plan_over : List Site → ℕ → ℕ → ℕ → Response
plan_over sites units back forward =
    let list = list_within back forward sites units in
    planned (cost_of back forward sites list) (units_of sites list) list

-- the same for the nodes of a version
abbrev pub plan_for : Version → ℕ → ℕ → ℕ → Response
plan_for v units back forward = plan_over (sites_of v) units back forward
