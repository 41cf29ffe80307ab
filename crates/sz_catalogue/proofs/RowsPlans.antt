-- Rows of plans: what a plan is answered, at the edge of each rule and for small flows.
--
-- The key idea: at written-out flows and shapes the list that is read off is a computation, so a table of rows is its
-- own proof. A row is what is held, a command, and the text that it is answered by. Expected texts by hand: a node that
-- cleans 2 by 2 cells costs 16 back by black box, and 1 by full_one_b, whose store of 16 * 4 * 9 bytes takes one unit.
use Rattle.std.proofs.Common.{◌≡◌, List, ℕ, [], ◌∷◌, pos, refl}
use Rattle.std.specs.Prelude.{codes}
use Rattle.std.specs.Fmt.{digits}
use Rattle.sz_cells.specs.Extent.{flat}
use Rattle.sz_spec.specs.declared.op.Op.TheVariants as op
use Rattle.sz_spec.specs.declared.flow.SourceRef.TheVariants.{Input, Node as Output}
use Rattle.sz_spec.specs.Flows.{Graph}
use Rattle.sz_planner.specs.Offers.{offer_of, others, offers_among, offers_of, black_box_of}
use Rattle.sz_planner.specs.Costs.{cheapest, cost_over, least_cost, offer_over, list_within}
use Rattle.sz_script.specs.declared.command.Command.TheVariants as command
use Rattle.sz_catalogue.specs.Holdings.{Holdings}
use Rattle.sz_catalogue.specs.Changes.{after_command}
use Rattle.sz_catalogue.proofs.RowsSaid.{after, AreSaid, grid, base, a, f, held, two_shapes}

-- an array of 2 by 2 cells, a flow of one node that cleans it, and one that cleans that once more
abbrev m : List ℕ
m = codes "m"

abbrev one : Graph
one = record { inputs = 1; nodes = record { op = op.Clean (pos 10); from = Input 0 ∷ [] } ∷ [] }

abbrev two : Graph
two = record {
  inputs = 1;
  nodes =
      record { op = op.Clean (pos 10); from = Input 0 ∷ [] }
      ∷ record { op = op.Clean (pos 10); from = Output 0 ∷ [] } ∷ [];
}

abbrev cleaned : Holdings
cleaned = after held
    (command.Array m (grid (flat 2 2) (1 ∷ 2 ∷ 3 ∷ 40 ∷ [])) ∷ command.Flow (codes "one") one
    ∷ command.Flow (codes "two") two ∷ [])

-- ---- what is planned

planned : AreSaid (
    (cleaned, command.Plan (codes "one") (base m 1 ∷ []) 0 1 0, codes "plan 16 0 blackbox")
    ∷ (cleaned, command.Plan (codes "one") (base m 1 ∷ []) 1 1 0, codes "plan 1 1 full_one_b")
    ∷ (cleaned, command.Plan (codes "one") (base m 1 ∷ []) 1 0 1, codes "plan 1 1 full_one_f")
    -- full_one_f costs the same
    ∷ (cleaned, command.Plan (codes "one") (base m 1 ∷ []) 1 1 1, codes "plan 5 1 full_one_b")
    ∷ (cleaned, command.Plan (codes "two") (base m 1 ∷ []) 1 1 0, codes "plan 17 1 full_one_b blackbox")
    -- 3 asks back and 2 forward, at each of two nodes: 3 and 2 * 4
    ∷ (cleaned, command.Plan (codes "two") (base m 1 ∷ []) 2 3 2, codes "plan 22 2 full_one_b full_one_b")
    -- no ask: each list costs nothing, and the first by number stands
    ∷ (cleaned, command.Plan (codes "two") (base m 1 ∷ []) 9 0 0, codes "plan 0 2 full_one_b full_one_b")
    ∷ (held, command.Plan f (base a 1 ∷ []) 0 1 0, codes "plan 1 0 map")
    -- as many units as may be
    ∷ (cleaned, command.Plan (codes "one") (base m 1 ∷ []) 65536 1 0, codes "plan 1 1 full_one_b")
    ∷ [])
unfolding digits offer_of others offers_among offers_of black_box_of cheapest cost_over least_cost offer_over
    list_within
planned = refl

-- nothing is changed by it
plan-changes_nothing : (after_command cleaned (command.Plan (codes "one") (base m 1 ∷ []) 1 1 1)).0 ≡ cleaned
plan-changes_nothing = refl

-- ---- what is refused

refused : AreSaid (
    (cleaned, command.Plan (codes "one") (base m 1 ∷ []) 65537 1 0, codes "refused 24")
    -- each of the others comes first
    ∷ (cleaned, command.Plan m (base m 1 ∷ []) 65537 1 0, codes "refused 10")
    ∷ (cleaned, command.Plan (codes "one") (base m 2 ∷ []) 65537 1 0, codes "refused 11")
    ∷ (cleaned, command.Plan (codes "one") (base m 1 ∷ base m 1 ∷ []) 65537 1 0, codes "refused 12")
    ∷ (two_shapes, command.Plan f (base a 1 ∷ []) 0 1 0, codes "refused 12")
    ∷ (two_shapes, command.Plan f (base a 1 ∷ base f 1 ∷ []) 65537 1 0, codes "refused 13 0")
    ∷ [])
unfolding digits
refused = refl
