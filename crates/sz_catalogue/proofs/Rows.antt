-- Worked rows: what commands are answered, on both sides of each rule's edge, and where a later rule holds as well.
--
-- The key idea: on written-out commands every definition is a computation, so a table of rows is its own proof. A row
-- is what is held, a command, and the text that it is answered by. Expected texts by hand.
use Rattle.std.proofs.Common.{◌≡◌, pos, [], ◌∷◌, Some, None, refl}
use Rattle.std.specs.Prelude.{codes}
use Rattle.std.specs.Fmt.{digits}
use Rattle.sz_cells.specs.Extent.{flat, layered}
use Rattle.sz_spec.specs.declared.op.Op.TheVariants as op
use Rattle.sz_spec.specs.declared.flow.SourceRef.TheVariants.{Input, Node as Output}
use Rattle.sz_spec.specs.declared.modes.Dir.TheVariants.{Back, Forward}
use Rattle.sz_spec.specs.declared.modes.Strategy.TheVariants as strategy
use Rattle.sz_spec.specs.Flows.{Graph}
use Rattle.sz_script.specs.declared.command.Command.{Command}
use Rattle.sz_script.specs.declared.command.Command.TheVariants as command
use Rattle.sz_catalogue.specs.Holdings.{Holdings, no_holdings, flow_named, version_numbered}
use Rattle.sz_catalogue.proofs.RowsSaid.{after, AreSaid, grid, step, named, base, five, negation, a, f}
use Rattle.sz_catalogue.proofs.RowsSaid.{hold_five, held, begun, whole, two_shapes, version}

-- ---- the smallest session

-- an ask and a show, which await nothing
abbrev looked_at : Holdings
looked_at = after begun (command.Ask 1 Back (step 0 0 ∷ []) [] ∷ command.Show 1 0 ∷ [])

smallest : AreSaid (
    (no_holdings, hold_five, codes "array a 1")
    ∷ (held, hold_five, codes "array a 2")
    ∷ (no_holdings, command.Flow f negation, codes "flow f")
    ∷ (held, command.Start f (base a 1 ∷ []), codes "started 1")
    ∷ (whole, command.Start f (base a 1 ∷ []), codes "started 2")
    ∷ (begun, command.Await 1, codes "done 1")
    ∷ (whole, command.Await 1, codes "done 1")
    ∷ (whole, command.Ask 1 Back (step 0 0 ∷ []) (named 0 0 0 ∷ []), codes "cells 1 0,0")
    ∷ (begun, command.Ask 1 Back (step 0 0 ∷ []) (named 0 0 0 ∷ []), codes "cells 1 0,0")
    ∷ (whole, command.Show 1 0, codes "values 1 1 -5")
    ∷ (whole, command.Explain 1 Back (step 0 0 ∷ []) [], codes "explain map traced 0")
    ∷ (looked_at, command.Explain 1 Back (step 0 0 ∷ []) [], codes "refused 19")
    ∷ [])
unfolding digits
smallest = refl

-- what is held of the version, and of the flow
started-version : version_numbered begun 1 ≡ Some version
started-version = refl

held-flow : flow_named held f ≡ Some (record { graph = negation; lists = (strategy.Map ∷ []) ∷ [] })
held-flow = refl

-- ---- strategies

-- black box alone, before a start and behind it
abbrev boxed : Holdings
boxed = after held (command.Strategy f 0 (strategy.BlackBox ∷ []) ∷ command.Start f (base a 1 ∷ [])
    ∷ command.Await 1 ∷ [])

abbrev boxed_late : Holdings
boxed_late = after whole (command.Strategy f 0 (strategy.BlackBox ∷ []) ∷ [])

-- a version has the strategies that stood at its start
strategies : AreSaid (
    (held, command.Strategy f 0 (strategy.BlackBox ∷ []), codes "strategy f 0")
    ∷ (boxed, command.Explain 1 Forward (step 0 0 ∷ []) (named 0 0 0 ∷ []), codes "explain blackbox traced 1")
    ∷ (boxed_late, command.Explain 1 Back (step 0 0 ∷ []) (named 0 0 0 ∷ []), codes "explain map traced 0")
    ∷ [])
unfolding digits
strategies = refl

-- ---- refusals

refusals : AreSaid (
    (held, command.Flow f negation, codes "refused 9")
    ∷ (held, command.Strategy a 0 [], codes "refused 10")
    ∷ (held, command.Start a (base f 1 ∷ []), codes "refused 10")
    ∷ (held, command.Start f (base a 2 ∷ []), codes "refused 11")
    ∷ (held, command.Start f (base a 0 ∷ []), codes "refused 11")
    -- a wrong number of base arrays, one of them unknown
    ∷ (held, command.Start f (base a 1 ∷ base f 1 ∷ []), codes "refused 11")
    ∷ (held, command.Start f (base a 1 ∷ base a 1 ∷ []), codes "refused 12")
    ∷ (held, command.Start f [], codes "refused 12")
    -- shapes that fit and that do not
    ∷ (two_shapes, command.Start f (base a 1 ∷ base f 1 ∷ []), codes "refused 13 0")
    ∷ (two_shapes, command.Start f (base f 1 ∷ base f 1 ∷ []), codes "started 1")
    ∷ (held, command.Await 1, codes "refused 15")
    -- a version that is not held, asked along no path
    ∷ (begun, command.Ask 2 Back [] [], codes "refused 15")
    ∷ (begun, command.Ask 1 Back [] [], codes "refused 16")
    -- a node, and an input, that are not there, with a cell out of range
    ∷ (begun, command.Ask 1 Back (step 1 0 ∷ []) (named 0 9 9 ∷ []), codes "refused 16")
    ∷ (begun, command.Ask 1 Forward (step 0 1 ∷ []) [], codes "refused 16")
    ∷ (begun, command.Ask 1 Back (step 0 0 ∷ []) (named 0 0 0 ∷ named 0 0 1 ∷ []), codes "refused 17")
    ∷ (begun, command.Ask 1 Back (step 0 0 ∷ []) (named 1 0 0 ∷ []), codes "refused 17")
    ∷ (begun, command.Ask 1 Back (step 0 0 ∷ []) [], codes "cells 0")
    ∷ (begun, command.Explain 1 Back (step 0 0 ∷ []) [], codes "refused 19")
    ∷ (begun, command.Explain 1 Back (step 0 0 ∷ []) (named 0 1 0 ∷ []), codes "refused 17")
    ∷ (whole, command.Show 1 1, codes "refused 20")
    ∷ (whole, command.Show 0 1, codes "refused 15")
    ∷ [])
unfolding digits
refusals = refl

-- lists of strategies: of a node that is not there, empty, too long, of a repeated one, of one not supported
strategies-refused : AreSaid (
    (held, command.Strategy f 1 (strategy.Map ∷ []), codes "refused 18")
    ∷ (held, command.Strategy f 0 [], codes "refused 18")
    ∷ (
      held,
      command.Strategy f 0 (strategy.Map ∷ strategy.BlackBox ∷ strategy.FullOneB ∷ strategy.FullOneF ∷ []),
      codes "refused 18",
    )
    ∷ (held, command.Strategy f 0 (strategy.FullOneB ∷ strategy.Map ∷ strategy.FullOneB ∷ []), codes "refused 18")
    ∷ (held, command.Strategy f 0 (strategy.PayOne ∷ []), codes "refused 18")
    ∷ (held, command.Strategy f 0 (strategy.BlackBox ∷ strategy.Map ∷ []), codes "strategy f 0")
    -- strategies that keep a store
    ∷ (held, command.Strategy f 0 (strategy.Map ∷ strategy.FullOneB ∷ strategy.FullManyF ∷ []), codes "strategy f 0")
    ∷ [])
unfolding digits
strategies-refused = refl

-- ---- where a later rule holds as well

-- the first of two nodes whose shapes do not fit
abbrev two_sums : Graph
two_sums = record {
  inputs = 2;
  nodes =
      record { op = op.Neg; from = Input 0 ∷ [] }
      ∷ record { op = op.Add; from = Output 0 ∷ Input 1 ∷ [] }
      ∷ record { op = op.Add; from = Input 1 ∷ Input 0 ∷ [] } ∷ [];
}

abbrev unequal : Holdings
unequal = after two_shapes (command.Flow (codes "g") two_sums ∷ [])

first-told : AreSaid (
    -- three base arrays, of which the first two do not fit
    (two_shapes, command.Start f (base a 1 ∷ base f 1 ∷ base a 1 ∷ []), codes "refused 12")
    -- a node that is not there, and a strategy that keeps a store
    ∷ (held, command.Strategy f 1 (strategy.FullOneB ∷ []), codes "refused 18")
    -- one strategy of two that the operator has not
    ∷ (held, command.Strategy f 0 (strategy.CompOne ∷ strategy.FullOneF ∷ []), codes "refused 18")
    ∷ (unequal, command.Start (codes "g") (base a 1 ∷ base f 1 ∷ []), codes "refused 13 1")
    ∷ [])
unfolding digits
first-told = refl

-- ---- names, and what is held under them

-- version 2 of a name is the second that came under it, whatever came between
abbrev between : Holdings
between = after held (command.Array f (grid (flat 1 1) (6 ∷ [])) ∷ command.Array a (grid (flat 1 1) (7 ∷ [])) ∷ [])

abbrev on_second : Holdings
on_second = after between (command.Start f (base a 2 ∷ []) ∷ [])

-- of two versions the second is awaited, and the first is not; each has its own array
abbrev both : Holdings
both = after between (command.Start f (base a 1 ∷ []) ∷ command.Start f (base a 2 ∷ []) ∷ command.Await 2 ∷ [])

-- the strategies of a flow are those of no other
abbrev two_flows : Holdings
two_flows = after held
    (command.Flow (codes "g") negation ∷ command.Strategy (codes "g") 0 (strategy.BlackBox ∷ [])
    ∷ command.Start f (base a 1 ∷ []) ∷ command.Await 1 ∷ [])

names : AreSaid (
    (held, command.Csv a five, codes "array a 2")
    ∷ (held, command.Layers a five, codes "array a 2")
    ∷ (held, command.Array f five, codes "array f 1")
    ∷ (held, command.Flow (codes "ff") negation, codes "flow ff")
    ∷ (held, command.Start (codes "ff") (base a 1 ∷ []), codes "refused 10")
    ∷ (held, command.Start f (base (codes "aa") 1 ∷ []), codes "refused 11")
    ∷ (on_second, command.Show 1 0, codes "values 1 1 -7")
    ∷ (both, command.Show 2 0, codes "values 1 1 -7")
    ∷ (both, command.Show 1 0, codes "values 1 1 -5")
    ∷ (both, command.Explain 2 Back (step 0 0 ∷ []) [], codes "explain map traced 0")
    ∷ (both, command.Explain 1 Back (step 0 0 ∷ []) [], codes "refused 19")
    ∷ (between, command.Start f (base a 3 ∷ []), codes "refused 11")
    ∷ (two_flows, command.Explain 1 Back (step 0 0 ∷ []) [], codes "explain map traced 0")
    ∷ [])
unfolding digits
names = refl

-- ---- which strategies can be chosen

-- a flow of regions
abbrev regions : Command
regions = command.Flow f (record {
  inputs = 1;
  nodes = record { op = op.Regions (pos 1); from = Input 0 ∷ [] } ∷ [];
})

abbrev of_regions : Holdings
of_regions = after no_holdings (regions ∷ [])

abbrev regions_run : Holdings
regions_run = after no_holdings (hold_five ∷ regions ∷ command.Start f (base a 1 ∷ []) ∷ command.Await 1 ∷ [])

chosen : AreSaid (
    (of_regions, command.Strategy f 0 (strategy.Map ∷ []), codes "refused 18")
    ∷ (of_regions, command.Strategy f 0 (strategy.BlackBox ∷ []), codes "strategy f 0")
    ∷ (of_regions, command.Strategy f 0 (strategy.PayOne ∷ strategy.PayMany ∷ []), codes "strategy f 0")
    ∷ (
      of_regions,
      command.Strategy f 0 (strategy.CompOne ∷ strategy.CompMany ∷ strategy.BlackBox ∷ []),
      codes "strategy f 0",
    )
    ∷ (of_regions, command.Strategy f 0 (strategy.FullOneB ∷ strategy.FullManyF ∷ []), codes "strategy f 0")
    -- until some are set, black box is the only one
    ∷ (regions_run, command.Explain 1 Back (step 0 0 ∷ []) [], codes "explain blackbox traced 1")
    -- of an operator with a mapping
    ∷ (
      held,
      command.Strategy f 0 (strategy.FullOneB ∷ strategy.FullOneF ∷ strategy.FullManyB ∷ []),
      codes "strategy f 0",
    )
    ∷ (held, command.Strategy f 0 (strategy.FullManyF ∷ []), codes "strategy f 0")
    ∷ [])
unfolding digits
chosen = refl

-- ---- layers

abbrev layers : Holdings
layers = after no_holdings
    (command.Layers a (record {
      extent = layered 2 1 2;
      values = Some (pos 1) ∷ Some (pos 2) ∷ Some (pos 3) ∷ None ∷ [];
    })
    ∷ command.Flow f negation ∷ command.Start f (base a 1 ∷ []) ∷ [])

in-layers : AreSaid (
    (layers, command.Show 1 0, codes "layers 2 1 2 -1 -2 -3 -")
    ∷ (layers, command.Ask 1 Back (step 0 0 ∷ []) (named 1 0 0 ∷ []), codes "cells 1 1,0,0")
    ∷ (layers, command.Ask 1 Back (step 0 0 ∷ []) (named 0 0 1 ∷ []), codes "cells 1 0,0,1")
    ∷ (layers, command.Ask 1 Back (step 0 0 ∷ []) (named 2 0 0 ∷ []), codes "refused 17")
    ∷ [])
unfolding digits
in-layers = refl
