-- Rows of paths and of places: how long a path may be, how it is joined, and the shape that its cells lie in.
--
-- The key idea: a version that is written out may be of any flow, so of one with more nodes than a line can give too,
-- through which a longer path is joined. A row is what is held, a command, and the text that it is answered by.
-- Expected texts by hand.
use Rattle.std.proofs.Common.{◌≡◌, ℕ, ◌-◌, List, [], ◌∷◌, map, refl}
use Rattle.std.specs.Prelude.{codes}
use Rattle.std.specs.List.{range_with_len}
use Rattle.std.specs.Fmt.{digits}
use Rattle.sz_cells.specs.Extent.{flat}
use Rattle.sz_spec.specs.declared.op.Op.TheVariants as op
use Rattle.sz_spec.specs.declared.flow.SourceRef.TheVariants.{Input, Node as Output}
use Rattle.sz_spec.specs.declared.modes.Dir.TheVariants.{Back, Forward}
use Rattle.sz_spec.specs.declared.modes.Strategy.TheVariants as strategy
use Rattle.sz_spec.specs.Flows.{Graph}
use Rattle.sz_spec.specs.Paths.{Step}
use Rattle.sz_script.specs.declared.command.Command.{Command}
use Rattle.sz_script.specs.declared.command.Command.TheVariants as command
use Rattle.sz_catalogue.specs.Holdings.{Version, Holdings, no_holdings}
use Rattle.sz_catalogue.specs.Changes.{way_of, traced}
use Rattle.sz_catalogue.proofs.RowsSaid.{after, AreSaid, grid, step, named, base, a, f, version}

-- ---- how long a path is

-- a negation, and so many more, each of the one before
abbrev chain : ℕ → Graph
chain n = record {
  inputs = 1;
  nodes =
      record { op = op.Neg; from = Input 0 ∷ [] }
      ∷ map (λ k. record { op = op.Neg; from = Output k ∷ [] }) (range_with_len 0 n);
}

-- a version of 33 of them
abbrev chained : Holdings
chained = record no_holdings { versions = (1, record version { flow = chain 32 }) ∷ [] }

-- the last so many nodes of 33, from the last back, and the first so many on
abbrev back : ℕ → List Step
back n = map (λ k. step (32 - k) 0) (range_with_len 0 n)

abbrev on : ℕ → List Step
on n = map (λ k. step k 0) (range_with_len 0 n)

lengths : AreSaid (
    (chained, command.Ask 1 Back (back 0) [], codes "refused 16")
    ∷ (chained, command.Ask 1 Back (back 1) [], codes "cells 0")
    ∷ (chained, command.Ask 1 Back (back 32) [], codes "cells 0")
    ∷ (chained, command.Ask 1 Back (back 33) [], codes "refused 16")
    ∷ (chained, command.Ask 1 Forward (on 0) [], codes "refused 16")
    ∷ (chained, command.Ask 1 Forward (on 32) [], codes "cells 0")
    ∷ (chained, command.Explain 1 Forward (on 33) [], codes "refused 16")
    -- a path that is not joined, with a cell out of range, of a version that is not awaited
    ∷ (chained, command.Explain 1 Back (step 5 0 ∷ step 3 0 ∷ []) (named 0 9 9 ∷ []), codes "refused 16")
    -- joined in the other direction
    ∷ (chained, command.Ask 1 Back (step 4 0 ∷ step 5 0 ∷ []) [], codes "refused 16")
    ∷ (chained, command.Ask 1 Forward (step 5 0 ∷ step 4 0 ∷ []) [], codes "refused 16")
    ∷ [])
unfolding digits
lengths = refl

-- ---- in which shape a path starts, and the cells that are asked

-- one row of two cells transposed, and one of them looked up in a table of three
abbrev turned : Holdings
turned = after no_holdings (
    command.Array a (grid (flat 1 2) (5 ∷ 6 ∷ []))
    ∷ command.Array f (grid (flat 1 3) (7 ∷ 8 ∷ 9 ∷ []))
    ∷ command.Flow f (record {
      inputs = 2;
      nodes =
          record { op = op.Transpose; from = Input 0 ∷ [] }
          ∷ record { op = op.Lookup; from = Output 0 ∷ Input 1 ∷ [] } ∷ [];
    })
    ∷ command.Start f (base a 1 ∷ base f 1 ∷ []) ∷ [])

starts : AreSaid (
    -- the output has two rows, the input two columns
    (turned, command.Ask 1 Back (step 0 0 ∷ []) (named 0 1 0 ∷ []), codes "cells 1 0,1")
    ∷ (turned, command.Ask 1 Back (step 0 0 ∷ []) (named 0 0 1 ∷ []), codes "refused 17")
    ∷ (turned, command.Ask 1 Forward (step 0 0 ∷ []) (named 0 0 1 ∷ []), codes "cells 1 1,0")
    ∷ (turned, command.Ask 1 Forward (step 0 0 ∷ []) (named 0 1 0 ∷ []), codes "refused 17")
    -- the second input is the table
    ∷ (turned, command.Ask 1 Forward (step 1 1 ∷ []) (named 0 0 2 ∷ []), codes "cells 0")
    ∷ (turned, command.Ask 1 Forward (step 1 1 ∷ []) (named 0 0 3 ∷ []), codes "refused 17")
    ∷ (turned, command.Ask 1 Forward (step 1 0 ∷ []) (named 0 0 2 ∷ []), codes "refused 17")
    -- two rows of one column
    ∷ (turned, command.Show 1 0, codes "values 2 1 5 6")
    -- a cell twice is asked once, and cells stand in row-major order
    ∷ (
      turned,
      command.Ask 1 Back (step 0 0 ∷ []) (named 0 1 0 ∷ named 0 0 0 ∷ named 0 1 0 ∷ []),
      codes "cells 2 0,0 0,1",
    )
    -- by two steps, of which the second is the transposition
    ∷ (turned, command.Ask 1 Back (step 1 0 ∷ step 0 0 ∷ []) (named 0 1 0 ∷ []), codes "cells 1 0,1")
    ∷ [])
unfolding digits
starts = refl

-- ---- how an ask is answered

-- along three nodes, from the last back and from the first on
abbrev three_back : List Step
three_back = step 2 0 ∷ step 1 0 ∷ step 0 0 ∷ []

abbrev three_on : List Step
three_on = step 0 0 ∷ step 1 0 ∷ step 2 0 ∷ []

-- the first three cells, of these the first two, and of these the first one; the first node by black box
abbrev narrowing : List Command
narrowing =
    command.Array a (grid (flat 1 4) (5 ∷ 6 ∷ 7 ∷ 8 ∷ []))
    ∷ command.Flow f (record {
      inputs = 1;
      nodes =
          record { op = op.Slice 0 0 1 3; from = Input 0 ∷ [] }
          ∷ record { op = op.Slice 0 0 1 2; from = Output 0 ∷ [] }
          ∷ record { op = op.Slice 0 0 1 1; from = Output 1 ∷ [] } ∷ [];
    })
    ∷ command.Strategy f 0 (strategy.BlackBox ∷ []) ∷ []

-- the last by black box too, and the one between by that or by its mapping
abbrev narrowed : Holdings
narrowed = after (after no_holdings narrowing) (
    command.Strategy f 1 (strategy.BlackBox ∷ strategy.Map ∷ []) ∷ command.Strategy f 2 (strategy.BlackBox ∷ [])
    ∷ command.Start f (base a 1 ∷ []) ∷ command.Start f (base a 1 ∷ []) ∷ command.Await 2 ∷ [])

answers : AreSaid (
    (narrowed, command.Strategy f 2 (strategy.Map ∷ []), codes "strategy f 2")
    -- the sizes of the outputs that are traced are added, and a node with a mapping that may be used is not
    ∷ (narrowed, command.Explain 2 Back three_back [], codes "explain blackbox map blackbox traced 4")
    ∷ (narrowed, command.Explain 1 Back (step 2 0 ∷ []) [], codes "refused 19")
    -- a version that is not held, along a path that is not joined, with a cell out of range
    ∷ (narrowed, command.Explain 3 Back [] (named 0 9 9 ∷ []), codes "refused 15")
    -- a path of two steps starts where its first step does: in an output of one cell, and in an input of four
    ∷ (narrowed, command.Ask 1 Back (step 2 0 ∷ step 1 0 ∷ []) (named 0 0 0 ∷ []), codes "cells 1 0,0")
    ∷ (narrowed, command.Ask 1 Back (step 2 0 ∷ step 1 0 ∷ []) (named 0 0 1 ∷ []), codes "refused 17")
    ∷ (narrowed, command.Ask 1 Forward (step 0 0 ∷ step 1 0 ∷ []) (named 0 0 1 ∷ named 0 0 3 ∷ []), codes "cells 1 0,1")
    ∷ (narrowed, command.Ask 1 Forward (step 0 0 ∷ step 1 0 ∷ []) (named 0 0 4 ∷ []), codes "refused 17")
    ∷ (narrowed, command.Show 1 2, codes "values 1 1 5")
    ∷ (narrowed, command.Show 1 3, codes "refused 20")
    ∷ [])
unfolding digits
answers = refl

-- ---- ways along a path that is another from its other end

-- the same three nodes, the first two by black box and the last by its mapping
abbrev uneven : Holdings
uneven = after (after no_holdings narrowing)
    (command.Strategy f 1 (strategy.BlackBox ∷ []) ∷ command.Start f (base a 1 ∷ []) ∷ command.Await 1 ∷ [])

ways : AreSaid (
    (uneven, command.Explain 1 Back three_back [], codes "explain map blackbox blackbox traced 5")
    ∷ (uneven, command.Explain 1 Forward three_on [], codes "explain blackbox blackbox map traced 5")
    ∷ [])
unfolding digits
ways = refl

-- a version with lists of strategies that keep a store, so that the two directions differ node by node
abbrev stored : Version
stored = record version {
  flow = chain 3;
  lists =
      (strategy.FullManyB ∷ strategy.FullOneB ∷ strategy.FullManyF ∷ [])
      ∷ (strategy.FullManyB ∷ strategy.FullOneB ∷ [])
      ∷ (strategy.CompMany ∷ strategy.PayMany ∷ strategy.CompOne ∷ [])
      ∷ (strategy.BlackBox ∷ strategy.CompOne ∷ strategy.PayOne ∷ []) ∷ [];
}

ways-back : map (way_of stored Back) (step 3 0 ∷ step 2 0 ∷ step 1 0 ∷ step 0 0 ∷ [])
    ≡ strategy.PayOne ∷ strategy.CompOne ∷ strategy.FullOneB ∷ strategy.FullOneB ∷ []
ways-back = refl

ways-on : map (way_of stored Forward) (step 0 0 ∷ step 1 0 ∷ step 2 0 ∷ step 3 0 ∷ [])
    ≡ strategy.FullManyF ∷ strategy.FullOneB ∷ strategy.CompOne ∷ strategy.PayOne ∷ []
ways-on = refl

-- no node of it is traced
traced-stored : traced stored Back (step 3 0 ∷ step 2 0 ∷ step 1 0 ∷ step 0 0 ∷ []) ≡ 0
traced-stored = refl
