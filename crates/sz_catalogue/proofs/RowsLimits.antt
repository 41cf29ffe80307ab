-- Rows of the limits on what is held: on both sides of each of them, by catalogues that are written out.
--
-- The key idea: a catalogue is its lists, so one with thousands of things is written as such a list, and no command has
-- to be followed through. A row is what is held, a command, and the text that it is answered by. Expected texts by
-- hand.
use Rattle.std.proofs.Common.{ℕ, ◌+◌, List, [], ◌∷◌, map, refl}
use Rattle.std.specs.Prelude.{codes}
use Rattle.std.specs.List.{range_with_len}
use Rattle.std.specs.Fmt.{digits}
use Rattle.sz_cells.specs.Extent.{Extent, flat, layered}
use Rattle.sz_spec.specs.declared.op.Op.TheVariants as op
use Rattle.sz_spec.specs.declared.flow.SourceRef.TheVariants.{Input}
use Rattle.sz_spec.specs.declared.modes.Strategy.TheVariants as strategy
use Rattle.sz_spec.specs.Flows.{Graph}
use Rattle.sz_planner.specs.Offers.{offer_of, others, offers_among, offers_of, black_box_of}
use Rattle.sz_planner.specs.Costs.{cheapest, cost_over, least_cost, offer_over, list_within}
use Rattle.sz_script.specs.declared.command.Command.{Command}
use Rattle.sz_script.specs.declared.command.Command.TheVariants as command
use Rattle.sz_catalogue.specs.Holdings.{Holdings, no_holdings}
use Rattle.sz_catalogue.proofs.RowsSaid.{after, AreSaid, base, five, negation, a, f, hold_five}
use Rattle.sz_catalogue.proofs.RowsSaid.{two_shapes, version}

-- ---- how many things are held, and the greatest number

-- so many arrays, the others than the last of which are named `f`
abbrev arrays : ℕ → Holdings
arrays n = record no_holdings {
  arrays = map (λ k. record { name = f; thing = five }) (range_with_len 0 n);
}

-- so many flows, each named by one number
abbrev flows : ℕ → Holdings
flows n = record no_holdings {
  flows =
      map (λ k. (k ∷ [], record { graph = negation; lists = (strategy.Map ∷ []) ∷ [] })) (range_with_len 0 n);
}

-- so many versions, from 1
abbrev versions : ℕ → Holdings
versions n = record two_shapes {
  versions = map (λ k. (k + 1, version)) (range_with_len 0 n);
}

-- one version, of this number
abbrev numbered : ℕ → Holdings
numbered n = record two_shapes { versions = (n, version) ∷ [] }

counts : AreSaid (
    (arrays 4095, hold_five, codes "array a 1")
    ∷ (arrays 4096, hold_five, codes "refused 7")
    ∷ (arrays 4095, command.Layers f five, codes "array f 4096")
    ∷ (arrays 4096, command.Layers a five, codes "refused 7")
    ∷ (flows 1023, command.Flow (codes "ff") negation, codes "flow ff")
    ∷ (flows 1024, command.Flow (codes "ff") negation, codes "refused 9")
    ∷ (versions 4095, command.Start f (base a 1 ∷ base a 1 ∷ []), codes "started 4096")
    ∷ (versions 4096, command.Start f (base a 1 ∷ base a 1 ∷ []), codes "refused 14")
    -- as many versions as may be, and shapes that do not fit
    ∷ (versions 4096, command.Start f (base a 1 ∷ base f 1 ∷ []), codes "refused 13 0")
    -- the greatest number that a version may have
    ∷ (numbered 7, command.Start f (base a 1 ∷ base a 1 ∷ []), codes "started 8")
    ∷ (numbered 4294967294, command.Start f (base a 1 ∷ base a 1 ∷ []), codes "started 4294967295")
    ∷ (numbered 4294967295, command.Start f (base a 1 ∷ base a 1 ∷ []), codes "refused 14")
    ∷ (numbered 4294967295, command.Start f (base a 1 ∷ base f 1 ∷ []), codes "refused 13 0")
    ∷ [])
unfolding digits
counts = refl

-- a plan holds nothing, so it is not refused there
plan-4097 : AreSaid ((versions 4096, command.Plan f (base a 1 ∷ base a 1 ∷ []) 0 1 2, codes "plan 6 0 map") ∷ [])
unfolding digits offer_of others offers_among offers_of black_box_of cheapest cost_over least_cost offer_over
    list_within
plan-4097 = refl

-- ---- cells

-- three of the largest arrays and one that is a row smaller: with 1,024 cells more it is as many as may be
abbrev shaped : List ℕ → Extent → Command
shaped name e = command.Array name (record { extent = e; values = [] })

-- the first so many columns of one row
abbrev first_cols : ℕ → Graph
first_cols w = record { inputs = 1; nodes = record { op = op.Slice 0 0 1 w; from = Input 0 ∷ [] } ∷ [] }

abbrev full : Holdings
full = after no_holdings (
    shaped a (flat 1024 1024) ∷ shaped a (flat 1024 1024) ∷ shaped a (flat 1024 1024) ∷ shaped a (flat 1023 1024)
    ∷ command.Flow f (first_cols 511) ∷ command.Flow (codes "g") (first_cols 512) ∷ [])

-- an array of 513 cells more
abbrev nearly : Holdings
nearly = after full (shaped f (flat 1 513) ∷ [])

-- 512 cells and 511 are held behind the others
abbrev fuller : Holdings
fuller = after full (shaped f (flat 1 512) ∷ command.Start f (base f 1 ∷ []) ∷ [])

cells : AreSaid (
    (full, shaped f (flat 1 1024), codes "array f 1")
    ∷ (full, shaped f (flat 1 1025), codes "refused 7")
    ∷ (full, command.Layers a (record { extent = layered 16 1 64; values = [] }), codes "array a 5")
    ∷ (full, command.Layers a (record { extent = layered 5 5 41; values = [] }), codes "refused 7")
    -- an output of 511 cells and of 512
    ∷ (nearly, command.Start f (base f 1 ∷ []), codes "started 1")
    ∷ (nearly, command.Start (codes "g") (base f 1 ∷ []), codes "refused 14")
    -- outputs are counted for an array too, and for the next version
    ∷ (fuller, shaped a (flat 1 1), codes "array a 5")
    ∷ (fuller, shaped a (flat 1 2), codes "refused 7")
    ∷ (fuller, command.Start f (base f 1 ∷ []), codes "refused 14")
    ∷ [])
unfolding digits
cells = refl
