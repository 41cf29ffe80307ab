-- The two machines of the rows: regions of a small image, and two nodes with two pieces each, which
-- is that of the test too.
use Rattle.std.specs.Prelude.{ℕ, pos, List, [], ◌∷◌}
use Rattle.sz_spec.specs.declared.flow.SourceRef.TheVariants as source
use Rattle.sz_spec.specs.declared.op.Op.TheVariants.{Regions, Neg, Add}
use Rattle.sz_spec.specs.Flows.{Graph}
use Rattle.sz_core.specs.declared.pairs.Pair.{Pair}

abbrev pub pair : ℕ → ℕ → ℕ → Pair
pair out input cell = record { out = out; input = input; cell = cell }

-- the regions of at least 5 of the rows 9 9 0, 0 9 0 and 9 0 0: the cells of indexes 0, 1 and 4 are
-- one region
abbrev pub region_flow : Graph
region_flow = record {
  inputs = 1;
  nodes =
      record { op = Regions (pos 5); from = source.Input 0 ∷ [] } ∷ [];
}

abbrev pub region_pairs : List (List Pair)
region_pairs = (pair 0 0 0 ∷ pair 0 0 1 ∷ pair 0 0 4 ∷ pair 1 0 0 ∷ pair 1 0 1 ∷ pair 1 0 4 ∷ pair 2
    0 2 ∷ pair 3 0 3
    ∷ pair 4 0 0 ∷ pair 4 0 1 ∷ pair 4 0 4 ∷ pair 5 0 5 ∷ pair 6 0 6 ∷ pair 7 0 7 ∷ pair 8 0 8 ∷ [])
    ∷ []

-- a node, and one that adds its output and the base array, each with some pairs in two pieces of a
-- row of 70 cells
abbrev pub sum_flow : Graph
sum_flow = record {
  inputs = 1;
  nodes = record { op = Neg; from = source.Input 0 ∷ [] } ∷ record {
    op = Add;
    from =
        source.Node 0 ∷ source.Input 0 ∷ [];
  } ∷ [];
}

abbrev pub first_pairs : List (List Pair)
first_pairs = (pair 3 0 65 ∷ pair 3 0 1 ∷ []) ∷ (pair 64 0 2 ∷ []) ∷ []

abbrev pub second_pairs : List (List Pair)
second_pairs = (pair 7 0 3 ∷ pair 7 1 9 ∷ []) ∷ (pair 69 0 64 ∷ pair 69 0 3 ∷ []) ∷ []
