-- The shelf of the tests: the negation of a row of 65 cells, whose output has two pieces, with a
-- store by sets of output cells and one by single input cells.
use Rattle.std.specs.Prelude.{◌≡◌, List, [], ◌∷◌}
use Rattle.sz_cells.specs.Extent.{flat}
use Rattle.sz_spec.specs.declared.op.Op.TheVariants as op
use Rattle.sz_spec.specs.declared.modes.Strategy.{Strategy}
use Rattle.sz_spec.specs.declared.modes.Strategy.TheVariants as strategy
use Rattle.sz_spec.specs.Values.{Grid}
use Rattle.sz_spec.specs.Shapes.{Site}
use Rattle.sz_shelf.specs.Tags.{Tag}

abbrev pub negation : Site
negation = record { op = op.Neg; ins = flat 1 65 ∷ []; out = flat 1 65 }

abbrev pub strategies : List Strategy
strategies = strategy.FullManyB ∷ strategy.Map ∷ strategy.FullOneF ∷ []

-- the tag of the negation of an array
abbrev pub tag_of : Grid → Tag
tag_of g = record { site = negation; inputs = g ∷ []; list = strategies }

-- the operator, its array, and the tag of their shelf
pub record IsBench (s : Site) (g : Grid) (t : Tag) : Type 0 where
  pub site : s ≡ negation
  pub array : g.extent ≡ flat 1 65
  pub tag : t ≡ tag_of g
