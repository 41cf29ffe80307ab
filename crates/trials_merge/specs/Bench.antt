-- The shelf of the tests: the regions of a row of 130 cells, whose output has three pieces, with a
-- store by sets of output cells.
use Rattle.std.specs.Prelude.{◌≡◌, List, [], ◌∷◌, pos}
use Rattle.sz_cells.specs.Extent.{flat}
use Rattle.sz_spec.specs.declared.op.Op.TheVariants as op
use Rattle.sz_spec.specs.declared.modes.Strategy.{Strategy}
use Rattle.sz_spec.specs.declared.modes.Strategy.TheVariants as strategy
use Rattle.sz_spec.specs.Values.{Grid}
use Rattle.sz_spec.specs.Shapes.{Site}
use Rattle.sz_shelf.specs.Tags.{Tag}

abbrev pub labels : Site
labels = record { op = op.Regions (pos 5); ins = flat 1 130 ∷ []; out = flat 1 130 }

abbrev pub strategies : List Strategy
strategies = strategy.FullManyB ∷ []

-- the tag of the regions of an array
abbrev pub tag_of : Grid → Tag
tag_of g = record { site = labels; inputs = g ∷ []; list = strategies }

-- the operator, its array, and the tag of their shelf
pub record IsBench (s : Site) (g : Grid) (t : Tag) : Type 0 where
  pub site : s ≡ labels
  pub array : g.extent ≡ flat 1 130
  pub tag : t ≡ tag_of g
