-- Region pairs that have the images of an output cell: all cells of each input to which it is
-- related. Of the operator `regions` the sets of such pairs are one or apart.
use Rattle.std.specs.Prelude.{◌≡◌, ℤ, List, All}
use Rattle.sz_cells.specs.declared.Cell.{Cell}
use Rattle.sz_spec.specs.declared.op.Op.{Op}
use Rattle.sz_spec.specs.declared.op.Op.TheVariants.{Regions}
use Rattle.sz_spec.specs.Values.{Grid}
use Rattle.sz_spec.specs.Shapes.{Site}
use Rattle.sz_frame.specs.Parts.{Pairing, Parts}
use Rattle.sz_frame.specs.Images.{related_sets}
use Rattle.sz_store.specs.Kept.{Holding, regions, entries}
use Rattle.sz_store.specs.Stocks.{StaysApart}
use Rattle.sz_shelf.specs.Tags.{Tag}
use Rattle.sz_shelf.specs.declared.stored.Stored.{Stored}
use Rattle.sz_shelf.specs.declared.stored.Stored.TheVariants.{Open, Shared, Moved}

-- a region pair has the images of some output cell
abbrev pub HasImages : Site → List Grid → Pairing → Type 0
HasImages s inputs r = (o : Cell) × (r.ins ≡ related_sets s inputs o)

-- each region pair of a store has
abbrev pub HoldsImages : Tag → Holding → Type 0
HoldsImages t (regions rs) = All (HasImages t.site t.inputs) rs
HoldsImages t (entries comp es) = Unit {0}

-- and each of stores that are open
abbrev pub KeepImages : Tag → Stored → Type 0
KeepImages t (Open kept) = All (λ f. HoldsImages t f.holding) kept.stores
KeepImages t (Shared a) = Unit {0}
KeepImages t Moved = Unit {0}

-- the operator is `regions`
abbrev pub IsRegions : Op → Type 0
IsRegions op = (t : ℤ) × (op ≡ Regions t)

-- stores of `regions`, of which while they are open each region pair has the images of a cell
pub record AreRegionImages (t : Tag) (s : Stored) : Type 0 where
  pub op : IsRegions t.site.op
  pub images : KeepImages t s

-- the sets of open stores, and those of a lineage, are one or apart, store by store
abbrev pub StayApart : Parts → Stored → Type 0
StayApart p (Open kept) = All (λ f. StaysApart p f.holding) kept.stores
StayApart p (Shared a) = Unit {0}
StayApart p Moved = Unit {0}
