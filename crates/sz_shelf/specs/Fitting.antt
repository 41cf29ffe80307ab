-- When a lineage can be placed on a shelf: the parts that the shelf's list needs fit (`Needed` of
-- sz_store).
use Rattle.std.specs.Prelude.{ℕ, List}
use Rattle.sz_spec.specs.declared.modes.Strategy.{Strategy}
use Rattle.sz_spec.specs.Values.{Grid}
use Rattle.sz_spec.specs.Shapes.{Site}
use Rattle.sz_frame.specs.Parts.{Parts}
use Rattle.sz_frame.specs.Fits.{Measure, Fits}
use Rattle.sz_frame.specs.Images.{measure_of}
use Rattle.sz_store.specs.Kept.{AreParts}
use Rattle.sz_store.specs.Needed.{FitsAsNeeded}

-- A lineage that fits does so as needed.
abbrev pub FittingLineagesFitAsNeeded : Type 0
FittingLineagesFitAsNeeded = (m : Measure) (list : List Strategy) (k : ℕ) (p : Parts)
    → Fits m list k p → FitsAsNeeded m list k p

-- One that fits as needed has the parts that a store asks for.
abbrev pub NeededPartsCanBePlaced : Type 0
NeededPartsCanBePlaced = (s : Site) (inputs : List Grid) (list : List Strategy) (p : Parts)
    → FitsAsNeeded (measure_of s inputs) list p.piece p → AreParts s list p
