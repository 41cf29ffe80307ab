-- When a lineage can be placed: the parts that a list needs fit.
use Rattle.std.specs.Prelude.{◌≡◌, ℕ, ◌<◌, List, All, true}
use Rattle.sz_spec.specs.declared.modes.Mode.TheVariants as mode
use Rattle.sz_spec.specs.declared.modes.Strategy.{Strategy}
use Rattle.sz_spec.specs.Values.{Grid}
use Rattle.sz_spec.specs.Shapes.{Site}
use Rattle.sz_spec.specs.Pieces.{pieces_of}
use Rattle.sz_frame.specs.Parts.{Parts}
use Rattle.sz_frame.specs.Fits.{Measure, FitsFull, FitsPay, FitsComp, needs}
use Rattle.sz_frame.specs.Images.{measure_of}

-- Each part that a list needs fits piece k. What a lineage has beside them is not asked.
pub record FitsAsNeeded (m : Measure) (list : List Strategy) (k : ℕ) (p : Parts) : Type 0 where
  pub full : needs list mode.Full ≡ true → FitsFull m k p.regions
  pub pay : needs list mode.Pay ≡ true → FitsPay m k p.pays
  pub comp : needs list mode.Comp ≡ true → FitsComp m k p.comps

-- each lineage is one of a piece of the output, and each part of it that the list needs fits
abbrev pub AllFitAsNeeded : Site → List Grid → List Strategy → List Parts → Type 0
AllFitAsNeeded s inputs list ps = All
    (λ p. (p.piece < pieces_of s.out) × FitsAsNeeded (measure_of s inputs) list p.piece p) ps
