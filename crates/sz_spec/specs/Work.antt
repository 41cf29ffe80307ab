-- An operator at work over its inputs.
use Rattle.std.specs.Prelude.{◌≡◌, List}
use Rattle.sz_spec.specs.Values.{Grid, extents_of}
use Rattle.sz_spec.specs.Shapes.{Site, IsSite}
use Rattle.sz_spec.specs.LawsShapes.{AreExtents}

-- an operator at work: its site is right, its inputs have the shapes of the site, and these are
-- within the limits
pub record IsAtWork (s : Site) (inputs : List Grid) : Type 0 where
  pub site : IsSite s
  pub shapes : extents_of inputs ≡ s.ins
  pub right : AreExtents s.ins
