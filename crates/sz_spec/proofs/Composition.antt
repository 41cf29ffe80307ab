-- What follows of the composition of lineage along paths: it goes down the path step by step, so a path of two
-- parts falls apart by induction on the first.
use Rattle.std.proofs.Common.{[], ◌∷◌, refl}
use Rattle.sz_spec.specs.Paths.{image}
use Rattle.sz_spec.specs.LawsImages.{PathsComposeByTheirParts}

-- a path of two parts
pub compose-append : PathsComposeByTheirParts
compose-append dir flow base outputs [] more set = refl
compose-append dir flow base outputs (s ∷ path) more set =
    compose-append dir flow base outputs path more (image dir flow base outputs s set)
