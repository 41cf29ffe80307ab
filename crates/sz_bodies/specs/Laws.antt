-- What a reader may take for granted of the bodies. Each law is proved of the definitions.
use Rattle.std.specs.Prelude.{◌≡◌, ℕ, List, ◌∷◌, true, Option, All}
use Rattle.sz_spec.specs.Shapes.{Site}
use Rattle.sz_region.specs.LawsStores.{AreRight}
use Rattle.sz_store.specs.Kept.{NodeLineage}
use Rattle.sz_catalogue.specs.Holdings.{Version, Holdings}
use Rattle.sz_bodies.specs.Bodies.{VersionBody, IsBodyOf}
use Rattle.sz_bodies.specs.Fitting.{sites_of, Fit, body_of}
use Rattle.sz_bodies.specs.Lawful.{version_said, IsLawful, CanBeAdded}

-- each shape is that of an array
abbrev pub IsRightSite : Site → Type 0
IsRightSite s = AreRight (s.out ∷ s.ins)

-- Some bytes are, in a format, the body of at most one version with its stores.
abbrev pub OneBodyAtMost : Type 0
OneBodyAtMost = (format : ℕ) (sites : List Site) (bytes : List ℕ) (a b : VersionBody)
    → All IsRightSite sites → IsBodyOf format sites a bytes → IsBodyOf format sites b bytes → a ≡ b

-- The body of a version with stores that fit it is lawful, in its format, wherever the version can
-- be added, and says that version, awaited.
abbrev pub WrittenBodiesAreLawful : Type 0
WrittenBodiesAreLawful = (format : ℕ) (c : Holdings) (n : ℕ) (v : Version)
    (stores : List (Option NodeLineage)) (bytes : List ℕ) → CanBeAdded c n v → Fit v stores
    → IsBodyOf format (sites_of v) (body_of n v stores) bytes
    → IsLawful format c (body_of n v stores) bytes
    × (version_said c (body_of n v stores) ≡ record v { awaited = true })
