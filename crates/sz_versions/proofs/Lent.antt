-- A run that a call was lent, and that is carried again.
--
-- The key idea: what is carried has the same number and the same origin all along, so it is told by its trail.
use Rattle.std.proofs.Common.{◌≡◌, refl, sym, ap, ◌∙◌, subst}
use Rattle.sz_catalogue.specs.Holdings.{Version}
use Rattle.sz_versions.specs.Lending.{IsTrailStill}
use Rattle.sz_versions.specs.Merging.{IsKeptUp}
use Rattle.sz_versions.specs.Residents.{Resident, IsStill, IsTrailBy}
use Rattle.sz_versions.specs.Stores.{Trail}
use Rattle.sz_versions.proofs.MergedNodes.{IsTrailMerged}
use Rattle.sz_versions.proofs.Still.{trail-same}

-- another trail is carried then
abbrev pub with_trail : Resident → Trail → Resident
with_trail r t = record r { trail = t }

pub kept-with : (r m n : Resident) (u : Trail) → m ≡ with_trail r m.trail → n ≡ with_trail m u → n ≡ with_trail r u
kept-with r m n u rest kept = kept ∙ ap (λ (x : Resident). with_trail x u) rest

-- the same one is what it was
pub kept-same : (r m n : Resident) (u : Trail) → m ≡ with_trail r m.trail → n ≡ with_trail m u → u ≡ r.trail → n ≡ r
kept-same r m n u rest kept same = kept-with r m n u rest kept ∙ ap (with_trail r) same

-- and where none was lent, it is so still
pub unlent-still : (r m : Resident) → m ≡ r → IsStill r m
unlent-still r m same =
    subst (IsStill r) (sym same) (record { number = refl; logged = refl; trail = trail-same r.trail })

-- one that is so still leaves it so
pub kept-still : (r m n : Resident) (t u : Trail) → t ≡ r.trail → m ≡ with_trail r m.trail → n ≡ with_trail m u
    → IsTrailStill t u → IsStill r n
kept-still r m n t u is rest kept still =
    subst (IsStill r) (sym (kept-with r m n u rest kept)) (record {
      number = refl;
      logged = refl;
      trail = subst (λ (x : Trail). IsTrailStill x u) is still;
    })

-- and one that is merged
pub kept-merged : (v : Version) (r m n : Resident) (t u : Trail) → t ≡ r.trail → m ≡ with_trail r m.trail
    → n ≡ with_trail m u → IsTrailMerged r.logged v t u → IsKeptUp v r n
kept-merged v r m n t u is rest kept merged =
    let own = subst (λ (x : Trail). IsTrailMerged r.logged v x u) is merged in
    subst (IsKeptUp v r) (sym (kept-with r m n u rest kept))
    (record { number = refl; logged = refl; own = own.own; stores = own.stores })

-- what was carried of a version is a trail of it
pub lent-own : (v : Version) (r : Resident) (t : Trail) → t ≡ r.trail → IsTrailBy r.logged v r.trail
    → IsTrailBy r.logged v t
lent-own v r t is own = subst (IsTrailBy r.logged v) (sym is) own
