-- The place is one in the list.
use Rattle.std.proofs.Common.{◌≡◌, ◌<◌, List, length, ◌∙◌, subst, None}
use Rattle.std.specs.Prelude.{IfSome, IfNone, find}
use Rattle.sz_versions.specs.Residents.{Resident}
use Rattle.sz_versions.proofs.Residents.{has_number}
use Rattle.sz_versions.proofs.Service.{IsPlaceOf}
use Rattle.sz_versions.proofs.held.HeldRuns.place_of.Goals as goal

pub returns : goal.returns
returns c =
    let n = c.args.version in
    let found = c.place_among.result in
    let same = c.deref.ensures.value ∙ c.self.view_is in
    record {
      some = subst (λ (rs : List Resident). IfSome found (λ i. IsPlaceOf n rs i)) same c.place_among.ensures.some;
      within = subst (λ (rs : List Resident). IfSome found (λ i. i < length rs)) same c.place_among.ensures.within;
      none = subst (λ (rs : List Resident). IfNone found (find (has_number n) rs ≡ None)) same
          c.place_among.ensures.none;
    }
