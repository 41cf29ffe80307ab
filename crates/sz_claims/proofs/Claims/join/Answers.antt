-- Key idea: the look after the join tells that the list of the joined pass has no piece twice, so its two parts have
-- none in common.
use Rattle.std.proofs.Common.{◌++◌, subst}
use Rattle.sz_claims.specs.Claims.{AreDisjoint, Claimant}
use Rattle.sz_claims.specs.Rule.{Own, HasNoRepeats}
use Rattle.sz_claims.proofs.Counts.{parts-are-disjoint}
use Rattle.sz_claims.proofs.Claims.join.Goals as goal

pub returns-clause-disjoint : goal.returns-clause-disjoint
returns-clause-disjoint c =
    let into = c.into.inside.seat.me.0 in
    let from = c.from.inside.seat.me.0 in
    let once : HasNoRepeats (into.claimed ++ from.claimed) =
    subst (λ (m : Own). HasNoRepeats m.0.claimed) c.join.ensures.both c.look.ensures.once in
    subst (λ (p : Claimant). AreDisjoint p.claimed c.args.from.claimed) c.into.view_is
    (subst (λ (p : Claimant). AreDisjoint into.claimed p.claimed) c.from.view_is
    (parts-are-disjoint into.claimed from.claimed once))
