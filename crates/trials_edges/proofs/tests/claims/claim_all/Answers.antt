-- Key idea: one claim more puts its piece into one list, by the clauses of `claim`, whichever way it ended.
use Rattle.std.proofs.Common.{rules, ℕ, List, length, ap, arith}
use Rattle.std.proofs.lemmas.List.{length_push}
use Rattle.sz_claims.specs.Claims.{Claimant}
use Rattle.sz_claims.proofs.Reach.{reach-next}
use Rattle.trials_edges.proofs.tests.claims.claim_all.Goals as goal
use Rattle.trials_edges.proofs.tests.claims.claim_all.Goals.{then-claim, else-claim}

pub loop-piece-preserved : goal.loop-piece-preserved
loop-piece-preserved c =
    let each = c.claim.ensures in
    let claimed : Claimant → List ℕ = λ p. p.claimed in
    let met : Claimant → List ℕ = λ p. p.met in
    let every = reach-next _ _ _ _ _ c.loop-piece.invariant.every c.claim.result
    (λ e. ap claimed (each.won e)) (λ e. ap met (each.won e))
    (λ e. ap claimed (each.lost e)) (λ e. ap met (each.lost e)) in
    let before = c.loop-piece.invariant in
    elim c.if-claim.branch [
      | then-claim w ↦ record {
        own = search rules;
        same = search rules;
        won =
            let more = ap (λ (p : Claimant). length p.claimed) (each.won w.if-claim.true) in
            omega (arith, before.won, w.won-is, more, length_push c.loop-piece.pass.claimed c.loop-piece.piece);
        some = omega (arith, c.loop-piece.invariant.some, w.won-is);
        every = every;
      }
      | else-claim w ↦ record {
        own = search rules;
        same = search rules;
        won = let same = ap (λ (p : Claimant). length p.claimed) (each.lost w.if-claim.false) in
            omega (arith, before.won, w.won-is, same);
        some = omega (arith, c.loop-piece.invariant.some, w.won-is);
        every = every;
      }
    ]

pub returns-clause-every : goal.returns-clause-every
returns-clause-every c = λ piece below.
    c.loop-piece.invariant.every piece (omega (arith, below, c.loop-piece-test.false))
