-- What was placed before the seal is seen after it.
use Rattle.std.proofs.Common.{◌≡◌, ℕ, List, All, true, sym, subst}
use Rattle.sz_shelf.specs.Contents.{is_in}
use Rattle.sz_pool.proofs.Following.{all-seen, since-won}
use Rattle.sz_pool.proofs.working.work.Goals as goal

pub returns-clause-placed : goal.returns-clause-placed
returns-clause-placed g c =
    let tried = c.try_pieces.ensures.tried in
    let after = c.try_pieces.new.task in
    let seen = c.seal.new.pass.seen in
    subst (λ (won : List ℕ). All (λ k. is_in seen k ≡ true) won)
    (sym (since-won c.args.task.now.claim_pass after.claim_pass tried.won tried.claimed))
    (all-seen after.pass.seen seen tried.won c.seal.ensures.turn.begins (tried.placed c.if-try_pieces.false))
