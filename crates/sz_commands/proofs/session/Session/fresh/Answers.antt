-- Nothing is held, and no run is carried.
use Rattle.std.proofs.lemmas.Result.{IfOk-weaker}
use Rattle.sz_commands.proofs.session.Session.fresh.Goals as goal

pub returns : goal.returns
returns c =
    IfOk-weaker c.holding.result _ _
    (λ s is. rw (c.new-catalogue.ensures, c.new-runs.ensures) at is) c.holding.ensures
