-- What is held is in order, so it is sound; and what is carried is what was read.
use Rattle.std.proofs.Common.{sym, ap, subst}
use Rattle.std.proofs.lemmas.Result.{IfOk-weaker}
use Rattle.sz_versions.proofs.Asked.{asked-none}
use Rattle.sz_versions.proofs.Stays.{order-sound}
use Rattle.sz_commands.specs.States.{SessionState}
use Rattle.sz_commands.specs.Carrying.{AreGiven}
use Rattle.sz_commands.proofs.Carrying.{all-given}
use Rattle.sz_commands.proofs.session.Session.of_log.Goals as goal

pub holding-requires-clause-service : goal.holding-requires-clause-service
holding-requires-clause-service c = record {
  sound = order-sound c.args.recovered.catalogue c.is_in_order.ensures;
  residents = c.in_ok-runs.ensures.own;
  asked = asked-none c.args.recovered.catalogue c.args.recovered.entries.unasked;
}

pub returns-clause-state : goal.returns-clause-state
returns-clause-state c =
    IfOk-weaker c.holding.result _ _
    (λ s is.
    let logged = c.in_ok-runs.ensures.logged in
    let stored = ap (λ (x : SessionState). x.stored) is in
    cc) c.holding.ensures

pub returns-clause-given : goal.returns-clause-given
returns-clause-given c =
    IfOk-weaker c.holding.result _ _
    (λ s is. subst (λ (x : SessionState). AreGiven x.stored) (sym is)
    (all-given c.args.recovered.catalogue c.in_ok-runs.runs c.in_ok-runs.ensures.own.each c.in_ok-runs.ensures.each))
    c.holding.ensures
