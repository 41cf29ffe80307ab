-- The log that was opened stands beside the session of what it held.
use Rattle.std.proofs.Common.{List, ℕ, Option, sym, ◌∙◌, subst}
use Rattle.sz_outside.specs.Disk.{Only}
use Rattle.sz_commands.specs.States.{SessionState}
use Rattle.sz_commands.specs.Logged.{HasLog, end_of}
use Rattle.sz_commands.proofs.Logged.{opened-log}
use Rattle.sz_session.proofs.Continuing.{not-failed}
use Rattle.trials_logs.proofs.reopened.opened.Goals as goal

pub returns : goal.returns
returns g c =
    let a = c.sync.new.self in
    let b = c.catalogue_of.new.station in
    let only = not-failed c.sync.result _ (sym c.is_err.ensures.value ∙ c.if-is_err.false) c.sync.ensures.synced in
    let L : Option (List ℕ) → Type 0 = λ o. Only o (g.T.Station.may_leave a) in
    let at = end_of c.in-Ok.recovered in
    let log =
    opened-log g.T.Station _ at c.in-Ok.recovered.catalogue c.in-Ok.recovered.stores.items
    a b c.in-Ok.ensures.made c.catalogue_of.ensures.disk c.catalogue_of.ensures.stops
    (subst L (sym c.sync.ensures.disk) only) in
    subst (λ (s : SessionState). HasLog g.T.Station s.held s.end b) (sym c.in_ok-of_log.ensures.state) log
