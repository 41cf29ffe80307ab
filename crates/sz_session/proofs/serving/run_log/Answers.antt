-- To put the disk where a stop leaves it and to read it changes nothing of it.
use Rattle.std.proofs.Common.{ℕ, List, Option, sym, ◌∙◌, subst, inr}
use Rattle.sz_outside.specs.Disk.{Only, Same, Said}
use Rattle.sz_recover.specs.Logs.{IsMade}
use Rattle.sz_commands.specs.Logged.{end_of}
use Rattle.sz_commands.specs.Stops.{StopsFinding}
use Rattle.sz_feed.proofs.Disks.{stops-both}
use Rattle.sz_commands.proofs.Logged.{opened-log}
use Rattle.std.proofs.Common.{refl}
use Rattle.sz_session.proofs.Ends.{counted-behind}
use Rattle.sz_session.proofs.Continuing.{opened, not-failed, not-failed-counted}
use Rattle.sz_session.proofs.serving.run_log.Goals as goal

pub run_on-requires-clause-log : goal.run_on-requires-clause-log
run_on-requires-clause-log g c κs within =
    let a = c.sync.new.self in
    let b = c.catalogue_of.new.station in
    let only = not-failed c.sync.result _ (sym c.is_err.ensures.value ∙ c.if-is_err.false) c.sync.ensures.synced in
    let L : Option (List ℕ) → Type 0 = λ o. Only o (g.T.Station.may_leave a) in
    let at = end_of c.in-Ok.recovered in
    opened-log g.T.Station _ at c.in-Ok.recovered.catalogue c.in-Ok.recovered.stores.items a b
    c.in-Ok.ensures.made c.catalogue_of.ensures.disk c.catalogue_of.ensures.stops
    (subst L (sym c.sync.ensures.disk) only)

pub returns-in-Ok-clause-ends : goal.returns-in-Ok-clause-ends
returns-in-Ok-clause-ends g c =
    let a = c.args.station.now in
    let mid = c.sync.new.self in
    let b = c.catalogue_of.new.station in
    let x = c.run_on.new.station in
    let at = end_of c.in-Ok.recovered in
    let held = c.in-Ok.recovered.catalogue in
    let kept = c.in-Ok.recovered.stores.items in
    let only = not-failed c.sync.result _ (sym c.is_err.ensures.value ∙ c.if-is_err.false) c.sync.ensures.synced in
    let L : Option (List ℕ) → Type 0 = λ o. Only o (g.T.Station.may_leave mid) in
    let log = opened-log g.T.Station _ at held kept mid b c.in-Ok.ensures.made c.catalogue_of.ensures.disk
    c.catalogue_of.ensures.stops (subst L (sym c.sync.ensures.disk) only) in
    let S : Option (List ℕ) → Type 0 = λ o. StopsFinding g.T.Station Same (Said o) mid b in
    let stops = stops-both g.T.Station (Said (g.T.Station.said a)) a mid b c.sync.ensures.disk c.sync.ensures.stops
    (subst S c.sync.ensures.output.0 c.catalogue_of.ensures.stops) in
    let M : Option (List ℕ) → Type 0 = λ o. IsMade o at.gate at.format held kept in
    inr (opened g.T.Station c.run_on.result c.args.limit at held kept (g.S.Source.left c.args.source.now)
    (g.S.Source.left c.run_on.new.source) a b x (c.catalogue_of.ensures.disk ∙ c.sync.ensures.disk)
    (c.catalogue_of.ensures.output.0 ∙ c.sync.ensures.output.0) stops (subst M c.sync.ensures.disk c.in-Ok.ensures.made)
    log c.run_on.ensures.ends c.run_on.ensures.behind c.run_on.ensures.found)

-- nor does it count a fault
pub returns-in-Ok-clause-counted : goal.returns-in-Ok-clause-counted
returns-in-Ok-clause-counted g c =
    let a = c.args.station.now in
    let b = c.catalogue_of.new.station in
    let reads = g.S.Source.faults c.args.source.now in
    counted-behind g.T.Station c.run_on.result reads reads (g.S.Source.faults c.run_on.new.source) a b
    c.run_on.new.station (
      refl,
      c.catalogue_of.ensures.output.1 ∙ c.sync.ensures.output.1,
      c.in-Ok.ensures.counted
          ∙ not-failed-counted c.sync.result _ _ (sym c.is_err.ensures.value ∙ c.if-is_err.false)
          c.sync.ensures.counted,
    )
    c.run_on.ensures.counted
