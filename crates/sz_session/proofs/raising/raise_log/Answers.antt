-- To put the disk where a stop leaves it and to open the log changes no image, and neither does its line.
use Rattle.std.proofs.Common.{List, ℕ, sym, ◌∙◌, subst}
use Rattle.sz_outside.specs.Disk.{Said}
use Rattle.sz_commands.specs.Stops.{StopsFinding}
use Rattle.sz_feed.specs.Disks.{OnlySays}
use Rattle.sz_feed.proofs.Disks.{stays-said}
use Rattle.sz_session.specs.Raising.{HasRaised, RaisesOrStays, StopsRaising}
use Rattle.sz_session.proofs.Continuing.{not-failed}
use Rattle.sz_session.proofs.Raisings.{raised-opened, opened-raises, raise-stops, raised-stops}
use Rattle.sz_session.proofs.raising.raise_log.Given.{Over}
use Rattle.sz_session.proofs.raising.raise_log.Goals.{After-raise, After-say}
use Rattle.sz_session.proofs.raising.raise_log.Goals as goal

-- what a stop leaves before the line is said, of a log that was raised or not
left : (g : Over) (c : After-raise g) → StopsFinding g.T.Station RaisesOrStays
    (Said (g.T.Station.said c.args.station.now)) c.args.station.now c.raise.new.station
left g c =
    let m = c.sync.new.self in
    let x = c.raise.new.station in
    opened-raises g.T.Station c.args.station.now m x c.sync.ensures.disk c.sync.ensures.output.0 c.sync.ensures.stops
    (opened-raises g.T.Station m c.catalogue_of.new.station x c.catalogue_of.ensures.disk
    c.catalogue_of.ensures.output.0 c.catalogue_of.ensures.stops c.raise.ensures.stops)

pub returns-then-is_err-2-clause-stops : goal.returns-then-is_err-2-clause-stops
returns-then-is_err-2-clause-stops g c =
    raise-stops g.T.Station c.args.station.now c.raise.new.station
    (left g (goal.at.returns-then-is_err-2-clause-stops g c).After-raise)

-- so much is found whether its line was said or not
said : (g : Over) (c : After-say g) → StopsFinding g.T.Station RaisesOrStays
    (Said (g.T.Station.said c.args.station.now)) c.args.station.now c.raise.new.station
    → StopsRaising g.T.Station c.args.station.now c.say.new.self
said g c first =
    let a = c.args.station.now in
    let b = c.catalogue_of.new.station in
    let x = c.raise.new.station in
    let y = c.say.new.self in
    let raised : HasRaised g.T.Station b x =
    not-failed c.raise.result _ (sym c.is_err-2.ensures.value ∙ c.if-is_err-2.false) c.raise.ensures.raised in
    let says : OnlySays g.T.Station c.raised_line.result.now x y =
    stays-said g.T.Station c.raised_line.result.now x y c.say.ensures.disk c.say.ensures.stops in
    raised-stops g.T.Station a x y
    (raised-opened g.T.Station a b x (c.catalogue_of.ensures.disk ∙ c.sync.ensures.disk) raised)
    (c.raise.ensures.output.0 ∙ c.catalogue_of.ensures.output.0 ∙ c.sync.ensures.output.0) first
    (subst (λ (bytes : List ℕ). OnlySays g.T.Station bytes x y) c.raised_line.ensures says)

pub returns-in-Ok-say-clause-stops : goal.returns-in-Ok-say-clause-stops
returns-in-Ok-say-clause-stops g c =
    let here = goal.at.returns-in-Ok-say-clause-stops g c in said g here.After-say (left g here.After-raise)

pub returns-clause-stops : goal.returns-clause-stops
returns-clause-stops g c =
    let here = goal.at.returns-clause-stops g c in said g here.After-say (left g here.After-raise)
