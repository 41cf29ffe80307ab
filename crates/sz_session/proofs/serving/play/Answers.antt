-- The session opens with nothing read and nothing said.
use Rattle.std.proofs.Common.{◌≡◌, [], refl, subst, sym, ap, ◌∙◌}
use Rattle.sz_feed.specs.Moments.{Moment}
use Rattle.sz_feed.specs.Serving.{Answered}
use Rattle.sz_commands.specs.States.{nothing_held}
use Rattle.sz_session.specs.Sessions.{opening_of}
use Rattle.sz_session.proofs.Ends.{asks, plain-ends, of-stays}
use Rattle.sz_feed.proofs.Told.{answered-start, none-in_lines}
use Rattle.sz_feed.proofs.Disks.{stays-still, start-stays}
use Rattle.sz_feed.specs.Running.{IsBeside}
use Rattle.sz_session.proofs.serving.play.Goals as goal

pub answer_all-status-requires : goal.answer_all-status-requires
answer_all-status-requires g c =
    let left = g.S.Source.left c.args.source.now in
    let said = g.T.Station.said c.args.station.now in
    let P : Moment → Type 0 = λ m. Answered nothing_held left left said said m 0 in
    let L : Moment → Type 0 = λ m. IsBeside g.T.Station m c.args.station.now in
    let same : said ≡ said = refl in
    λ κs lives. asks lives c.type_bounds.send-G c.type_bounds.sync-G c.type_bounds.sync-R
    (c.deref_mut.ensures.len ∙ c.in-Ok.ensures.len) c.requires.limit
    (ap (λ (m : Moment). m.number) c.in-Ok-new.ensures)
    (subst P (sym c.in-Ok-new.ensures) (answered-start nothing_held left said)) (subst L (sym c.in-Ok-new.ensures) tt)
    same

pub returns-in_default-new-clause-ends : goal.returns-in_default-new-clause-ends
returns-in_default-new-clause-ends g c =
    none-in_lines nothing_held (g.S.Source.left c.args.source.now) (g.T.Station.said c.args.station.now)

pub returns-in_default-clause-disk : goal.returns-in_default-clause-disk
returns-in_default-clause-disk g c =
    start-stays g.T.Station nothing_held (g.S.Source.left c.args.source.now) _ _
    (stays-still g.T.Station [] c.args.station.now (g.met.T.Station.only_now c.args.station.now)
    (g.met.T.Station.counts_now c.args.station.now))

pub returns-in_default-new-clause-disk : goal.returns-in_default-new-clause-disk
returns-in_default-new-clause-disk g c =
    start-stays g.T.Station nothing_held (g.S.Source.left c.args.source.now) _ _
    (stays-still g.T.Station [] c.args.station.now (g.met.T.Station.only_now c.args.station.now)
    (g.met.T.Station.counts_now c.args.station.now))

-- a session of no log ends with no fault of the disk
pub returns-clause-ends : goal.returns-clause-ends
returns-clause-ends g c =
    let one = c.answer_all-status.ensures in
    plain-ends nothing_held c.answer_all-status.result c.args.limit (g.S.Source.left c.args.source.now)
    (g.S.Source.left c.answer_all-status.new.source) (g.T.Station.said c.args.station.now)
    (g.T.Station.said c.answer_all-status.new.station) one.ends
    (one.plain (ap (λ (m : Moment). m.end) c.in-Ok-new.ensures))

pub returns-clause-counted : goal.returns-clause-counted
returns-clause-counted g c = c.answer_all-status.ensures.counted

pub returns-clause-disk : goal.returns-clause-disk
returns-clause-disk g c =
    of-stays g.T.Station c.in-Ok-new.feed.end
    (opening_of nothing_held (g.S.Source.left c.args.source.now) (g.T.Station.said c.args.station.now)) _
    c.args.station.now c.answer_all-status.new.station c.answer_all-status.ensures.found
    (ap (λ (m : Moment). m.end) c.in-Ok-new.ensures)
