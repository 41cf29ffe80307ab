-- A disk that is no log and small is free to be made one.
use Rattle.std.proofs.Common.{◌≡◌, ◌≤◌, false, length, sym, ◌∙◌, arith}
use Rattle.sz_outside.specs.Disk.{Told}
use Rattle.sz_outside.specs.Calls.{Steps}
use Rattle.sz_log.specs.Log.{begins_as_log}
use Rattle.sz_log.specs.Steps.{MakesIfFree}
use Rattle.sz_log.proofs.Appends.{size_of}
use Rattle.sz_log.proofs.Moments.{told, all_told}
use Rattle.sz_log.proofs.Makes.{looks_twice, makes_free, bar_none, image_of, whether_of}
use Rattle.sz_log.proofs.making.init.Given.{Over}
use Rattle.sz_log.proofs.making.init.Goals.{After-make}
use Rattle.sz_log.proofs.making.init.Goals as goal

-- so much holds whether it was made or not
made : (g : Over) (c : After-make g) → Told (g.T.Station.disk c.args.station.now)
    (Steps g.T.Station.moment g.T.Station.left_since g.T.Station.may_leave g.T.Station.said c.args.station.now
    c.make.new.station MakesIfFree)
made g c = all_told _ _ (λ d is.
    let o = g.T.Station.disk c.args.station.now in
    let found = g.T.Station.said c.args.station.now in
    let is_1 = c.size.ensures.disk ∙ is in
    let is_2 = c.is_log.ensures.disk ∙ is_1 in
    let small : length d ≤ 17 =
    omega (arith, size_of o d c.in_ok-size.size is c.in_ok-size.ensures.size, c.if-size-gt-MOST.false) in
    let no_log : begins_as_log d ≡ false =
    sym (whether_of (g.T.Station.disk c.size.new.self) d c.in_ok-is_log.field-0 is_1 c.in_ok-is_log.ensures.answer) ∙
    c.if-branch.false in
    let looks = looks_twice found (g.T.Station.said c.size.new.self) (told o d _ is c.size.ensures.stops)
    (told (g.T.Station.disk c.size.new.self) d _ is_1 c.is_log.ensures.stops) c.size.ensures.output.0 in
    makes_free found (g.T.Station.said c.is_log.new.station) d (bar_none d no_log small)
    (image_of o d (g.T.Station.may_leave c.args.station.now) is (g.met.T.Station.reads c.args.station.now))
    looks (c.make.ensures.stops d is_2) (c.is_log.ensures.output.0 ∙ c.size.ensures.output.0))

pub returns-in_err-make-clause-stops : goal.returns-in_err-make-clause-stops
returns-in_err-make-clause-stops g c = made g (goal.at.returns-in_err-make-clause-stops g c).After-make

pub returns-clause-stops : goal.returns-clause-stops
returns-clause-stops g c = made g (goal.at.returns-clause-stops g c).After-make
