-- Each call tears one image alone.
use Rattle.std.proofs.Common.{◌≡◌, ◌∷◌, [], List, ℕ, Some, ◌∙◌, arith}
use Rattle.std.proofs.lemmas.Result.{on_ok_weaker}
use Rattle.sz_outside.specs.Calls.{Steps}
use Rattle.sz_log.specs.Steps.{Makes}
use Rattle.sz_log.proofs.Moments.{only_of}
use Rattle.sz_log.proofs.Makes.{cleared, puts, title, torn_first, torn_second, torn_third}
use Rattle.sz_log.proofs.making.make.Given.{Over}
use Rattle.sz_log.proofs.making.make.Goals.{In_ok-clear, After-put, In_ok-put, After-put-2, In_ok-put-2, After-put-3}
use Rattle.sz_log.proofs.making.make.Goals as goal

abbrev Made : (g : Over) → g.row.T.Denot → g.row.T.Denot → Type 0
Made g old new =
    Steps g.T.Station.moment g.T.Station.left_since g.T.Station.may_leave g.T.Station.said old new Makes

-- behind the first write
first : (g : Over) (c : After-put g) (d : List ℕ) → g.T.Station.disk c.args.station.now ≡ Some d
    → g.T.Station.disk c.clear.new.station ≡ Some []
    → Made g c.args.station.now c.put.new.station
first g c d is disk =
    puts (g.T.Station.said c.args.station.now) (g.T.Station.said c.clear.new.station) 0 1 []
    (only_of (g.T.Station.disk c.clear.new.station) [] (g.T.Station.may_leave c.clear.new.station) disk
    c.in_ok-clear.ensures.synced)
    torn_first (cleared (c.clear.ensures.stops d is)) (c.put.ensures.stops [] disk (omega arith))
    c.clear.ensures.output.0

-- behind the second
second : (g : Over) (c : After-put-2 g) → g.T.Station.disk c.put.new.station ≡ Some (0 ∷ [])
    → Made g c.args.station.now c.put.new.station → Made g c.args.station.now c.put-2.new.station
second g c disk one =
    puts (g.T.Station.said c.args.station.now) (g.T.Station.said c.put.new.station) 1 16 (0 ∷ [])
    (only_of (g.T.Station.disk c.put.new.station) (0 ∷ []) (g.T.Station.may_leave c.put.new.station) disk
    c.in_ok-put.ensures.synced)
    torn_second one (c.put-2.ensures.stops (0 ∷ []) disk (omega arith))
    (c.put.ensures.output.0 ∙ c.clear.ensures.output.0)

-- behind the third
third : (g : Over) (c : After-put-3 g) → g.T.Station.disk c.put-2.new.station ≡ Some (0 ∷ title)
    → Made g c.args.station.now c.put-2.new.station → Made g c.args.station.now c.put-3.new.station
third g c disk two =
    puts (g.T.Station.said c.args.station.now) (g.T.Station.said c.put-2.new.station) 0 1 (0 ∷ title)
    (only_of (g.T.Station.disk c.put-2.new.station) (0 ∷ title) (g.T.Station.may_leave c.put-2.new.station) disk
    c.in_ok-put-2.ensures.synced)
    torn_third two (c.put-3.ensures.stops (0 ∷ title) disk (omega arith))
    (c.put-2.ensures.output.0 ∙ c.put.ensures.output.0 ∙ c.clear.ensures.output.0)

pub returns-in_err-put-clause-stops : goal.returns-in_err-put-clause-stops
returns-in_err-put-clause-stops g c = λ d is.
    first g (goal.at.returns-in_err-put-clause-stops g c).After-put d is (c.in_ok-clear.ensures.cleared d is)

pub returns-in_err-put-2-clause-stops : goal.returns-in_err-put-2-clause-stops
returns-in_err-put-2-clause-stops g c = λ d is.
    let s = goal.at.returns-in_err-put-2-clause-stops g c in
    let disk = c.in_ok-clear.ensures.cleared d is in
    second g s.After-put-2 (c.in_ok-put.ensures.written [] disk (omega arith)) (first g s.After-put d is disk)

pub returns-clause-stops : goal.returns-clause-stops
returns-clause-stops g c = λ d is.
    let s = goal.at.returns-clause-stops g c in
    let disk = c.in_ok-clear.ensures.cleared d is in
    let disk_2 = c.in_ok-put.ensures.written [] disk (omega arith) in
    third g s.After-put-3 (c.in_ok-put-2.ensures.written (0 ∷ []) disk_2 (omega arith))
    (second g s.After-put-2 disk_2 (first g s.After-put d is disk))

pub returns-clause-made : goal.returns-clause-made
returns-clause-made g c = on_ok_weaker c.put-3.result (λ wrote d is.
    let disk_1 = c.in_ok-clear.ensures.cleared d is in
    let disk_2 = c.in_ok-put.ensures.written [] disk_1 (omega arith) in
    wrote (0 ∷ title) (c.in_ok-put-2.ensures.written (0 ∷ []) disk_2 (omega arith)) (omega arith))
    c.put-3.ensures.written
