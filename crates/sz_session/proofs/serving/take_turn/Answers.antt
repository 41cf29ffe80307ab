-- A turn takes in what its one read gave.
use Rattle.std.proofs.Common.{◌≡◌, [], None, take, arith, refl}
use Rattle.std.proofs.lemmas.Result.{err_from_is_err_and}
use Rattle.sz_feed.specs.Moments.{cut_after}
use Rattle.sz_session.proofs.Ends.{turn-ends, turn-counted, plain-turn, not-done, of-both}
use Rattle.sz_session.proofs.Written.{turn-failed, rest-written}
use Rattle.sz_feed.proofs.Told.{answered-turn, read-failed, past-limit}
use Rattle.sz_feed.proofs.Beside.{is-again}
use Rattle.sz_feed.proofs.Calls.{behind-only, behind-lines}
use Rattle.sz_feed.proofs.Sources.{rest-still, next-taken, rest-taken}
use Rattle.sz_feed.proofs.Disks.{stays-still, between-stays, turn-stays}
use Rattle.sz_feed.specs.Disks.{StaysFinding, FoundInPart}
use Rattle.sz_feed.specs.Running.{FindsRest, FindsNext}
use Rattle.sz_session.specs.Sessions.{FindsOf}
use Rattle.sz_session.proofs.serving.take_turn.Given.{Over}
use Rattle.sz_session.proofs.serving.take_turn.Goals.{After-read_chunk, After-take_chunk}
use Rattle.sz_session.proofs.serving.take_turn.Goals as goal

-- where no line is taken in, nothing more is found
still : (g : Over) (c : After-read_chunk g) → FindsOf g.T.Station c.args.feed.now.end g.opening
    (FindsRest g.T.Station c.args.feed.now g.opening.left c.args.total c.args.station.now c.args.station.now)
    c.args.station.now c.args.station.now
still g c =
    let m = c.args.feed.now in
    let a = c.args.station.now in
    let asked = c.requires.1.1.1.1.1.1.1.1.1.1.1 in
    of-both g.T.Station m.end g.opening _ a a
    (λ e. between-stays g.T.Station g.opening.held _ _ _ _ _ m c.args.total asked.0
    (stays-still g.T.Station [] a (g.met.T.Station.only_now a) (g.met.T.Station.counts_now a)))
    (rest-still g.T.Station m g.opening.left c.args.total a asked.1 (g.met.T.Station.only_now a)
    (g.met.T.Station.counts_now a))

-- the read failed
pub returns-in_err-count-clause-ends : goal.returns-in_err-count-clause-ends
returns-in_err-count-clause-ends g c =
    let so_far = c.requires.1.1.1.1.1.1.1.1.1.1.1.0 in
    let p = err_from_is_err_and c.from_residual.result c.from_residual.ensures.1 in
    rw (p.1, p.2) (record {
      ends = read-failed g.opening.held _ _ _ _ _ c.args.feed.now c.args.total so_far c.in_err-count.ensures.kept;
      counted = (c.in_err-count.ensures.fault, refl, refl);
      plain = λ e is. cc;
      written = λ is. cc;
      not_done = λ is. cc;
      found = still g (goal.at.returns-in_err-count-clause-ends g c).After-read_chunk;
    })

-- there are more bytes than a session may have
pub returns-then-count-gt0-clause-ends : goal.returns-then-count-gt0-clause-ends
returns-then-count-gt0-clause-ends g c =
    let so_far = c.requires.1.1.1.1.1.1.1.1.1.1.1.0 in
    let at : c.args.total ≡ c.args.limit = omega arith in
    let one : c.in_ok-count.count ≡ 1 = omega (arith, c.in_ok-count.ensures.one at) in
    record {
      ends = past-limit g.opening.held c.args.limit _ _ _ _ _ c.args.feed.now c.args.total c.in_ok-count.count
          c.read_chunk.new.buffer at one so_far c.in_ok-count.ensures.bytes;
      counted = (c.in_ok-count.ensures.quiet, refl, refl);
      plain = λ e is. cc;
      written = λ is. cc;
      not_done = λ is. cc;
      found = still g (goal.at.returns-then-count-gt0-clause-ends g c).After-read_chunk;
    }

-- of a session of no log the disk stays while lines are taken in
only : (g : Over) (c : After-take_chunk g) → c.args.feed.now.end ≡ None
    → StaysFinding g.T.Station (FoundInPart g.opening.held g.opening.left g.opening.said) c.args.station.now
    c.take_chunk.new.station
only g c e =
    let m = c.args.feed.now in
    let buffer = c.read_chunk.new.buffer in
    let lines = (cut_after m (take c.in_ok-count.count buffer)).whole in
    turn-stays g.T.Station g.opening.held _ _ _ _ _ _ m c.args.total c.in_ok-count.count buffer
    c.requires.1.1.1.1.1.1.1.1.1.1.1.0 c.in_ok-count.ensures.bytes
    (behind-only g.T.Station m.end [] m.held m.number lines c.args.station.now c.take_chunk.new.station
    c.take_chunk.ensures.answered.found e)

-- and of one of a log so many of them are found
next : (g : Over) (c : After-take_chunk g) → FindsNext g.T.Station c.args.feed.now g.opening.left c.args.total
    c.in_ok-count.count c.args.station.now c.take_chunk.new.station
next g c =
    let m = c.args.feed.now in
    let a = c.args.station.now in
    let x = c.take_chunk.new.station in
    let count = c.in_ok-count.count in
    let buffer = c.read_chunk.new.buffer in
    next-taken g.T.Station g.opening.held g.opening.left (g.S.Source.left c.args.source.now) _ g.opening.said m
    c.args.total count buffer a x c.requires.1.1.1.1.1.1.1.1.1.1.1.0 c.in_ok-count.ensures.bytes
    (behind-lines g.T.Station m.end [] m.held m.number (cut_after m (take count buffer)).whole a x
    c.take_chunk.ensures.answered.found)

-- the lines were answered, or so many of them
pub returns-in_err-take_chunk-clause-ends : goal.returns-in_err-take_chunk-clause-ends
returns-in_err-take_chunk-clause-ends g c =
    let o = g.opening in
    let m = c.args.feed.now in
    let count = c.in_ok-count.count in
    let buffer = c.read_chunk.new.buffer in
    let so_far = c.requires.1.1.1.1.1.1.1.1.1.1.1.0 in
    let gives = c.in_ok-count.ensures.bytes in
    let stopped = c.in_err-take_chunk.ensures in
    let here = (goal.at.returns-in_err-take_chunk-clause-ends g c).After-take_chunk in
    let p = err_from_is_err_and c.from_residual-in_err-take_chunk.result c.from_residual-in_err-take_chunk.ensures.1 in
    rw (p.1, p.2) (record {
      ends = turn-ends o.held c.args.limit _ _ _ _ c.args.total count buffer stopped.answered so_far gives stopped.says;
      counted = turn-counted _ _ stopped.answered c.in_ok-count.ensures.quiet;
      plain = λ e is. plain-turn _ (stopped.answered.plain e) is;
      written = λ is. rest-written o.held _ _ _ _ _ m c.args.total count buffer so_far gives
          (stopped.answered.written (turn-failed _ is));
      not_done = λ is. not-done _ is;
      found = of-both g.T.Station m.end o _ c.args.station.now c.take_chunk.new.station (only g here)
          (rest-taken g.T.Station m o.left c.args.total count c.args.station.now c.take_chunk.new.station
          (next g here));
    })

pub returns-clause-turn : goal.returns-clause-turn
returns-clause-turn g c =
    let asked = c.requires.1.1.1.1.1.1.1.1.1.1.1 in
    let took = c.in_ok-take_chunk.ensures in
    let here = (goal.at.returns-clause-turn g c).After-take_chunk in
    record {
      answered = answered-turn g.opening.held _ _ _ _ _ _ _ _ c.args.total c.in_ok-count.count c.read_chunk.new.buffer
          asked.0 c.in_ok-count.ensures.bytes took.chunk;
      counted = (c.in_ok-count.ensures.quiet, took.answered.counted.0, took.answered.counted.1);
      log = took.answered.log;
      again = is-again g.T.Station c.args.feed.now c.take_chunk.new.self c.args.station.now c.take_chunk.new.station
          asked.1 took.answered.log;
      found = of-both g.T.Station c.args.feed.now.end g.opening _ c.args.station.now c.take_chunk.new.station
          (only g here) (next g here);
    }
