-- Turns go on until no byte is left, or one of them ends the session.
use Rattle.std.proofs.Common.{◌≡◌, ℕ, ◌+◌, [], None, refl, subst, sym, ap, ◌∙◌, arith}
use Rattle.std.specs.Prelude.{Ok}
use Rattle.sz_commands.specs.Lines.{last_line}
use Rattle.sz_commands.specs.Transcript.{after_lines}
use Rattle.sz_feed.specs.Serving.{Answered}
use Rattle.sz_feed.specs.Running.{StaysBeside, FindsNext, FindsRest}
use Rattle.sz_feed.proofs.Beside.{stays-same, stays-then, none-stays}
use Rattle.sz_feed.proofs.Calls.{behind-only, behind-lines}
use Rattle.sz_feed.proofs.Disks.{stays-still, stays-both, between-stays, end-stays}
use Rattle.sz_feed.proofs.Sources.{FindsRead, read-start, read-more, all-rest, all-read, all-behind}
use Rattle.sz_feed.proofs.Sources.{next-none, rest-none}
use Rattle.sz_feed.specs.Disks.{StaysFinding, FoundInPart}
use Rattle.sz_session.specs.Statuses.{NoneRose, end_status}
use Rattle.sz_session.specs.Sessions.{TurnsOn, FindsOf, EndsSession}
use Rattle.sz_session.specs.declared.serving.Status.{Status}
use Rattle.sz_session.proofs.Ends.{asks, end-ends, end-counted, none-then, counted-behind, plain-end, done-end}
use Rattle.sz_session.proofs.Ends.{turn-behind, of-both, of-stays, of-claim}
use Rattle.sz_session.proofs.Written.{end-failed, line-written, last-written}
use Rattle.sz_session.proofs.serving.read_all.Given.{Over}
use Rattle.sz_session.proofs.serving.read_all.Goals.{After-take_turn}
use Rattle.sz_session.proofs.serving.read_all.Goals as goal

pub chunks-init : goal.chunks-init
chunks-init g c =
    let asked = c.requires.1.1.1.1.1.1.1.1.1 in
    let m = c.args.feed.now in
    let a = c.args.station.now in
    record {
      within = omega arith;
      number = omega (arith, asked.0);
      counted = (refl, refl, refl);
      goes = stays-same g.T.Station m m a refl refl asked.1.1.0;
      log = asked.1.1.0;
      plain = λ e. e;
      found = read-start g.T.Station g.opening.held g.opening.left (g.S.Source.left c.args.source.now) g.opening.said
          m a asked.1.0 asked.1.1.0 (g.met.T.Station.only_now a) (g.met.T.Station.counts_now a);
      disk = λ e. between-stays g.T.Station g.opening.held _ _ _ _ _ m 0 asked.1.0
          (stays-still g.T.Station [] a (g.met.T.Station.only_now a) (g.met.T.Station.counts_now a));
      answered = asked.1.0;
    }

-- the bounds of the types are those of the function itself
pub take_turn-requires : goal.take_turn-requires
take_turn-requires g c =
    let bounds = c.requires.1.1.1.1 in
    let so_far = c.chunks.invariant in
    λ κs lives. asks lives bounds.0 bounds.1.0 bounds.1.1.0 (c.chunks.auto.buffer ∙ bounds.1.1.1.0) bounds.1.1.1.1.0
    so_far.within so_far.number so_far.answered so_far.log

-- what a turn that goes on leaves, behind those so far
abbrev Turn : (g : Over) → After-take_turn g → ℕ → Type 0
Turn g c count = TurnsOn g.T.Station g.opening c.chunks.total count (g.S.Source.left c.take_turn.new.source)
    (g.S.Source.faults c.chunks.source) (g.S.Source.faults c.take_turn.new.source) c.chunks.feed c.take_turn.new.feed
    c.chunks.station c.take_turn.new.station

counted : (g : Over) (c : After-take_turn g) (count : ℕ) → Turn g c count
    → NoneRose g.T.Station (g.S.Source.faults c.args.source.now) (g.S.Source.faults c.take_turn.new.source)
    c.args.station.now c.take_turn.new.station
counted g c count turn =
    none-then g.T.Station (g.S.Source.faults c.args.source.now) (g.S.Source.faults c.chunks.source)
    (g.S.Source.faults c.take_turn.new.source) c.args.station.now c.chunks.station c.take_turn.new.station
    c.chunks.invariant.counted turn.counted

goes : (g : Over) (c : After-take_turn g) (count : ℕ) → Turn g c count
    → StaysBeside g.T.Station c.args.feed.now c.take_turn.new.feed c.args.station.now c.take_turn.new.station
goes g c count turn =
    stays-then g.T.Station c.args.feed.now c.chunks.feed c.take_turn.new.feed c.args.station.now c.chunks.station
    c.take_turn.new.station c.chunks.invariant.goes turn.log

found : (g : Over) (c : After-take_turn g) (count : ℕ) → Turn g c count
    → FindsRead g.T.Station g.opening.held c.args.feed.now.end g.opening.left (c.chunks.total + count)
    c.args.station.now c.take_turn.new.station
found g c count turn =
    let o = g.opening in
    let mid = c.chunks.feed in
    let b = c.chunks.station in
    let x = c.take_turn.new.station in
    let total = c.chunks.total in
    let asked = c.requires.1.1.1.1.1.1.1.1.1 in
    let so_far = c.chunks.invariant in
    read-more g.T.Station o.held o.left (g.S.Source.left c.args.source.now) (g.S.Source.left c.chunks.source) o.said
    c.args.feed.now mid total count c.args.station.now b x asked.1.1.1 asked.1.0 so_far.answered so_far.goes
    so_far.found
    (of-claim g.T.Station mid.end o (FindsNext g.T.Station mid o.left total count b x) b x turn.found
    (λ e. next-none g.T.Station mid o.left total count b x e))

-- of a session of no log the disk stayed so far, and in a turn too
stayed : (g : Over) (c : After-take_turn g) (Claim : Type 0)
    → FindsOf g.T.Station c.chunks.feed.end g.opening Claim c.chunks.station c.take_turn.new.station
    → c.args.feed.now.end ≡ None
    → StaysFinding g.T.Station (FoundInPart g.opening.held g.opening.left g.opening.said) c.args.station.now
    c.take_turn.new.station
stayed g c Claim in_turn e =
    stays-both g.T.Station _ _ _ _ (c.chunks.invariant.disk e)
    (of-stays g.T.Station c.chunks.feed.end g.opening Claim c.chunks.station c.take_turn.new.station in_turn
    (c.chunks.invariant.plain e))

-- one turn more
pub chunks-preserved : goal.chunks-preserved
chunks-preserved g c =
    let turn = c.in-Ok.ensures.turn in
    let here = (goal.at.chunks-preserved g c).After-take_turn in
    record {
      within = c.in-Ok.ensures.within;
      number = c.in-Ok.ensures.number;
      counted = counted g here _ turn;
      disk = stayed g here _ turn.found;
      goes = goes g here _ turn;
      log = turn.again;
      plain = λ e. none-stays g.T.Station c.args.feed.now c.take_turn.new.feed c.args.station.now
          c.take_turn.new.station (goes g here _ turn) e;
      found = found g here _ turn;
      answered = turn.answered;
    }

-- the source was read to its end
pub returns-in-Ok-eq0 : goal.returns-in-Ok-eq0
returns-in-Ok-eq0 g c =
    let o = g.opening in
    let asked = c.requires.1.1.1.1.1.1.1.1.1 in
    let first = c.args.feed.now in
    let a = c.args.station.now in
    let before = g.S.Source.left c.args.source.now in
    let reads = g.S.Source.faults c.args.source.now in
    let turn = c.in-Ok-eq0.ensures.turn in
    let here = (goal.at.returns-in-Ok-eq0 g c).After-take_turn in
    let last = c.take_turn.new.feed in
    let line = last_line last.pending in
    let y = c.take_turn.new.station in
    let on = goes g here _ turn in
    let left = g.S.Source.left c.take_turn.new.source in
    let read_now = g.S.Source.faults c.take_turn.new.source in
    let total = c.chunks.total in
    let none : c.in-Ok-eq0.field-0 ≡ 0 = c.in-Ok-eq0.field-0-test in
    let same : total + c.in-Ok-eq0.field-0 ≡ total = omega (arith, none) in
    let Q : ℕ → Type 0 = λ n. Answered o.held o.left left o.said (g.T.Station.said y) last n in
    let answered = subst Q same turn.answered in
    let F : ℕ → Type 0 = λ n. FindsRead g.T.Station o.held first.end o.left n a y in
    let read = subst F same (found g here _ turn) in
    let is_all = c.in-Ok-eq0.ensures.all (ap (λ (n : ℕ). Ok n) none) in
    let r = c.end_input.result in
    let ended = c.end_input.ensures.answered in
    let end = c.end_input.new.self in
    let x = c.end_input.new.station in
    let P : Status → Type 0 = λ s. EndsSession g.T.Station s c.args.limit o first.end left
    reads read_now a x in
    subst P (sym c.status_of_end.ensures) (record {
      ends = end-ends o.held r c.args.limit _ _ _ _ _ last total c.chunks.invariant.within answered is_all
          c.end_input.ensures.says;
      counted = counted-behind g.T.Station (end_status r) reads read_now read_now a y x (counted g here _ turn)
          (end-counted g.T.Station r read_now read_now y x refl ended.counted);
      plain = λ e is. plain-end r (ended.plain (none-stays g.T.Station first last a y on e)) is;
      written = λ is. last-written o.held o.left left o.said (g.T.Station.said y) last total answered is_all
          (ended.written (end-failed r is));
      behind = λ is. all-behind g.T.Station o.held o.left before left o.said (g.T.Station.said a) (g.T.Station.said y)
          first last end total a x asked.1.0 answered is_all
          (stays-then g.T.Station first last end a y x on
          (done-end r (StaysBeside g.T.Station last end y x) is ended.log))
          (done-end r (end.held.held ≡ (after_lines last.held line).held) is c.end_input.ensures.held);
      found = of-both g.T.Station first.end o _ a x
          (λ e. stays-both g.T.Station _ _ _ _ (stayed g here _ turn.found e)
          (end-stays g.T.Station o.held _ _ _ _ _ last total answered is_all
          (behind-only g.T.Station last.end [] last.held last.number line y x ended.found
          (none-stays g.T.Station first last a y on e))))
          (all-read g.T.Station o.held o.left before left o.said first last total a y x asked.1.1.1 asked.1.0 answered
          is_all on read (behind-lines g.T.Station last.end [] last.held last.number line y x ended.found));
    })

-- a turn ended the session
pub returns-in-Err : goal.returns-in-Err
returns-in-Err g c =
    let o = g.opening in
    let so_far = c.chunks.invariant in
    let turn = c.in-Err.ensures.ends in
    let asked = c.requires.1.1.1.1.1.1.1.1.1 in
    let first = c.args.feed.now in
    let mid = c.chunks.feed in
    let a = c.args.station.now in
    let b = c.chunks.station in
    let x = c.take_turn.new.station in
    let total = c.chunks.total in
    let rest = of-claim g.T.Station mid.end o (FindsRest g.T.Station mid o.left total b x) b x turn.found
    (λ e. rest-none g.T.Station mid o.left total b x e) in
    record {
      ends = turn.ends;
      counted = turn-behind (g.S.Source.faults c.args.source.now) a so_far.counted turn;
      plain = λ e is. turn.plain (so_far.plain e) is;
      written = λ is. line-written o.held o.left (g.S.Source.left c.chunks.source) o.said (g.T.Station.said b) mid total
          so_far.answered (turn.written is);
      behind = λ is. absurd (turn.not_done is);
      found = of-both g.T.Station first.end o _ a x
          (stayed g (goal.at.returns-in-Err g c).After-take_turn _ turn.found)
          (all-rest g.T.Station o.held o.left (g.S.Source.left c.args.source.now) (g.S.Source.left c.chunks.source)
          o.said first mid total a b x asked.1.1.1 asked.1.0 so_far.answered so_far.goes so_far.found rest);
    }
