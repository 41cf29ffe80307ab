-- Each turn takes in the bytes up to a byte 10 and that byte: the turns so far and this one are the chunk's front.
use Rattle.std.proofs.Common.{◌≡◌, ℕ, ◌+◌, ◌-◌, List, [], ◌++◌, take, drop, length}
use Rattle.std.proofs.Common.{refl, subst, ap, sym, ◌∙◌, arith}
use Rattle.std.proofs.lemmas.List.{take-append-drop, take_rest}
use Rattle.std.proofs.lemmas.Result.{on_ok_weaker, err_from_is_err_and}
use Rattle.sz_feed.specs.Moments.{Moment, told_in, cut_after}
use Rattle.sz_feed.specs.Serving.{Advances}
use Rattle.sz_feed.specs.Disks.{OnlySays}
use Rattle.sz_feed.specs.Waiting.{Waits}
use Rattle.sz_feed.specs.Running.{StaysBeside}
use Rattle.sz_feed.specs.declared.feed.Halt.TheVariants as halt
use Rattle.sz_feed.specs.Calls.{SaysReplies, FindsBehind, WritesOne}
use Rattle.sz_feed.proofs.Turns.{take-line}
use Rattle.sz_feed.proofs.Disks.{stays-still}
use Rattle.sz_feed.proofs.Waiting.{waits-nothing, waits-more, waits-line, waits-said, first-taken, only-rest}
use Rattle.sz_feed.proofs.Waiting.{replies-line, replies-front, replies-rest}
use Rattle.sz_feed.proofs.Beside.{stays-same, stays-then, stays-from, stays-to, stays-rest, none-stays, is-again}
use Rattle.sz_feed.proofs.Beside.{in-still, in-front, in-rest, some-always, idle-moved}
use Rattle.sz_feed.proofs.Calls.{went_on, counts-then, text-whole, behind-of, behind-only, behind-lines, behind-front}
use Rattle.sz_feed.proofs.Calls.{behind-next, answered-counts, replies-memory, answered-memory}
use Rattle.sz_feed.proofs.Writing.{writes-front, writes-next}
use Rattle.sz_feed.proofs.feed.Feed.take_chunk.Given.{Over}
use Rattle.sz_feed.proofs.feed.Feed.take_chunk.Goals.{After-take_line, After-say_waiting}
use Rattle.sz_feed.proofs.feed.Feed.take_chunk.Goals as goal

pub loop-at-init : goal.loop-at-init
loop-at-init g c =
    let m = c.args.self.now in
    let a = c.args.station.now in
    let none = c.new-waiting.ensures.items in
    record {
      within = omega arith;
      waits = waits-nothing (g.T.Station.said a) m c.new-waiting.result.items none;
      waiting = record {
        asks = rw none tt;
        few = omega (arith, ap length none);
        idle = some-always m.end _ none;
      };
      number = omega arith;
      log = c.requires.log;
      answered = record {
        counted = (refl, refl);
        plain = λ e is. cc;
        written = λ is. cc;
        log = stays-same g.T.Station m m a refl refl c.requires.log;
        found = behind-of g.T.Station m.end [] m.held m.number (cut_after m []).whole a a
            (λ e. stays-still g.T.Station _ a (g.met.T.Station.only_now a) (g.met.T.Station.counts_now a))
            (in-still g.T.Station m [] a c.requires.log (g.met.T.Station.only_now a) (g.met.T.Station.counts_now a));
      };
    }

-- the bytes before the end of a line were taken in, behind asks that wait
waited : (g : Over) (c : After-take_line g) → Waits (g.T.Station.said c.args.station.now)
    (g.T.Station.said c.loop-at.station) c.args.self.now c.extend.new.self
    (take c.loop-at.start c.args.chunk.now
    ++ take (c.in-Some.at - c.loop-at.start) (drop c.loop-at.start c.args.chunk.now)) c.loop-at.waiting.items
waited g c =
    waits-more (g.T.Station.said c.args.station.now) (g.T.Station.said c.loop-at.station) c.args.self.now c.loop-at.self
    c.extend.new.self (take c.loop-at.start c.args.chunk.now)
    (take (c.in-Some.at - c.loop-at.start) (drop c.loop-at.start c.args.chunk.now)) c.loop-at.waiting.items
    c.loop-at.invariant.waits c.in_ok-extend.ensures.takes c.extend.ensures.held

-- and so much is found of that line and those before it, whether it was taken in or not
found : (g : Over) (c : After-take_line g) → FindsBehind g.T.Station c.args.self.now.end [] c.args.self.now.held
    c.args.self.now.number (cut_after c.args.self.now (take (c.in-Some.at + 1) c.args.chunk.now)).whole
    c.args.station.now c.take_line.new.station
found g c =
    let m = c.args.self.now in
    let l = c.loop-at.self in
    let k = c.extend.new.self in
    let a = c.args.station.now in
    let b = c.loop-at.station in
    let place = c.in-Some.ensures in
    let so_far = c.loop-at.invariant in
    behind-next g.T.Station m k c.args.chunk.now c.loop-at.start c.in-Some.at c.loop-at.waiting.items a b
    c.take_line.new.station place.0 place.1 place.2 so_far.answered.found (waited g c)
    (idle-moved l.end k.end _ c.extend.ensures.end so_far.waiting.idle)
    (stays-to g.T.Station m l k a b c.extend.ensures.held c.extend.ensures.end so_far.answered.log)
    c.take_line.ensures.answered.found

pub loop-at-preserved : goal.loop-at-preserved
loop-at-preserved g c =
    let place = c.in-Some.ensures in
    let m = c.args.self.now in
    let n = c.take_line.new.self in
    let a = c.args.station.now in
    let b = c.loop-at.station in
    let x = c.take_line.new.station in
    let so_far = c.loop-at.invariant in
    let line = c.in_ok-take_line.ensures in
    let here = (goal.at.loop-at-preserved g c).After-take_line in
    let next = waits-line (g.T.Station.said a) (g.T.Station.said b) (g.T.Station.said x) m c.extend.new.self n _
    c.loop-at.waiting.items c.take_line.new.waiting.items (waited g here) line.lags line.says in
    let Q : List ℕ → Type 0 =
    λ bytes. Waits (g.T.Station.said a) (g.T.Station.said x) m n bytes c.take_line.new.waiting.items in
    let grown = c.in_ok-extend.ensures.number in
    let goes : StaysBeside g.T.Station m n a x =
    stays-then g.T.Station m c.loop-at.self n a b x so_far.answered.log
    (stays-from g.T.Station c.loop-at.self c.extend.new.self n b x c.extend.ensures.held c.extend.ensures.end
    line.answered.log) in
    record {
      within = omega (arith, place.1);
      waits = subst Q (take-line c.args.chunk.now c.loop-at.start c.in-Some.at place.0 place.1 place.2) next;
      waiting = line.waiting;
      number = omega (arith, place.0, grown, line.next, so_far.number);
      log = is-again g.T.Station m n a x c.requires.log goes;
      answered = record {
        counted = counts-then g.T.Station went_on a b x so_far.answered.counted line.answered.counted;
        plain = λ e is. cc;
        written = λ is. cc;
        log = goes;
        found = found g here;
      };
    }

-- where memory is refused, every line that ended so far was answered, but for asks that wait
pub returns-in_err-extend-clause-says : goal.returns-in_err-extend-clause-says
returns-in_err-extend-clause-says g c =
    let p = err_from_is_err_and c.from_residual.result c.from_residual.ensures.1 in
    rw (p.1, p.2)
    (replies-memory halt.NoMemory _ _ _ _ _ refl
    (first-taken _ _ c.args.self.now c.args.chunk.now c.loop-at.start c.loop-at.invariant.waits.first))

pub returns-in_err-extend-clause-answered : goal.returns-in_err-extend-clause-answered
returns-in_err-extend-clause-answered g c =
    let so_far = c.loop-at.invariant.answered in
    let p = err_from_is_err_and c.from_residual.result c.from_residual.ensures.1 in
    rw (p.1, p.2)
    (answered-memory g.T.Station halt.NoMemory c.args.self.now _ [] _ c.args.station.now c.loop-at.station
    refl so_far.counted
    (behind-front g.T.Station c.args.self.now c.args.chunk.now c.loop-at.start c.args.station.now c.loop-at.station
    so_far.found))

pub returns-in_err-extend-2-clause-says : goal.returns-in_err-extend-2-clause-says
returns-in_err-extend-2-clause-says g c =
    let p = err_from_is_err_and c.from_residual-in_err-extend-2.result c.from_residual-in_err-extend-2.ensures.1 in
    rw (p.1, p.2)
    (replies-memory halt.NoMemory _ _ _ _ _ refl
    (first-taken _ _ c.args.self.now c.args.chunk.now c.loop-at.start c.loop-at.invariant.waits.first))

pub returns-in_err-extend-2-clause-answered : goal.returns-in_err-extend-2-clause-answered
returns-in_err-extend-2-clause-answered g c =
    let so_far = c.loop-at.invariant.answered in
    let p = err_from_is_err_and c.from_residual-in_err-extend-2.result c.from_residual-in_err-extend-2.ensures.1 in
    rw (p.1, p.2)
    (answered-memory g.T.Station halt.NoMemory c.args.self.now _ [] _ c.args.station.now c.loop-at.station
    refl so_far.counted
    (behind-front g.T.Station c.args.self.now c.args.chunk.now c.loop-at.start c.args.station.now c.loop-at.station
    so_far.found))

-- where a line could not be taken in, so many of those that ended with it were answered
pub returns-in_err-take_line-clause-says : goal.returns-in_err-take_line-clause-says
returns-in_err-take_line-clause-says g c =
    let place = c.in-Some.ensures in
    let m = c.args.self.now in
    let xs = c.args.chunk.now in
    let s = g.T.Station.said c.args.station.now in
    let u = g.T.Station.said c.take_line.new.station in
    let says = replies-line _ s (g.T.Station.said c.loop-at.station) u m c.extend.new.self _ c.loop-at.waiting.items
    (waited g (goal.at.returns-in_err-take_line-clause-says g c).After-take_line) c.in_err-take_line.ensures.says in
    let whole = take-line xs c.loop-at.start c.in-Some.at place.0 place.1 place.2 in
    let p = err_from_is_err_and c.from_residual-in_err-take_line.result c.from_residual-in_err-take_line.ensures.1 in
    rw (p.1, p.2) (replies-front _ s u m xs (c.in-Some.at + 1) (rw (← whole) says))

pub returns-in_err-take_line-clause-answered : goal.returns-in_err-take_line-clause-answered
returns-in_err-take_line-clause-answered g c =
    let place = c.in-Some.ensures in
    let m = c.args.self.now in
    let a = c.args.station.now in
    let b = c.loop-at.station in
    let so_far = c.loop-at.invariant.answered in
    let line = c.in_err-take_line.ensures.answered in
    let here = (goal.at.returns-in_err-take_line-clause-answered g c).After-take_line in
    let W : List ℕ → Type 0 = λ bytes. WritesOne m.held (cut_after m bytes).whole in
    let p = err_from_is_err_and c.from_residual-in_err-take_line.result c.from_residual-in_err-take_line.ensures.1 in
    rw (p.1, p.2) (record {
      counted = answered-counts g.T.Station a b c.take_line.new.station so_far.counted line;
      plain = λ e. line.plain (c.extend.ensures.end ∙ none-stays g.T.Station m c.loop-at.self a b so_far.log e);
      written = λ is. writes-front m c.args.chunk.now (c.in-Some.at + 1)
          (subst W (take-line c.args.chunk.now c.loop-at.start c.in-Some.at place.0 place.1 place.2)
          (writes-next m c.extend.new.self _ c.loop-at.waiting.items (g.T.Station.said a) (g.T.Station.said b)
          (waited g here) (line.written is)));
      log = tt;
      found = behind-front g.T.Station m c.args.chunk.now (c.in-Some.at + 1) a c.take_line.new.station (found g here);
    })

-- what is left of the chunk was taken in behind the lines that ended
whole : (xs : List ℕ) (start : ℕ) → take start xs ++ take (length xs - start) (drop start xs) ≡ xs
whole xs start =
    ap (λ (ys : List ℕ). take start xs ++ ys) (take_rest xs start) ∙ take-append-drop start xs

rest : (g : Over) (c : After-say_waiting g) → Waits (g.T.Station.said c.args.station.now)
    (g.T.Station.said c.loop-at.station) c.args.self.now c.extend-2.new.self
    (take c.loop-at.start c.args.chunk.now
    ++ take (length c.args.chunk.now - c.loop-at.start) (drop c.loop-at.start c.args.chunk.now)) c.loop-at.waiting.items
rest g c =
    waits-more (g.T.Station.said c.args.station.now) (g.T.Station.said c.loop-at.station) c.args.self.now c.loop-at.self
    c.extend-2.new.self (take c.loop-at.start c.args.chunk.now) _ c.loop-at.waiting.items c.loop-at.invariant.waits
    c.in_ok-extend-2.ensures.takes c.extend-2.ensures.held

-- it is of the line that has not ended, and what waits is said
pub returns-clause-chunk : goal.returns-clause-chunk
returns-clause-chunk g c =
    let xs = c.args.chunk.now in
    let s = g.T.Station.said c.args.station.now in
    let t = g.T.Station.said c.loop-at.station in
    let u = g.T.Station.said c.say_waiting.new.station in
    let waits = rest g (goal.at.returns-clause-chunk g c).After-say_waiting in
    let Q : List ℕ → Type 0 = λ bytes. Advances s u c.args.self.now c.extend-2.new.self bytes in
    let M : Moment → Type 0 = λ m. Advances s u c.args.self.now m xs in
    on_ok_weaker c.say_waiting.result
    (λ says. subst M (sym c.say_waiting.ensures.same)
    (subst Q (whole xs c.loop-at.start)
    (waits-said s t u c.args.self.now c.extend-2.new.self _ c.loop-at.waiting.items waits says)))
    (text-whole c.say_waiting.result t u _ c.say_waiting.ensures.says)

pub returns-clause-says : goal.returns-clause-says
returns-clause-says g c =
    let m = c.args.self.now in
    let s = g.T.Station.said c.args.station.now in
    let u = g.T.Station.said c.say_waiting.new.station in
    let Q : List ℕ → Type 0 =
    λ bytes. SaysReplies c.say_waiting.result s u m.held m.number (cut_after m bytes).whole in
    subst Q (whole c.args.chunk.now c.loop-at.start)
    (replies-rest c.say_waiting.result s (g.T.Station.said c.loop-at.station) u m c.extend-2.new.self _
    c.loop-at.waiting.items (rest g (goal.at.returns-clause-says g c).After-say_waiting) c.say_waiting.ensures.says)

pub returns-clause-answered : goal.returns-clause-answered
returns-clause-answered g c =
    let xs = c.args.chunk.now in
    let m = c.args.self.now in
    let l = c.loop-at.self in
    let k = c.extend-2.new.self in
    let a = c.args.station.now in
    let b = c.loop-at.station in
    let x = c.say_waiting.new.station in
    let r = c.say_waiting.result in
    let Idle = c.loop-at.waiting.items ≡ [] in
    let idle = c.loop-at.invariant.waiting.idle in
    let so_far = c.loop-at.invariant.answered in
    let front = (cut_after m (take c.loop-at.start xs)).whole in
    let waits = rest g (goal.at.returns-clause-answered g c).After-say_waiting in
    let O : List ℕ → Type 0 = λ bytes. OnlySays g.T.Station (told_in m bytes) a x in
    let S : Moment → Type 0 = λ n. StaysBeside g.T.Station m n a x in
    let goes = subst S (sym c.say_waiting.ensures.same)
    (stays-to g.T.Station m l k a x c.extend-2.ensures.held c.extend-2.ensures.end
    (stays-rest g.T.Station m l Idle a b x so_far.log idle c.say_waiting.ensures.idle)) in
    record {
      counted = counts-then g.T.Station r a b x so_far.counted c.say_waiting.ensures.said.counted;
      plain = λ e is. c.say_waiting.ensures.said.plain is;
      written = λ is. absurd (c.say_waiting.ensures.said.plain is);
      log = on_ok_weaker r (λ none. goes) c.say_waiting.ensures.none;
      found = behind-of g.T.Station m.end [] m.held m.number (cut_after m xs).whole a x
          (λ e. subst O (whole xs c.loop-at.start)
          (only-rest g.T.Station a b x m k (take c.loop-at.start xs) _ c.loop-at.waiting.items
          (behind-only g.T.Station m.end [] m.held m.number front a b so_far.found e) waits
          c.say_waiting.ensures.said.found))
          (in-rest g.T.Station m l Idle xs a b x
          (in-front g.T.Station m xs c.loop-at.start a b
          (behind-lines g.T.Station m.end [] m.held m.number front a b so_far.found))
          so_far.log idle c.say_waiting.ensures.idle);
    }
