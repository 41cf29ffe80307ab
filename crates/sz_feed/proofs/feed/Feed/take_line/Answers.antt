-- A line that does not wait is told once those that wait before it are.
use Rattle.std.proofs.Common.{◌≡◌, [], ◌∷◌, ap, subst, length, None, arith}
use Rattle.std.proofs.lemmas.Result.{err_from_is_err_and, on_ok_weaker}
use Rattle.sz_feed.specs.Moments.{Moment, cut_after, told_in}
use Rattle.sz_commands.specs.Asks.{asks_text}
use Rattle.sz_feed.specs.Disks.{OnlySays}
use Rattle.sz_feed.specs.Waiting.{SaysBy}
use Rattle.sz_feed.proofs.Disks.{only-longer}
use Rattle.sz_feed.proofs.Waiting.{says-waited, says-line, only-both}
use Rattle.sz_feed.specs.Running.{StaysBeside, FindsIn}
use Rattle.sz_feed.specs.Calls.{WritesOne}
use Rattle.sz_feed.proofs.Beside.{in-still, in-idle, is-idle, stays-idle, some-always}
use Rattle.sz_feed.proofs.Calls.{counts-then, behind-of, behind-only, behind-lines, answered-halted}
use Rattle.std.specs.Prelude.{Err}
use Rattle.sz_feed.specs.declared.feed.Halt.TheVariants as halt
use Rattle.sz_feed.proofs.feed.Feed.take_line.Goals as goal

pub returns-in_err-given-clause-answered : goal.returns-in_err-given-clause-answered
returns-in_err-given-clause-answered g c =
    let m = c.args.self.now in
    let a = c.args.station.now in
    let p = err_from_is_err_and c.from_residual.result c.from_residual.ensures.1 in
    rw (p.1, p.2)
    (answered-halted g.T.Station m _ (asks_text m.held c.args.waiting.now.items) (10 ∷ []) a c.requires.log
    (g.met.T.Station.only_now a) (g.met.T.Station.counts_now a))

-- where those that wait could not be answered
pub returns-in_err-say_waiting-in_default-clause-says : goal.returns-in_err-say_waiting-in_default-clause-says
returns-in_err-say_waiting-in_default-clause-says g c =
    let said = c.in_err-say_waiting-in_default.ensures in
    let p = err_from_is_err_and c.from_residual-in_err-say_waiting-in_default.result
    c.from_residual-in_err-say_waiting-in_default.ensures.1 in
    rw (p.1, p.2) (says-waited _ _ _ _ _ said.says said.said.plain)

pub returns-in_err-say_waiting-in_default-clause-answered : goal.returns-in_err-say_waiting-in_default-clause-answered
returns-in_err-say_waiting-in_default-clause-answered g c =
    let m = c.args.self.now in
    let a = c.args.station.now in
    let b = c.say_waiting.new.station in
    let Idle = c.args.waiting.now.items ≡ [] in
    let idle = c.requires.waiting.idle in
    let asks = asks_text m.held c.args.waiting.now.items in
    let said = c.in_err-say_waiting-in_default.ensures.said in
    let p = err_from_is_err_and c.from_residual-in_err-say_waiting-in_default.result
    c.from_residual-in_err-say_waiting-in_default.ensures.1 in
    rw (p.1, p.2) (record {
      counted = said.counted;
      plain = λ e is. said.plain is;
      written = λ is. absurd (said.plain is);
      log = tt;
      found = behind-of g.T.Station m.end asks m.held m.number (cut_after m (10 ∷ [])).whole a b
          (λ e. only-longer g.T.Station a b asks (told_in m (10 ∷ [])) said.found)
          (in-idle g.T.Station m Idle (10 ∷ []) a b b idle c.say_waiting.ensures.idle
          (in-still g.T.Station m (10 ∷ []) b
          (is-idle g.T.Station m Idle a b c.requires.log idle c.say_waiting.ensures.idle)
          (g.met.T.Station.only_now b) (g.met.T.Station.counts_now b)));
    })

-- and where they were
pub returns-in_ok-say_waiting-in_default-clause-waiting : goal.returns-in_ok-say_waiting-in_default-clause-waiting
returns-in_ok-say_waiting-in_default-clause-waiting g c =
    let none = c.in_ok-say_waiting-in_default.ensures.none in
    on_ok_weaker c.end_with.result
    (λ next. record {
      asks = rw none tt;
      few = omega (arith, ap length none);
      idle = some-always _ _ none;
    })
    c.end_with.ensures.next

pub returns-in_ok-say_waiting-in_default-clause-says : goal.returns-in_ok-say_waiting-in_default-clause-says
returns-in_ok-say_waiting-in_default-clause-says g c =
    let s = g.T.Station.said c.args.station.now in
    let t = g.T.Station.said c.say_waiting.new.station in
    let u = g.T.Station.said c.end_with.new.station in
    let asks = asks_text c.args.self.now.held c.args.waiting.now.items in
    let P : Moment → Type 0 = λ m. SaysBy c.end_with.result s u asks (told_in m (10 ∷ [])) in
    subst P c.say_waiting.ensures.same
    (says-line c.end_with.result s t u asks (told_in c.say_waiting.new.self (10 ∷ []))
    c.in_ok-say_waiting-in_default.ensures.says c.end_with.ensures.says)

pub returns-in_ok-say_waiting-in_default-clause-answered : goal.returns-in_ok-say_waiting-in_default-clause-answered
returns-in_ok-say_waiting-in_default-clause-answered g c =
    let m = c.args.self.now in
    let k = c.say_waiting.new.self in
    let n = c.end_with.new.self in
    let a = c.args.station.now in
    let b = c.say_waiting.new.station in
    let x = c.end_with.new.station in
    let same = c.say_waiting.ensures.same in
    let asks = asks_text m.held c.args.waiting.now.items in
    let said = c.in_ok-say_waiting-in_default.ensures in
    let line = c.end_with.ensures.answered in
    let O : Moment → Type 0 = λ l. l.end ≡ None → OnlySays g.T.Station (told_in l (10 ∷ [])) b x in
    let F : Moment → Type 0 = λ l. FindsIn g.T.Station l (10 ∷ []) b x in
    let S : Moment → Type 0 = λ l. StaysBeside g.T.Station l n b x in
    let W : Moment → Type 0 =
    λ l. c.end_with.result ≡ Err halt.DiskFault → WritesOne l.held (cut_after l (10 ∷ [])).whole in
    let E : Moment → Type 0 = λ l. l.end ≡ None → c.end_with.result ≡ Err halt.DiskFault → ⊥ in
    record {
      counted = counts-then g.T.Station c.end_with.result a b x said.said.counted line.counted;
      plain = subst E same line.plain;
      written = subst W same line.written;
      log = on_ok_weaker c.end_with.result
          (λ goes. stays-idle g.T.Station m n (c.args.waiting.now.items ≡ []) a b x c.requires.waiting.idle
          c.say_waiting.ensures.idle (subst S same goes)) line.log;
      found = behind-of g.T.Station m.end asks m.held m.number (cut_after m (10 ∷ [])).whole a x
          (λ e. only-both g.T.Station a b x asks (told_in m (10 ∷ [])) said.said.found said.says
          (subst O same
          (behind-only g.T.Station k.end [] k.held k.number (cut_after k (10 ∷ [])).whole b x line.found) e))
          (in-idle g.T.Station m (c.args.waiting.now.items ≡ []) (10 ∷ []) a b x c.requires.waiting.idle
          c.say_waiting.ensures.idle
          (subst F same
          (behind-lines g.T.Station k.end [] k.held k.number (cut_after k (10 ∷ [])).whole b x line.found)));
    }
