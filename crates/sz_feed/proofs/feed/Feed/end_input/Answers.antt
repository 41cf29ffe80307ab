-- A line that has not ended and has a byte tells at the end what it tells where it ends; and else nothing is told.
use Rattle.std.proofs.Common.{◌≡◌, refl, ◌<◌, List, ℕ, [], length, subst, arith}
use Rattle.std.proofs.lemmas.Bool.Decides.{nat_tests}
use Rattle.std.proofs.lemmas.Result.{on_ok_weaker}
use Rattle.sz_commands.specs.Lines.{last_line}
use Rattle.sz_feed.specs.Moments.{Moment}
use Rattle.sz_feed.specs.Calls.{SaysText, IsAnswered}
use Rattle.sz_feed.proofs.Turns.{told_at_end-line}
use Rattle.sz_feed.proofs.Disks.{stays-still}
use Rattle.sz_feed.proofs.Beside.{end-still, end-held, end-empty, only-last, stays-same}
use Rattle.sz_feed.proofs.Calls.{behind-of}
use Rattle.sz_feed.proofs.feed.Feed.end_input.Goals as goal

pub returns-then-is_empty-clause-answered : goal.returns-then-is_empty-clause-answered
returns-then-is_empty-clause-answered g c =
    let m = c.args.self.now in
    let a = c.args.station.now in
    record {
      counted = (refl, refl);
      plain = λ e is. cc;
      written = λ is. cc;
      log = stays-same g.T.Station m m a refl refl c.requires.log;
      found = behind-of g.T.Station m.end [] m.held m.number (last_line m.pending) a a
          (λ e. stays-still g.T.Station _ a (g.met.T.Station.only_now a) (g.met.T.Station.counts_now a))
          (end-still g.T.Station m a c.requires.log (g.met.T.Station.only_now a) (g.met.T.Station.counts_now a));
    }

pub returns-then-is_empty-clause-held : goal.returns-then-is_empty-clause-held
returns-then-is_empty-clause-held g c =
    let P : Moment → Type 0 = λ m. length m.pending ≡ 0 in
    let none : length c.self.inside.pending.items ≡ 0 = grind (arith, nat_tests) in
    end-empty c.args.self.now (subst P c.self.view_is none)

pub returns-else-is_empty-clause-says : goal.returns-else-is_empty-clause-says
returns-else-is_empty-clause-says g c =
    let P : Moment → Type 0 = λ m. 0 < length m.pending in
    let some : 0 < length c.self.inside.pending.items = grind (arith, nat_tests) in
    let Q : List ℕ → Type 0 = λ told. SaysText c.end_line.result (g.T.Station.said c.args.station.now)
    (g.T.Station.said c.end_line.new.station) told in
    subst Q (told_at_end-line c.args.self.now (subst P c.self.view_is some)) c.end_line.ensures.says

pub returns-else-is_empty-clause-held : goal.returns-else-is_empty-clause-held
returns-else-is_empty-clause-held g c =
    let P : Moment → Type 0 = λ m. 0 < length m.pending in
    let some : 0 < length c.self.inside.pending.items = grind (arith, nat_tests) in
    on_ok_weaker c.end_line.result
    (λ line. end-held c.args.self.now c.end_line.new.self (g.T.Station.said c.args.station.now)
    (g.T.Station.said c.end_line.new.station) (subst P c.self.view_is some) line)
    c.end_line.ensures.line

pub returns-else-is_empty-clause-answered : goal.returns-else-is_empty-clause-answered
returns-else-is_empty-clause-answered g c =
    let P : Moment → Type 0 = λ m. 0 < length m.pending in
    let some : 0 < length c.self.inside.pending.items = grind (arith, nat_tests) in
    let Q : List (List ℕ) → Type 0 = λ lines. IsAnswered g.T.Station c.end_line.result c.args.self.now
    c.end_line.new.self [] lines c.args.station.now c.end_line.new.station in
    subst Q (only-last c.args.self.now (subst P c.self.view_is some)) c.end_line.ensures.answered
