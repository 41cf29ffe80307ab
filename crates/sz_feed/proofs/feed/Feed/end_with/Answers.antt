-- The line was answered as it orders, and that was said, or a part of it.
use Rattle.std.proofs.Common.{[], ◌∷◌, ap}
use Rattle.std.specs.Prelude.{Option}
use Rattle.std.proofs.lemmas.Result.{err_from_is_err_and}
use Rattle.sz_catalogue.specs.declared.reply.Reply.{Reply}
use Rattle.sz_commands.specs.Commands.{Responds}
use Rattle.sz_commands.proofs.Taking.{takes-responds}
use Rattle.sz_feed.specs.Moments.{Moment, cut_after, told_in}
use Rattle.sz_feed.specs.Serving.{line_to_say}
use Rattle.sz_feed.specs.Calls.{FindsBehind}
use Rattle.sz_feed.proofs.Disks.{stays-still}
use Rattle.sz_feed.proofs.Beside.{in-said, stays-kept, stays-to}
use Rattle.sz_feed.proofs.Calls.{said-counts, stand-then, same-end, text-none, text-line, behind-of, only-reply}
use Rattle.sz_feed.proofs.Writing.{line-writes}
use Rattle.sz_feed.specs.declared.feed.Halt.TheVariants as halt
use Rattle.sz_feed.proofs.feed.Feed.end_with.Given.{Over}
use Rattle.sz_feed.proofs.feed.Feed.end_with.Goals.{After-say}
use Rattle.sz_feed.proofs.feed.Feed.end_with.Goals as goal

-- the line was not taken
pub returns-in_err-reply-clause-says : goal.returns-in_err-reply-clause-says
returns-in_err-reply-clause-says g c =
    let taken = c.in_err-reply.ensures.taken in
    let p = err_from_is_err_and c.from_residual.result c.from_residual.ensures.1 in
    rw (p.1, p.2) (text-none (Option Reply) (Unit {0}) _ _ _ _ taken.output.said taken.silent)

pub returns-in_err-reply-clause-answered : goal.returns-in_err-reply-clause-answered
returns-in_err-reply-clause-answered g c =
    let m = c.args.self.now in
    let a = c.args.station.now in
    let taken = c.in_err-reply.ensures.taken in
    let p = err_from_is_err_and c.from_residual.result c.from_residual.ensures.1 in
    rw (p.1, p.2) (record {
      counted = taken.counted;
      plain = λ e is. taken.plain e (same-end (Unit {0}) (Option Reply) _ halt.DiskFault is);
      written = λ is. line-writes m (taken.written (same-end (Unit {0}) (Option Reply) _ halt.DiskFault is));
      log = tt;
      found = behind-of g.T.Station m.end [] m.held m.number (cut_after m (10 ∷ [])).whole a c.take.new.station
          (λ e. rw (c.take.ensures.taken.still e)
          (stays-still g.T.Station (told_in m (10 ∷ [])) a (g.met.T.Station.only_now a)
          (g.met.T.Station.counts_now a)))
          c.take.ensures.taken.found;
    })

-- what was replied
replies : (g : Over) (c : After-say g)
    → Responds c.args.self.now.held c.args.self.now.pending c.take.new.self.held c.in_ok-reply.reply
replies g c =
    takes-responds c.args.self.now.held c.take.new.self.held c.args.self.now.pending c.args.given c.in_ok-reply.reply
    c.requires.gives c.in_ok-reply.ensures.reply

-- and what is found, whether that was said or not
found : (g : Over) (c : After-say g) → FindsBehind g.T.Station c.args.self.now.end [] c.args.self.now.held
    c.args.self.now.number (cut_after c.args.self.now (10 ∷ [])).whole c.args.station.now c.say.new.station
found g c =
    let m = c.args.self.now in
    let a = c.args.station.now in
    let b = c.take.new.station in
    let x = c.say.new.station in
    let z = c.take.new.self in
    let r = c.in_ok-reply.reply in
    let taken = c.in_ok-reply.ensures.taken in
    let told = ap (λ (k : Moment). line_to_say k.number r) c.self.view_is in
    behind-of g.T.Station m.end [] m.held m.number (cut_after m (10 ∷ [])).whole a x
    (λ e. only-reply g.T.Station m z.held r _ a b x (replies g c) told (taken.still e) c.say.ensures.said.found)
    (in-said g.T.Station m z r _ a b x taken.found taken.log (replies g c) told taken.output.said
    c.say.ensures.said.found)

-- its reply was not said
pub returns-in_err-say-clause-says : goal.returns-in_err-say-clause-says
returns-in_err-say-clause-says g c =
    let r = c.in_ok-reply.reply in
    let here = (goal.at.returns-in_err-say-clause-says g c).After-say in
    let p = err_from_is_err_and c.from_residual-in_err-say.result c.from_residual-in_err-say.ensures.1 in
    rw (p.1, p.2)
    (text-line g.T.Station c.args.self.now c.take.new.self.held r c.args.station.now c.take.new.station
    c.say.new.station c.in_err-say.ensures.said (replies g here)
    (ap (λ (k : Moment). line_to_say k.number r) c.self.view_is) c.take.ensures.taken.output.said
    c.in_err-say.ensures.says)

pub returns-in_err-say-clause-answered : goal.returns-in_err-say-clause-answered
returns-in_err-say-clause-answered g c =
    let said = c.in_err-say.ensures.said in
    let p = err_from_is_err_and c.from_residual-in_err-say.result c.from_residual-in_err-say.ensures.1 in
    rw (p.1, p.2) (record {
      counted = said-counts g.T.Station c.args.station.now c.take.new.station c.say.new.station
          c.in_ok-reply.ensures.taken.counted said;
      plain = λ e is. said.plain is;
      written = λ is. absurd (said.plain is);
      log = tt;
      found = found g (goal.at.returns-in_err-say-clause-answered g c).After-say;
    })

-- all was done
pub returns-clause-says : goal.returns-clause-says
returns-clause-says g c =
    let r = c.in_ok-reply.reply in
    text-line g.T.Station c.args.self.now c.take.new.self.held r c.args.station.now c.take.new.station
    c.say.new.station c.in_ok-say.ensures.said (replies g (goal.at.returns-clause-says g c).After-say)
    (ap (λ (k : Moment). line_to_say k.number r) c.self.view_is) c.take.ensures.taken.output.said
    c.in_ok-say.ensures.says

pub returns-clause-answered : goal.returns-clause-answered
returns-clause-answered g c =
    let m = c.args.self.now in
    let z = c.take.new.self in
    let a = c.args.station.now in
    let x = c.say.new.station in
    let taken = c.in_ok-reply.ensures.taken in
    record {
      counted = stand-then g.T.Station a c.take.new.station x taken.counted c.in_ok-say.ensures.said.counted;
      plain = λ e is. cc;
      written = λ is. cc;
      log = stays-to g.T.Station m z c.next_line.new.self a x (ap (λ (k : Moment). k.held) c.next_line.ensures)
          (ap (λ (k : Moment). k.end) c.next_line.ensures)
          (stays-kept g.T.Station m z _ a c.take.new.station x taken.log c.say.ensures.said.found);
      found = found g (goal.at.returns-clause-answered g c).After-say;
    }
