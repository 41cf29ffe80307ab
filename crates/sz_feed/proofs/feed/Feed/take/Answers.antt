-- The line was taken by the session, or not.
use Rattle.std.proofs.Common.{◌≡◌, [], ◌∷◌, None, ap, sym, ◌∙◌, subst}
use Rattle.std.specs.Prelude.{Option}
use Rattle.std.proofs.lemmas.Result.{err_from_is_err_and}
use Rattle.sz_catalogue.specs.declared.reply.Reply.{Reply}
use Rattle.sz_commands.specs.Logged.{KeepsLog, held_after, makes_durable}
use Rattle.sz_commands.proofs.Faults.{counts-silent}
use Rattle.sz_feed.specs.Moments.{Moment}
use Rattle.sz_feed.specs.Running.{FindsIn}
use Rattle.sz_feed.proofs.Beside.{in-taken, stops-none}
use Rattle.sz_feed.proofs.Calls.{counts-halt, stop-disk, stop-no_say}
use Rattle.sz_feed.proofs.feed.Feed.take.Given.{Over}
use Rattle.sz_feed.proofs.feed.Feed.take.Goals.{After-take_on}
use Rattle.sz_feed.proofs.feed.Feed.take.Goals as goal

-- with no log nothing was done, whether the line was taken or not
still : (g : Over) (c : After-take_on g) → c.args.self.now.end ≡ None → c.take_on.new.station ≡ c.args.station.now
still g c e =
    let s = c.self.inside.session in
    stops-none g.T.Station s.held (held_after s c.deref.result.now) s.end c.args.station.now c.take_on.new.station
    c.take_on.ensures.stops (ap (λ (m : Moment). m.end) c.self.view_is ∙ e)

-- and beside a log so much is found
found : (g : Over) (c : After-take_on g) → FindsIn g.T.Station c.args.self.now (10 ∷ []) c.args.station.now
    c.take_on.new.station
found g c =
    in-taken g.T.Station c.self.inside.session c.self.inside.pending.items c.deref.result.now c.self.inside.number
    c.args.self.now c.args.station.now c.take_on.new.station c.self.view_is c.deref.ensures.value c.requires.log
    c.take_on.ensures.stops

pub returns-in_err-reply-clause-taken : goal.returns-in_err-reply-clause-taken
returns-in_err-reply-clause-taken g c =
    let s = c.self.inside.session in
    let a = c.args.station.now in
    let b = c.take_on.new.station in
    let here = (goal.at.returns-in_err-reply-clause-taken g c).After-take_on in
    let p = err_from_is_err_and c.from_residual.result c.from_residual.ensures.1 in
    let same = ap (λ (m : Moment). makes_durable m.held.held m.pending) c.self.view_is in
    rw (p.1, p.2) (record {
      counted = counts-halt (Option Reply) g.T.Station c.take_on.result _ a b c.in_err-reply.was
          c.take_on.ensures.counted;
      output = record {
        said = c.take_on.ensures.output;
        quiet = counts-silent g.T.Station c.take_on.result a b c.take_on.ensures.counted;
      };
      silent = stop-no_say (Option Reply) c.take_on.result _ c.in_err-reply.was;
      still = still g here;
      plain = λ e is. c.take_on.ensures.plain (ap (λ (m : Moment). m.end) c.self.view_is ∙ e)
          (stop-disk (Option Reply) c.take_on.result _ c.in_err-reply.was is);
      written = λ is. sym same ∙ ap (makes_durable s.held) (sym c.deref.ensures.value)
          ∙ c.take_on.ensures.written (stop-disk (Option Reply) c.take_on.result _ c.in_err-reply.was is);
      log = tt;
      found = found g here;
    })

pub returns-clause-taken : goal.returns-clause-taken
returns-clause-taken g c =
    let z = c.take_on.new.self in
    let here = (goal.at.returns-clause-taken g c).After-take_on in
    let K : Moment → Type 0 =
    λ m. KeepsLog g.T.Station m.held.held m.end z.held z.end c.args.station.now c.take_on.new.station in
    record {
      counted = c.in_ok-reply.ensures.counted;
      output = record { said = c.take_on.ensures.output; quiet = c.in_ok-reply.ensures.counted.0 };
      silent = λ is. cc;
      still = still g here;
      plain = λ e is. cc;
      written = λ is. cc;
      log = subst K c.self.view_is c.in_ok-reply.ensures.log;
      found = found g here;
    }
