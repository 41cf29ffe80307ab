-- What is said is the text of the asks that wait.
use Rattle.std.proofs.Common.{◌≡◌, List, ℕ, ap, subst}
use Rattle.std.proofs.lemmas.Result.{err_from_is_err_and}
use Rattle.sz_outside.specs.Outside.{Says, SaysPart}
use Rattle.sz_commands.specs.Asks.{asks_text}
use Rattle.sz_feed.specs.Moments.{Moment}
use Rattle.sz_feed.specs.Disks.{OnlySays}
use Rattle.sz_feed.proofs.Calls.{said-none, said-halted}
use Rattle.sz_feed.proofs.Disks.{stays-said}
use Rattle.sz_feed.proofs.Waiting.{text-said}
use Rattle.sz_feed.proofs.feed.Feed.say_waiting.Given.{Over}
use Rattle.sz_feed.proofs.feed.Feed.say_waiting.Goals.{After-say}
use Rattle.sz_feed.proofs.feed.Feed.say_waiting.Goals as goal

pub returns-then-is_empty-clause-said : goal.returns-then-is_empty-clause-said
returns-then-is_empty-clause-said g c =
    let a = c.args.station.now in
    said-none g.T.Station _ _ a (g.met.T.Station.only_now a) (g.met.T.Station.counts_now a)

pub returns-in_err-replies-clause-said : goal.returns-in_err-replies-clause-said
returns-in_err-replies-clause-said g c =
    let a = c.args.station.now in
    let p = err_from_is_err_and c.from_residual.result c.from_residual.ensures.1 in
    rw (p.1, p.2) (said-halted g.T.Station _ a (g.met.T.Station.only_now a) (g.met.T.Station.counts_now a))

pub returns-in_err-text-clause-said : goal.returns-in_err-text-clause-said
returns-in_err-text-clause-said g c =
    let a = c.args.station.now in
    let p = err_from_is_err_and c.from_residual-in_err-text.result c.from_residual-in_err-text.ensures.1 in
    rw (p.1, p.2) (said-halted g.T.Station _ a (g.met.T.Station.only_now a) (g.met.T.Station.counts_now a))

-- what the station was given to say
text : (g : Over) (c : After-say g) → c.deref-4.result.now ≡ asks_text c.args.self.now.held c.args.waiting.now.items
text g c =
    text-said _ _ _ _ _ _ _ _ _ (ap (λ (m : Moment). m.held) c.self.view_is) c.deref.ensures.value
    c.deref-2.ensures.value c.deref-3.ensures.value c.in_ok-replies.ensures.replies c.in_ok-text.ensures
    c.deref-4.ensures.value

-- and all that it did
only : (g : Over) (c : After-say g) → OnlySays g.T.Station (asks_text c.args.self.now.held c.args.waiting.now.items)
    c.args.station.now c.say.new.self
only g c =
    subst (λ (told : List ℕ). OnlySays g.T.Station told c.args.station.now c.say.new.self) (text g c)
    (stays-said g.T.Station c.deref-4.result.now c.args.station.now c.say.new.self c.say.ensures.disk
    c.say.ensures.stops)

pub returns-in_err-say-clause-says : goal.returns-in_err-say-clause-says
returns-in_err-say-clause-says g c =
    let Q : List ℕ → Type 0 =
    λ told. SaysPart (g.T.Station.said c.args.station.now) (g.T.Station.said c.say.new.self) told in
    let p = err_from_is_err_and c.from_residual-in_err-say.result c.from_residual-in_err-say.ensures.1 in
    rw (p.1, p.2)
    (subst Q (text g (goal.at.returns-in_err-say-clause-says g c).After-say) c.in_err-say.ensures.part)

pub returns-in_err-say-clause-said : goal.returns-in_err-say-clause-said
returns-in_err-say-clause-said g c =
    let p = err_from_is_err_and c.from_residual-in_err-say.result c.from_residual-in_err-say.ensures.1 in
    rw (p.1, p.2) (record {
      counted = (c.in_err-say.ensures.failed, c.say.ensures.disk.1);
      plain = λ is. cc;
      found = only g (goal.at.returns-in_err-say-clause-said g c).After-say;
    })

pub returns-clause-says : goal.returns-clause-says
returns-clause-says g c =
    let Q : List ℕ → Type 0 =
    λ told. Says (g.T.Station.said c.args.station.now) (g.T.Station.said c.say.new.self) told in
    subst Q (text g (goal.at.returns-clause-says g c).After-say) c.in_ok-say.ensures.said

pub returns-clause-said : goal.returns-clause-said
returns-clause-said g c = record {
  counted = (c.in_ok-say.ensures.quiet, c.say.ensures.disk.1);
  plain = λ is. cc;
  found = only g (goal.at.returns-clause-said g c).After-say;
}
