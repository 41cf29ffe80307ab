-- The session opens with nothing read, beside the log.
use Rattle.std.proofs.Common.{◌≡◌, ℕ, List, Option, Some, refl, subst, sym, ap, ◌∙◌}
use Rattle.sz_outside.specs.declared.stations.Station.{Ghosts}
use Rattle.sz_feed.specs.Moments.{Moment}
use Rattle.sz_commands.specs.States.{SessionState, LogPlace, apart}
use Rattle.sz_commands.specs.Logged.{IsLogOf, end_of}
use Rattle.sz_feed.specs.Serving.{Answered}
use Rattle.sz_session.specs.Sessions.{opening_of, EndsSession}
use Rattle.sz_feed.specs.Running.{IsBeside, state_of_log}
use Rattle.sz_session.proofs.Ends.{asks}
use Rattle.sz_feed.proofs.Told.{none-in_lines}
use Rattle.sz_feed.proofs.Sources.{opened, answered-opened, all-still}
use Rattle.sz_session.specs.declared.serving.Status.TheVariants as status
use Rattle.sz_feed.proofs.Passes.{FindsNow, CountsNow}
use Rattle.sz_session.proofs.serving.run_on.Goals as goal

pub answer_all-status-requires : goal.answer_all-status-requires
answer_all-status-requires g c =
    let left = g.S.Source.left c.args.source.now in
    let said = g.T.Station.said c.args.station.now in
    let z = state_of_log c.args.recovered.catalogue c.args.recovered.stores.items in
    let P : Moment → Type 0 = λ m. Answered m.held left left said said m 0 in
    let L : Moment → Type 0 = λ m. IsBeside g.T.Station m c.args.station.now in
    let is : c.over-feed.result ≡ opened z (Some (end_of c.args.recovered)) =
    c.over-feed.ensures ∙ ap (λ (s : SessionState). opened (apart s) s.end) c.in-Ok-of_log.ensures.state in
    let same : said ≡ said = refl in
    λ κs lives. asks lives c.type_bounds.send-G c.type_bounds.sync-G c.type_bounds.sync-R
    (c.deref_mut.ensures.len ∙ c.in-Ok.ensures.len) c.requires.limit (ap (λ (m : Moment). m.number) is)
    (subst P (sym is) (answered-opened z (Some (end_of c.args.recovered)) left said)) (subst L (sym is) c.requires.log)
    same

-- where there was no memory nothing was done
still : {X : Type 0} (T : Ghosts X) (z : SessionState) (at : LogPlace) (limit : ℕ) (left : Option (List ℕ)) (reads : ℕ)
    (a : X) → IsLogOf T z.held at a → FindsNow T a → CountsNow T a
    → EndsSession T status.NoMemory limit (opening_of z left (T.said a)) (Some at) left reads reads a a
still {X} T z at limit left reads a log only counts = record {
  ends = none-in_lines z left (T.said a);
  counted = (refl, refl, refl);
  plain = λ e is. cc;
  written = λ is. cc;
  behind = λ is. cc;
  found = all-still T z at left a log only counts;
}

pub returns-in_default : goal.returns-in_default
returns-in_default g c =
    let z = state_of_log c.args.recovered.catalogue c.args.recovered.stores.items in
    let a = c.args.station.now in
    still g.T.Station z (end_of c.args.recovered) c.args.limit (g.S.Source.left c.args.source.now) _ a c.requires.log
    (g.met.T.Station.only_now a) (g.met.T.Station.counts_now a)

pub returns-in_default-of_log : goal.returns-in_default-of_log
returns-in_default-of_log g c =
    let z = state_of_log c.args.recovered.catalogue c.args.recovered.stores.items in
    let a = c.args.station.now in
    still g.T.Station z (end_of c.args.recovered) c.args.limit (g.S.Source.left c.args.source.now) _ a c.requires.log
    (g.met.T.Station.only_now a) (g.met.T.Station.counts_now a)

-- and else what the feed's session owes is owed of the log
pub returns : goal.returns
returns g c =
    let z = state_of_log c.args.recovered.catalogue c.args.recovered.stores.items in
    let left = g.S.Source.left c.args.source.now in
    let a = c.args.station.now in
    let is : c.over-feed.result ≡ opened z (Some (end_of c.args.recovered)) =
    c.over-feed.ensures ∙ ap (λ (s : SessionState). opened (apart s) s.end) c.in-Ok-of_log.ensures.state in
    let P : Moment → Type 0 = λ m. EndsSession g.T.Station c.answer_all-status.result c.args.limit
    (opening_of m.held left (g.T.Station.said a)) m.end (g.S.Source.left c.answer_all-status.new.source)
    (g.S.Source.faults c.args.source.now) (g.S.Source.faults c.answer_all-status.new.source) a
    c.answer_all-status.new.station in
    subst P is c.answer_all-status.ensures
