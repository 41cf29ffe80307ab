-- The line of the array acts on what the log holds as the refresh does on what the session holds: of that nothing more
-- is durable, since the version was not awaited.
use Rattle.std.proofs.Common.{◌≡◌, ℕ, List, Some, Ok, true, false, refl, sym, ap, ◌∙◌, subst}
use Rattle.std.specs.Prelude.{None}
use Rattle.std.specs.Arc.{arc_value}
use Rattle.sz_log.specs.Log.{LogGroup}
use Rattle.sz_spec.specs.Values.{Grid}
use Rattle.sz_script.specs.Reading.{reading}
use Rattle.sz_script.specs.declared.command.Command.{Command}
use Rattle.sz_script.specs.declared.command.Command.TheVariants as order
use Rattle.sz_script.specs.declared.command.NewCell.{NewCell}
use Rattle.sz_writing.specs.Orders.{array_order}
use Rattle.sz_catalogue.specs.Holdings.{Holdings}
use Rattle.sz_catalogue.specs.Rules.{judged, version_of, has_no_version}
use Rattle.sz_catalogue.specs.Refreshes.{base_at, has_input, array_refreshed}
use Rattle.sz_catalogue.specs.Changes.{with_refreshed}
use Rattle.sz_catalogue.specs.Seen.{response_of}
use Rattle.sz_versions.proofs.Refreshes.{can-refresh}
use Rattle.sz_commands.specs.States.{SessionState, apart}
use Rattle.sz_commands.specs.Carrying.{AddsEntry}
use Rattle.sz_commands.specs.Refreshing.{IsMadeBy}
use Rattle.sz_commands.specs.Logged.{KeepsLog, StopsInLog, IsArrayGroup, place_of}
use Rattle.sz_commands.proofs.Appending.{group-added}
use Rattle.sz_commands.proofs.Lasting.{left-apart, array-step}
use Rattle.sz_commands.proofs.Logged.{still-stops, log-ends, ending, append-stops, append-keeps, IsStep}
use Rattle.sz_commands.proofs.session.Session.add_refreshed.Given.{Over}
use Rattle.sz_commands.proofs.session.Session.add_refreshed.Goals.{After-append}
use Rattle.sz_commands.proofs.session.Session.add_refreshed.Goals as goal

-- what is held behind a refresh
abbrev refreshed_in : Holdings → ℕ → ℕ → List NewCell → Holdings
refreshed_in c n i set = with_refreshed c n i (array_refreshed (version_of c n) i set)

-- where no call is made, a stop leaves the log
still : (g : Over) (s : SessionState) (n i : ℕ) (set : List NewCell) (x : g.row.T.Denot)
    → StopsInLog g.T.Station s.held s.end (refreshed_in s.held n i set) x x
still g s n i set x =
    still-stops g.T.Station s.held (refreshed_in s.held n i set) s.end x (g.met.T.Station.only_now x)
    (g.met.T.Station.counts_now x)

-- the group that is appended: it is read as the command to hold the array that the refresh makes, and is one step of
-- the log
abbrev group-of : (g : Over) → After-append g → LogGroup
group-of g c = record { kind = 1; body = c.deref-2.result.now }

record IsAdded (g : Over) (c : After-append g) : Type 0 where
  pub group : IsArrayGroup c.args.self.now.held c.args.version c.args.input c.args.set.now (group-of g c)
  pub step : IsStep c.args.log.format c.args.self.now.held
      (refreshed_in c.args.self.now.held c.args.version c.args.input c.args.set.now) (group-of g c)
  pub stops : StopsInLog g.T.Station c.args.self.now.held c.args.self.now.end
      (refreshed_in c.args.self.now.held c.args.version c.args.input c.args.set.now) c.args.station.now
      c.append.new.station

reads : (g : Over) (c : After-append g)
    → reading c.deref-2.result.now
    ≡ Ok (array_order (base_at (version_of c.args.self.now.held c.args.version) c.args.input).name
    (array_refreshed (version_of c.args.self.now.held c.args.version) c.args.input c.args.set.now))
reads g c =
    let name = (base_at (version_of c.args.self.now.held c.args.version) c.args.input).name in
    ap reading c.deref-2.ensures.value
    ∙ (rw c.in_ok-made.ensures.same at c.in_ok-line.ensures
    ∙ ap (λ (a : Grid). Ok (array_order name a)) (c.deref.ensures ∙ c.in_ok-made.ensures.made.array_is))

is-added : (g : Over) (c : After-append g) → IsAdded g c
is-added g c =
    let held = c.args.self.now.held in
    let d = refreshed_in held c.args.version c.args.input c.args.set.now in
    let step : IsStep c.args.log.format held d (group-of g c) =
    array-step c.args.log.format held c.args.version c.args.input c.args.set.now c.deref-2.result.now c.requires.judged
    (reads g c) in
    record {
      group = record { kind = refl; reads = reads g c };
      step = step;
      stops =
          append-stops g.T.Station held d c.args.self.now.end (place_of c.args.log) (group-of g c)
          c.args.station.now c.append.new.station c.requires.end step c.append.ensures.stops;
    }

pub line_for-requires-clause-there : goal.line_for-requires-clause-there
line_for-requires-clause-there g c =
    subst (λ (s : SessionState). has_no_version s.held c.args.version ≡ false) (sym c.in_ok-made.ensures.same)
    (can-refresh c.args.self.now.held c.args.version c.args.input c.args.set.now c.requires.judged).held

pub line_for-requires-clause-input : goal.line_for-requires-clause-input
line_for-requires-clause-input g c =
    subst (λ (s : SessionState). has_input (version_of s.held c.args.version) c.args.input ≡ true)
    (sym c.in_ok-made.ensures.same)
    (can-refresh c.args.self.now.held c.args.version c.args.input c.args.set.now c.requires.judged).input

pub returns-in_err-made-clause-stops : goal.returns-in_err-made-clause-stops
returns-in_err-made-clause-stops g c =
    still g c.args.self.now c.args.version c.args.input c.args.set.now c.args.station.now

pub returns-in_err-line-clause-stops : goal.returns-in_err-line-clause-stops
returns-in_err-line-clause-stops g c =
    still g c.args.self.now c.args.version c.args.input c.args.set.now c.args.station.now

pub returns-in_err-reply-clause-stops : goal.returns-in_err-reply-clause-stops
returns-in_err-reply-clause-stops g c =
    still g c.args.self.now c.args.version c.args.input c.args.set.now c.args.station.now

pub append-requires-clause-log : goal.append-requires-clause-log
append-requires-clause-log g c =
    log-ends g.T.Station c.args.self.now.held (place_of c.args.log) c.args.station.now c.requires.log

pub returns-in_err-next-clause-stops : goal.returns-in_err-next-clause-stops
returns-in_err-next-clause-stops g c = (is-added g (goal.at.returns-in_err-next-clause-stops g c).After-append).stops

pub returns-clause-log : goal.returns-clause-log
returns-clause-log g c =
    let s : SessionState = c.args.self.now in
    let set : Command = order.Refresh c.args.version c.args.input c.args.set.now in
    let here = (goal.at.returns-clause-log g c).After-append in
    let left = ap (λ (x : SessionState). x.held) c.self.view_is
    ∙ left-apart s c.hold_refreshed.new.self set _ (rw c.in_ok-made.ensures.same at c.in_ok-reply.ensures.reply) in
    let L : Holdings → Type 0 = λ h.
    KeepsLog g.T.Station s.held s.end h (Some (ending (place_of c.args.log) c.in_ok-next.next.at)) c.args.station.now
    c.append.new.station in
    subst L (sym left)
    (append-keeps g.T.Station s.held (refreshed_in s.held c.args.version c.args.input c.args.set.now) s.end
    (place_of c.args.log) c.in_ok-next.next.at (group-of g here) c.args.station.now c.append.new.station
    c.requires.end (is-added g here).step c.in_ok-next.ensures.added c.in_ok-next.ensures.end
    c.in_ok-next.ensures.synced)

pub returns-clause-stops : goal.returns-clause-stops
returns-clause-stops g c = (is-added g (goal.at.returns-clause-stops g c).After-append).stops

pub returns-clause-appends : goal.returns-clause-appends
returns-clause-appends g c =
    let here = (goal.at.returns-clause-appends g c).After-append in
    group-added g.T.Station
    (λ format. IsArrayGroup c.args.self.now.held c.args.version c.args.input c.args.set.now) c.args.self.now.end
    (place_of c.args.log) c.in_ok-next.next.at (group-of g here) c.args.station.now c.append.new.station c.requires.end
    (is-added g here).group c.in_ok-next.ensures.added c.in_ok-next.ensures.end

pub returns-clause-reply : goal.returns-clause-reply
returns-clause-reply g c =
    (rw c.in_ok-made.ensures.same at c.in_ok-reply.ensures.reply)
    ∙ ap (λ (s : SessionState). (apart s, response_of c.in_ok-reply.reply)) (sym c.self.view_is)

pub returns-clause-stored : goal.returns-clause-stored
returns-clause-stored g c =
    let s : SessionState = c.args.self.now in
    subst (λ (t : SessionState). AddsEntry s.held s.stored t.stored) (sym c.self.view_is)
    (rw c.in_ok-made.ensures.same at c.in_ok-reply.ensures.stored)

-- ---- what the refresh is held on

pub hold_refreshed-requires-clause-judged : goal.hold_refreshed-requires-clause-judged
hold_refreshed-requires-clause-judged g c =
    subst (λ (s : SessionState). judged s.held (order.Refresh c.args.version c.args.input c.args.set.now) ≡ None)
    (sym c.in_ok-made.ensures.same) c.requires.judged

pub hold_refreshed-requires-clause-made : goal.hold_refreshed-requires-clause-made
hold_refreshed-requires-clause-made g c =
    let made = c.in_ok-made.made in
    subst (λ (s : SessionState). IsMadeBy s.held c.args.version c.args.input c.args.set.now (arc_value made.array)
    made.run made.cells) (sym c.in_ok-made.ensures.same) c.in_ok-made.ensures.made
