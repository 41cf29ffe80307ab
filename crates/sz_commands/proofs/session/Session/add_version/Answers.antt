-- The body acts on what the log holds as the await does on what the session holds. A version that was awaited before
-- changes nothing that is durable.
use Rattle.std.proofs.Common.{◌≡◌, ℕ, List, Bool, Option, Some, sym, ap, ◌∙◌, subst}
use Rattle.std.specs.List.{AllZip}
use Rattle.sz_log.specs.Log.{LogGroup}
use Rattle.sz_script.specs.declared.command.Command.TheVariants as order
use Rattle.sz_catalogue.specs.Holdings.{Holdings}
use Rattle.sz_catalogue.specs.Responses.{Response}
use Rattle.sz_catalogue.specs.Rules.{version_of}
use Rattle.sz_catalogue.specs.Order.{IsInOrder}
use Rattle.sz_catalogue.specs.Changes.{with_await}
use Rattle.sz_recover.specs.Growing.{durable}
use Rattle.sz_versions.specs.Bodies.{IsSoundBody}
use Rattle.sz_versions.specs.Residents.{Stored, stored_in}
use Rattle.sz_commands.specs.States.{SessionState, LogPlace}
use Rattle.sz_commands.specs.Carrying.{IsFinishedIn, FinishesEntry}
use Rattle.sz_commands.specs.Logged.{KeepsLog, HasLog, StopsInLog, IsVersionGroup, Appends, place_of}
use Rattle.sz_commands.proofs.Appending.{group-added}
use Rattle.sz_commands.proofs.Lasting.{rests-keep, version-step, again-durable, left-held}
use Rattle.sz_commands.proofs.Logged.{still-stops, log-ends, ending, append-stops, append-keeps, IsStep}
use Rattle.sz_commands.proofs.Seen.{is-held}
use Rattle.sz_commands.proofs.session.Session.add_version.Given.{Over}
use Rattle.sz_commands.proofs.session.Session.add_version.Goals.{After-append}
use Rattle.sz_commands.proofs.session.Session.add_version.Goals as goal

-- where no call is made, a stop leaves the log
still : (g : Over) (s : SessionState) (n : ℕ) (x : g.row.T.Denot)
    → StopsInLog g.T.Station s.held s.end (with_await s.held n) x x
still g s n x =
    still-stops g.T.Station s.held (with_await s.held n) s.end x (g.met.T.Station.only_now x)
    (g.met.T.Station.counts_now x)

-- the group that is appended where the version was not awaited before: its body is sound, and is one step of the log
abbrev group-of : (g : Over) → After-append g → LogGroup
group-of g c = record { kind = c.version_kind.result; body = c.deref.result.now }

record IsFirst (g : Over) (c : After-append g) : Type 0 where
  pub held : c.self.inside.catalogue ≡ c.args.self.now.held
  pub sound : IsSoundBody c.args.log.format c.args.version (version_of c.args.self.now.held c.args.version)
      c.in_ok-body.body.items
  pub step : IsStep c.args.log.format c.args.self.now.held (with_await c.args.self.now.held c.args.version)
      (group-of g c)
  pub stops : StopsInLog g.T.Station c.args.self.now.held c.args.self.now.end
      (with_await c.args.self.now.held c.args.version) c.args.station.now c.append.new.station

first : (g : Over) (c : After-append g) → IsFirst g c
first g c =
    let s : SessionState = c.args.self.now in
    let n = c.args.version in
    let is : c.self.inside.catalogue ≡ s.held =
    ap (λ (x : SessionState). x.held) (c.self.view_is ∙ c.in_ok-run.ensures.same) in
    let off = sym c.is_awaited.ensures ∙ c.if-is_awaited.false in
    let sound =
    subst (λ (h : Holdings). IsSoundBody c.args.log.format n (version_of h n) c.in_ok-body.body.items) is
    c.in_ok-body.ensures in
    let step : IsStep c.args.log.format s.held (with_await s.held n) (group-of g c) =
    version-step c.args.log.format c.version_kind.result s.held n c.in_ok-body.body.items c.deref.result.now
    c.version_kind.ensures c.deref.ensures.value (subst IsInOrder is c.is_in_order.ensures)
    (is-held s.held n c.requires.judged) off sound in
    record {
      held = is;
      sound = sound;
      step = step;
      stops =
          append-stops g.T.Station s.held (with_await s.held n) s.end (place_of c.args.log) (group-of g c)
          c.args.station.now c.append.new.station c.requires.end step c.append.ensures.stops;
    }

pub returns-then-is_awaited-clause-log : goal.returns-then-is_awaited-clause-log
returns-then-is_awaited-clause-log g c =
    let s : SessionState = c.args.self.now in
    let t : SessionState = c.await_again.new.self in
    let n = c.args.version in
    let on = sym c.is_awaited.ensures ∙ c.if-is_awaited.true in
    let left = left-held s t (order.Await n) _ c.await_again.ensures in
    let place = ap (λ (p : SessionState × Response). p.0.end) (sym c.await_again.ensures) in
    let log =
    subst (λ (o : Option LogPlace). HasLog g.T.Station s.held o c.args.station.now) (sym c.requires.end) c.requires.log
    in
    rests-keep g.T.Station s t c.args.station.now log place
    (ap durable left ∙ again-durable s.held n (is-held s.held n c.requires.judged) on)

pub returns-then-is_awaited-clause-stops : goal.returns-then-is_awaited-clause-stops
returns-then-is_awaited-clause-stops g c = still g c.args.self.now c.args.version c.args.station.now

pub returns-in_err-run-clause-stops : goal.returns-in_err-run-clause-stops
returns-in_err-run-clause-stops g c = still g c.args.self.now c.args.version c.args.station.now

pub returns-in_err-body-clause-stops : goal.returns-in_err-body-clause-stops
returns-in_err-body-clause-stops g c = still g c.args.self.now c.args.version c.args.station.now

pub append-requires-clause-log : goal.append-requires-clause-log
append-requires-clause-log g c =
    log-ends g.T.Station c.args.self.now.held (place_of c.args.log) c.args.station.now c.requires.log

pub returns-in_err-next-clause-stops : goal.returns-in_err-next-clause-stops
returns-in_err-next-clause-stops g c = (first g (goal.at.returns-in_err-next-clause-stops g c).After-append).stops

pub returns-clause-log : goal.returns-clause-log
returns-clause-log g c =
    let s : SessionState = c.args.self.now in
    let t : SessionState = c.note_await.new.self in
    let n = c.args.version in
    let one = first g (goal.at.returns-clause-log g c).After-append in
    let left : t.held ≡ with_await s.held n =
    ap (λ (p : SessionState × Response). p.0.held) (sym c.note_await.ensures.reply)
    ∙ ap (λ (h : Holdings). with_await h n) one.held in
    let place : t.end ≡ Some (ending (place_of c.args.log) c.in_ok-next.next.at) = c.note_await.ensures.end in
    subst (λ (h : Holdings). KeepsLog g.T.Station s.held s.end h t.end c.args.station.now c.append.new.station)
    (sym left)
    (subst (λ (o : Option LogPlace). KeepsLog g.T.Station s.held s.end (with_await s.held n) o c.args.station.now
    c.append.new.station) (sym place)
    (append-keeps g.T.Station s.held (with_await s.held n) s.end (place_of c.args.log) c.in_ok-next.next.at
    (group-of g (goal.at.returns-clause-log g c).After-append) c.args.station.now c.append.new.station c.requires.end
    one.step c.in_ok-next.ensures.added c.in_ok-next.ensures.end c.in_ok-next.ensures.synced))

pub returns-clause-stops : goal.returns-clause-stops
returns-clause-stops g c = (first g (goal.at.returns-clause-stops g c).After-append).stops

pub returns-clause-appends : goal.returns-clause-appends
returns-clause-appends g c =
    let s : SessionState = c.args.self.now in
    let n = c.args.version in
    let here = (goal.at.returns-clause-appends g c).After-append in
    let place : c.note_await.new.self.end ≡ Some (ending (place_of c.args.log) c.in_ok-next.next.at) =
    c.note_await.ensures.end in
    let P : ℕ → LogGroup → Type 0 = IsVersionGroup s.held n in
    λ off. subst (λ (o : Option LogPlace). Appends g.T.Station P s.end o c.args.station.now c.append.new.station)
    (sym place)
    (group-added g.T.Station P s.end (place_of c.args.log) c.in_ok-next.next.at (group-of g here) c.args.station.now
    c.append.new.station c.requires.end (
      c.version_kind.ensures,
      subst (λ (body : List ℕ). IsSoundBody c.args.log.format n (version_of s.held n) body)
          (sym c.deref.ensures.value) (first g here).sound,
    )
    c.in_ok-next.ensures.added c.in_ok-next.ensures.end)

-- ---- what is kept of nodes

pub returns-then-is_awaited-clause-stored : goal.returns-then-is_awaited-clause-stored
returns-then-is_awaited-clause-stored g c =
    let s : SessionState = c.args.self.now in
    let t : SessionState = c.await_again.new.self in
    let on = sym c.is_awaited.ensures ∙ c.if-is_awaited.true in
    let same : t.stored ≡ s.stored = ap (λ (p : SessionState × Response). p.0.stored) (sym c.await_again.ensures) in
    subst (λ (b : Bool). FinishesEntry b c.args.version s.stored t.stored) (sym on) same

pub returns-clause-stored : goal.returns-clause-stored
returns-clause-stored g c =
    let s : SessionState = c.args.self.now in
    let t : SessionState = c.note_await.new.self in
    let n = c.args.version in
    let off = sym c.is_awaited.ensures ∙ c.if-is_awaited.false in
    let before : stored_in c.self.inside.runs ≡ s.stored =
    ap (λ (x : SessionState). x.stored) (c.self.view_is ∙ c.in_ok-run.ensures.same) in
    let by = subst (λ (es : List (ℕ × List Stored)). AllZip (IsFinishedIn n) es t.stored) before
    c.note_await.ensures.stored in
    subst (λ (b : Bool). FinishesEntry b n s.stored t.stored) (sym off) by
