-- Up to the gate all stays while the group is written behind it, and then the gate alone is torn.
use Rattle.std.proofs.Common.{◌≡◌, ◌≤◌, ◌+◌, ◌++◌, ◌∷◌, [], List, ℕ, Some, length, ap, ◌∙◌, subst, arith}
use Rattle.sz_outside.specs.Disk.{Passes, Said, written}
use Rattle.sz_log.specs.Log.{LogGroup, IsLogGroup, bytes_behind_gate}
use Rattle.sz_log.specs.Steps.{AddsOrKeeps, KeepsFront}
use Rattle.sz_log.proofs.Moments.{told, all_told, only_of}
use Rattle.sz_log.proofs.Tears.{staged, length-written, written-before}
use Rattle.sz_log.proofs.Appends.{inside, place_is, looks_first, as_log, opens, writes_told, added_told}
use Rattle.sz_log.proofs.appending.append.Given.{Over}
use Rattle.sz_log.proofs.appending.append.Goals.{After-stage, After-put, In_ok-next, In_ok-put}
use Rattle.sz_log.proofs.appending.append.Goals as goal

-- what is known once the group was written behind the gate, or was not, of a disk that is told
record IsBehind (g : Over) (c : After-stage g) (d : List ℕ) : Type 0 where
  pub disk : g.T.Station.disk c.size.new.self ≡ Some d
  pub inner : c.args.end.at + 1 ≤ length d
  pub next : c.saturating_add.result ≡ c.args.end.at + 1
  pub place : c.saturating_add.result ≤ length d
  pub log : Passes (g.T.Station.moment c.args.station.now) (g.T.Station.moment c.stage.new.station)
      (g.T.Station.left_since c.args.station.now) (g.T.Station.left_since c.stage.new.station)
      (g.T.Station.may_leave c.args.station.now) (g.T.Station.may_leave c.stage.new.station)
      (AddsOrKeeps c.args.end.at (record { kind = c.args.kind; body = c.args.body.now }))
      (Said (g.T.Station.said c.args.station.now))

is-behind : (g : Over) (c : After-stage g) (d : List ℕ) → g.T.Station.disk c.args.station.now ≡ Some d
    → IsBehind g c d
is-behind g c d is =
    let o = g.T.Station.disk c.args.station.now in
    let at = c.args.end.at in
    let is_1 = c.size.ensures.disk ∙ is in
    let inner = inside o d at is c.requires.log in
    let next : c.saturating_add.result ≡ at + 1 =
    place_is o d at c.in_ok-size.field-0 c.saturating_add.result is c.requires.log c.in_ok-size.ensures.size
    (omega arith) c.saturating_add.ensures in
    let place : c.saturating_add.result ≤ length d = omega (arith, next, inner) in
    record {
      disk = is_1;
      inner = inner;
      next = next;
      place = place;
      log =
          as_log at (record { kind = c.args.kind; body = c.args.body.now })
          (looks_first (g.T.Station.said c.args.station.now) (g.T.Station.said c.size.new.self) (at + 1)
          (told o d _ is c.size.ensures.stops)
          (subst (λ (n : ℕ). Passes (g.T.Station.moment c.size.new.self) (g.T.Station.moment c.stage.new.station)
          (g.T.Station.left_since c.size.new.self) (g.T.Station.left_since c.stage.new.station)
          (g.T.Station.may_leave c.size.new.self) (g.T.Station.may_leave c.stage.new.station)
          (KeepsFront n) (Said (g.T.Station.said c.size.new.self))) next (c.stage.ensures.stops d is_1 place))
          c.size.ensures.output.0);
    }

abbrev group-of : (g : Over) → In_ok-next g → LogGroup
group-of g c = record { kind = c.args.kind; body = c.args.body.now }

-- and where it was
record IsWrittenBehind (g : Over) (c : In_ok-next g) (d : List ℕ) : Type 0 where
  pub disk : g.T.Station.disk c.stage.new.station ≡ Some (staged d c.args.end.at (group-of g c))
  pub place : c.args.end.at ≤ length (staged d c.args.end.at (group-of g c))

is-written-behind : (g : Over) (c : In_ok-next g) (d : List ℕ) → g.T.Station.disk c.size.new.self ≡ Some d
    → c.args.end.at + 1 ≤ length d → c.saturating_add.result ≡ c.args.end.at + 1 → c.saturating_add.result ≤ length d
    → IsWrittenBehind g c d
is-written-behind g c d disk inner next place = record {
  disk =
      c.in_ok-next.ensures.written d disk place
      ∙ ap (λ (n : ℕ). Some (written d n (bytes_behind_gate (group-of g c) ++ 0 ∷ []))) next;
  place =
      omega (arith, length-written d (c.args.end.at + 1) (bytes_behind_gate (group-of g c) ++ 0 ∷ []) inner, inner);
}

-- the gate is opened, or torn
opened : (g : Over) (c : After-put g) (d : List ℕ) → g.T.Station.disk c.args.station.now ≡ Some d
    → Passes (g.T.Station.moment c.args.station.now) (g.T.Station.moment c.stage.new.station)
    (g.T.Station.left_since c.args.station.now) (g.T.Station.left_since c.stage.new.station)
    (g.T.Station.may_leave c.args.station.now) (g.T.Station.may_leave c.stage.new.station)
    (AddsOrKeeps c.args.end.at (record { kind = c.args.kind; body = c.args.body.now }))
    (Said (g.T.Station.said c.args.station.now))
    → g.T.Station.disk c.stage.new.station
    ≡ Some (staged d c.args.end.at (record { kind = c.args.kind; body = c.args.body.now }))
    → c.args.end.at ≤ length (staged d c.args.end.at (record { kind = c.args.kind; body = c.args.body.now }))
    → Passes (g.T.Station.moment c.args.station.now) (g.T.Station.moment c.put.new.station)
    (g.T.Station.left_since c.args.station.now) (g.T.Station.left_since c.put.new.station)
    (g.T.Station.may_leave c.args.station.now) (g.T.Station.may_leave c.put.new.station)
    (AddsOrKeeps c.args.end.at (record { kind = c.args.kind; body = c.args.body.now }))
    (Said (g.T.Station.said c.args.station.now))
opened g c d is log disk place =
    let o = g.T.Station.disk c.args.station.now in
    let at = c.args.end.at in
    let e : LogGroup = record { kind = c.args.kind; body = c.args.body.now } in
    let is_entry : IsLogGroup e = (c.requires.kind, omega (arith, c.in_ok-next.ensures.limit)) in
    opens (g.T.Station.said c.args.station.now) (g.T.Station.said c.stage.new.station) at e d is_entry
    (only_of o d (g.T.Station.may_leave c.args.station.now) is c.requires.synced)
    (only_of (g.T.Station.disk c.stage.new.station) (staged d at e) (g.T.Station.may_leave c.stage.new.station) disk
    c.in_ok-next.ensures.synced)
    log (c.put.ensures.stops (staged d at e) disk place) (c.stage.ensures.output.0 ∙ c.size.ensures.output.0)

-- the disk then, where the gate was opened
opened-disk : (g : Over) (c : In_ok-put g) (d : List ℕ) → c.args.end.at + 1 ≤ length d
    → g.T.Station.disk c.stage.new.station
    ≡ Some (staged d c.args.end.at (record { kind = c.args.kind; body = c.args.body.now }))
    → c.args.end.at ≤ length (staged d c.args.end.at (record { kind = c.args.kind; body = c.args.body.now }))
    → g.T.Station.disk c.put.new.station ≡ Some (written d c.args.end.at
    (1 ∷ (bytes_behind_gate (record { kind = c.args.kind; body = c.args.body.now }) ++ 0 ∷ [])))
opened-disk g c d inner disk place =
    let e : LogGroup = record { kind = c.args.kind; body = c.args.body.now } in
    c.in_ok-put.ensures.written (staged d c.args.end.at e) disk place
    ∙ ap (λ (l : List ℕ). Some l)
    (written-before d c.args.end.at 1 (bytes_behind_gate e ++ 0 ∷ []) (omega (arith, inner)))

pub returns-in_err-next-clause-stops : goal.returns-in_err-next-clause-stops
returns-in_err-next-clause-stops g c =
    all_told _ _ (λ d is. (is-behind g (goal.at.returns-in_err-next-clause-stops g c).After-stage d is).log)

pub returns-in_err-put-clause-stops : goal.returns-in_err-put-clause-stops
returns-in_err-put-clause-stops g c = all_told _ _ (λ d is.
    let s = goal.at.returns-in_err-put-clause-stops g c in
    let behind = is-behind g s.After-stage d is in
    let two = is-written-behind g s.In_ok-next d behind.disk behind.inner behind.next behind.place in
    opened g s.After-put d is behind.log two.disk two.place)

pub returns-clause-stops : goal.returns-clause-stops
returns-clause-stops g c = all_told _ _ (λ d is.
    let s = goal.at.returns-clause-stops g c in
    let behind = is-behind g s.After-stage d is in
    let two = is-written-behind g s.In_ok-next d behind.disk behind.inner behind.next behind.place in
    opened g s.After-put d is behind.log two.disk two.place)

pub returns-clause-end : goal.returns-clause-end
returns-clause-end g c = all_told _ _ (λ d is.
    let behind = is-behind g (goal.at.returns-clause-end g c).After-stage d is in
    omega (arith, behind.next, c.in_ok-next.ensures.gate d behind.disk behind.place))

pub returns-clause-written : goal.returns-clause-written
returns-clause-written g c = writes_told _ _ _ _ (λ d is.
    let s = goal.at.returns-clause-written g c in
    let behind = is-behind g s.After-stage d is in
    let two = is-written-behind g s.In_ok-next d behind.disk behind.inner behind.next behind.place in
    opened-disk g c d behind.inner two.disk two.place)
    (λ is. c.in_ok-put.ensures.untold (c.in_ok-next.ensures.untold (c.size.ensures.disk ∙ is)))

pub returns-clause-added : goal.returns-clause-added
returns-clause-added g c = added_told _ _ _ _ (c.requires.kind, omega (arith, c.in_ok-next.ensures.limit)) (λ d is.
    let s = goal.at.returns-clause-added g c in
    let behind = is-behind g s.After-stage d is in
    let two = is-written-behind g s.In_ok-next d behind.disk behind.inner behind.next behind.place in
    opened-disk g c d behind.inner two.disk two.place)
    (λ is. c.in_ok-put.ensures.untold (c.in_ok-next.ensures.untold (c.size.ensures.disk ∙ is)))
