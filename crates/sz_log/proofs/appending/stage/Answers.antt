-- The front stays in each of the writes, and the three together are one.
use Rattle.std.proofs.Common.{◌≡◌, ◌≤◌, ◌+◌, ◌++◌, ◌∷◌, [], List, ℕ, Option, Some, length, sym, ap}
use Rattle.std.proofs.Common.{◌∙◌, arith, length-append}
use Rattle.sz_outside.specs.Calls.{Steps}
use Rattle.sz_outside.specs.Disk.{written}
use Rattle.sz_log.specs.Steps.{KeepsFront}
use Rattle.sz_log.proofs.Moments.{keeps_first, keeps_write, told, writes_of}
use Rattle.sz_log.proofs.Tears.{length-written, written-both}
use Rattle.sz_log.proofs.appending.stage.Given.{Over}
use Rattle.sz_log.proofs.appending.stage.Goals.{After-write_at, In_ok-write_at, After-put}
use Rattle.sz_log.proofs.appending.stage.Goals as goal

-- the head stands at its place, and has nine bytes
record IsHeaded (disk : Option (List ℕ)) (d head : List ℕ) (at : ℕ) : Type 0 where
  pub nine : length head ≡ 9
  pub is : disk ≡ Some (written d at head)
  pub place : at + 9 ≤ length (written d at head)

is-headed : (g : Over) (c : In_ok-write_at g) (d : List ℕ) → g.T.Station.disk c.args.station.now ≡ Some d
    → c.args.at ≤ length d → IsHeaded (g.T.Station.disk c.write_at.new.self) d c.head_of.result c.args.at
is-headed g c d is le =
    let nine : length c.head_of.result ≡ 9 = ap length c.head_of.ensures in
    record {
      nine = nine;
      is =
          writes_of (g.T.Station.disk c.args.station.now) (g.T.Station.disk c.write_at.new.self) d c.args.at
          c.head_of.result is c.in_ok-write_at.ensures.written;
      place = omega (arith, nine, length-written d c.args.at c.head_of.result le);
    }

-- the body stands behind it
record IsFilled (disk : Option (List ℕ)) (one body : List ℕ) (at gate : ℕ) : Type 0 where
  pub is : disk ≡ Some (written one (at + 9) body)
  pub behind : gate ≡ at + 9 + length body
  pub place : gate ≤ length (written one (at + 9) body)

is-filled : {disk new : Option (List ℕ)} {one : List ℕ} (body : List ℕ) (at gate : ℕ) → disk ≡ Some one
    → at + 9 ≤ length one
    → ((d : List ℕ) → disk ≡ Some d → at + 9 ≤ length d → new ≡ Some (written d (at + 9) body))
    → ((d : List ℕ) → disk ≡ Some d → at + 9 ≤ length d → gate ≡ at + 9 + length body)
    → IsFilled new one body at gate
is-filled {disk} {new} {one} body at gate is place wrote behind = record {
  is = wrote one is place;
  behind = behind one is place;
  place = omega (arith, behind one is place, length-written one (at + 9) body place);
}

-- what a stop leaves has the old front
abbrev Keeps : (g : Over) → ℕ → g.row.T.Denot → g.row.T.Denot → Type 0
Keeps g at old new =
    Steps g.T.Station.moment g.T.Station.left_since g.T.Station.may_leave g.T.Station.said old new (KeepsFront at)

-- so it is within the first write or behind it
first : (g : Over) (c : After-write_at g) (d : List ℕ) → g.T.Station.disk c.args.station.now ≡ Some d
    → Keeps g c.args.at c.args.station.now c.write_at.new.self
first g c d is =
    keeps_first c.args.at c.args.at (length c.head_of.result)
    (told (g.T.Station.disk c.args.station.now) d _ is c.write_at.ensures.stops) (omega arith)

-- and it is at the end of all three, and within the last
third : (g : Over) (c : After-put g) (d : List ℕ)
    → IsHeaded (g.T.Station.disk c.write_at.new.self) d c.head_of.result c.args.at
    → Keeps g c.args.at c.args.station.now c.write_at.new.self → Keeps g c.args.at c.args.station.now c.put.new.station
third g c d headed one =
    let filled = is-filled c.args.body.now c.args.at c.in_ok-gate.gate headed.is headed.place
    c.in_ok-gate.ensures.written c.in_ok-gate.ensures.behind in
    let two = keeps_write (g.T.Station.said c.args.station.now) (g.T.Station.said c.write_at.new.self) c.args.at
    (c.args.at + 9) (length c.args.body.now) one
    (c.write.ensures.stops (written d c.args.at c.head_of.result) headed.is headed.place)
    c.write_at.ensures.output.0 (omega arith) in
    keeps_write (g.T.Station.said c.args.station.now) (g.T.Station.said c.write.new.station) c.args.at
    c.in_ok-gate.gate 1 two
    (c.put.ensures.stops (written (written d c.args.at c.head_of.result) (c.args.at + 9) c.args.body.now) filled.is
    filled.place)
    (c.write.ensures.output.0 ∙ c.write_at.ensures.output.0) (omega (arith, filled.behind))

pub returns-in_err-write_at-clause-stops : goal.returns-in_err-write_at-clause-stops
returns-in_err-write_at-clause-stops g c = λ d is le.
    first g (goal.at.returns-in_err-write_at-clause-stops g c).After-write_at d is

pub returns-in_err-gate-clause-stops : goal.returns-in_err-gate-clause-stops
returns-in_err-gate-clause-stops g c = λ d is le.
    let s = goal.at.returns-in_err-gate-clause-stops g c in
    let headed = is-headed g s.In_ok-write_at d is le in
    keeps_write (g.T.Station.said c.args.station.now) (g.T.Station.said c.write_at.new.self) c.args.at (c.args.at + 9)
    (length c.args.body.now) (first g s.After-write_at d is)
    (c.write.ensures.stops (written d c.args.at c.head_of.result) headed.is headed.place)
    c.write_at.ensures.output.0 (omega arith)

pub returns-in_err-put-clause-stops : goal.returns-in_err-put-clause-stops
returns-in_err-put-clause-stops g c = λ d is le.
    let s = goal.at.returns-in_err-put-clause-stops g c in
    third g s.After-put d (is-headed g s.In_ok-write_at d is le) (first g s.After-write_at d is)

pub returns-clause-stops : goal.returns-clause-stops
returns-clause-stops g c = λ d is le.
    let s = goal.at.returns-clause-stops g c in
    third g s.After-put d (is-headed g s.In_ok-write_at d is le) (first g s.After-write_at d is)

pub returns-clause-gate : goal.returns-clause-gate
returns-clause-gate g c = λ d is le.
    let s = goal.at.returns-clause-gate g c in
    let headed = is-headed g s.In_ok-write_at d is le in
    c.in_ok-gate.ensures.behind (written d c.args.at c.head_of.result) headed.is headed.place

pub returns-clause-written : goal.returns-clause-written
returns-clause-written g c = λ d is le.
    let s = goal.at.returns-clause-written g c in
    let at = c.args.at in
    let head = c.head_of.result in
    let body = c.args.body.now in
    let headed = is-headed g s.In_ok-write_at d is le in
    let filled = is-filled body at c.in_ok-gate.gate headed.is headed.place c.in_ok-gate.ensures.written
    c.in_ok-gate.ensures.behind in
    let mid = written (written d at head) (at + 9) body in
    let both : mid ≡ written d at (head ++ body) =
    ap (λ (n : ℕ). written (written d at head) (at + n) body) (sym headed.nine) ∙ written-both d at head body le in
    let gate : c.in_ok-gate.gate ≡ at + length (head ++ body) =
    omega (arith, headed.nine, filled.behind, length-append head body) in
    let all : written mid c.in_ok-gate.gate (0 ∷ []) ≡ written d at (head ++ body ++ 0 ∷ []) =
    ap (λ (l : List ℕ). written l c.in_ok-gate.gate (0 ∷ [])) both
    ∙ ap (λ (n : ℕ). written (written d at (head ++ body)) n (0 ∷ [])) gate
    ∙ written-both d at (head ++ body) (0 ∷ []) le in
    c.in_ok-put.ensures.written mid filled.is filled.place ∙ ap (λ (l : List ℕ). Some l) all
    ∙ ap (λ (l : List ℕ). Some (written d at (l ++ body ++ 0 ∷ []))) c.head_of.ensures
