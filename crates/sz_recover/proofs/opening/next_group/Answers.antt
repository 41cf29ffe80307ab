-- A whole group is read wholly, and ends behind its gate.
use Rattle.std.proofs.Common.{◌≡◌, ℕ, List, length, drop, sym, subst, ◌∙◌, arith}
use Rattle.sz_outside.specs.Disk.{GivesAt}
use Rattle.sz_log.specs.Places.{StandsAt, SpellsAt}
use Rattle.sz_log.specs.declared.groups.Group.{Group}
use Rattle.sz_log.specs.declared.groups.Group.TheVariants as group
use Rattle.sz_recover.specs.Logs.{IsEntryAt}
use Rattle.sz_recover.proofs.Opened.{not-bad, entry-there, front}
use Rattle.sz_recover.proofs.opening.next_group.Given.{Over}
use Rattle.sz_recover.proofs.opening.next_group.Goals.{In_ok-count-in-Whole}
use Rattle.sz_recover.proofs.opening.next_group.Goals as goal

-- the group stands at the place
stands : (g : Over) (c : In_ok-count-in-Whole g) → let w = c.in-Whole in
    StandsAt (g.T.Station.disk c.args.station.now) c.args.at (group.Whole w.kind w.place w.length w.next)
stands g c =
    subst (λ (x : Group). StandsAt (g.T.Station.disk c.args.station.now) c.args.at x) c.in-Whole.is
    c.in_ok-group_at.ensures.group

-- there is room for its body
room : (g : Over) (c : In_ok-count-in-Whole g) → length c.deref_mut.result.now ≡ c.in-Whole.length
room g c = c.deref_mut.ensures.len ∙ c.in-Ok.ensures.len

-- and so many bytes of it were read
gives : (g : Over) (c : In_ok-count-in-Whole g) → GivesAt (g.T.Station.disk c.group_at.new.station) c.in-Whole.place
    c.in-Whole.length c.read_at.new.into c.in_ok-count-in-Whole.count
gives g c =
    subst (λ (n : ℕ). GivesAt (g.T.Station.disk c.group_at.new.station) c.in-Whole.place n c.read_at.new.into
    c.in_ok-count-in-Whole.count) (room g c) c.in_ok-count-in-Whole.ensures.bytes

pub returns-then-count-len-clause-next : goal.returns-then-count-len-clause-next
returns-then-count-len-clause-next g c =
    let s = (goal.at.returns-then-count-len-clause-next g c).In_ok-count-in-Whole in
    let w = c.in-Whole in
    not-bad (g.T.Station.disk c.args.station.now) (g.T.Station.disk c.group_at.new.station) c.args.at w.kind w.place
    w.length w.next c.in_ok-count-in-Whole.count c.read_at.new.into c.group_at.ensures.disk (stands g s) (gives g s)
    (λ is. omega (arith, is, c.len.ensures, c.in-Ok.ensures.len, c.if-count-len.true))

pub returns-else-next-at-clause-next : goal.returns-else-next-at-clause-next
returns-else-next-at-clause-next g c =
    let s = (goal.at.returns-else-next-at-clause-next g c).In_ok-count-in-Whole in
    let o = g.T.Station.disk c.args.station.now in
    let p = g.T.Station.disk c.group_at.new.station in
    let w = c.in-Whole in
    let count = c.in_ok-count-in-Whole.count in
    let into = c.read_at.new.into in
    let body = c.in-Ok.body in
    let spelled : SpellsAt o c.args.at (group.Whole w.kind w.place w.length w.next) =
    subst (λ (x : Group). SpellsAt o c.args.at x) w.is c.in_ok-group_at.ensures.spelled in
    let size : length into ≡ w.length = c.read_at.auto.into ∙ room g s in
    let all : count ≡ w.length =
    omega (arith, c.len.ensures, c.in-Ok.ensures.len, c.if-count-len.false) in
    let long : length into ≡ body.len = size ∙ sym c.in-Ok.ensures.len in
    subst (λ (xs : List ℕ). IsEntryAt o c.args.at w.kind xs w.next)
    (sym (front into (drop (length into) body.items) body.len long))
    (entry-there o p c.args.at w.kind w.place w.length w.next count into c.group_at.ensures.disk (stands g s) spelled
    (gives g s) all size)
