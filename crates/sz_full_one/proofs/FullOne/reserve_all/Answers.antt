-- The room is taken last, so that after a failure there is none, and what is filed stays.
use Rattle.std.proofs.Common.{◌≡◌, ◌≤◌, length, ap, arith}
use Rattle.std.specs.Arc.{arc_value}
use Rattle.sz_tables.specs.Rows.{RowTable}
use Rattle.sz_full_one.proofs.KeptRoom.{kept-with, kept-without}
use Rattle.sz_full_one.proofs.FullOne.reserve_all.Goals as goal

pub invariant_of-self : goal.invariant_of-self
invariant_of-self c =
    let at = c.self.inside in
    kept-without (arc_value at.at) at.table c.reserve.new.self at.index at.index _ _ _ _ c.self.invariant
    c.reserve.ensures.kept (λ is. is)

pub invariant_of-self-in_err-reserve-2 : goal.invariant_of-self-in_err-reserve-2
invariant_of-self-in_err-reserve-2 c =
    let at = c.self.inside in
    kept-without (arc_value at.at) at.table c.reserve.new.self at.index c.reserve-2.new.self _ _ _ _ c.self.invariant
    c.reserve.ensures.kept (c.reserve-2.ensures.index c.reserve.new.self)

pub invariant_of-self-2 : goal.invariant_of-self-2
invariant_of-self-2 c =
    let at = c.self.inside in
    let rows = ap (λ (t : RowTable). t.spare_rows) c.in_ok-reserve.ensures.ok in
    kept-with (arc_value at.at) at.table c.reserve.new.self at.index c.reserve-2.new.self _ _ _ _ _ _ c.self.invariant
    c.reserve.ensures.kept (c.reserve-2.ensures.index c.reserve.new.self) (omega (arith, rows))
    c.in_ok-reserve-2.ensures.room
