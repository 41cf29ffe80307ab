-- The key idea: entries that are filed anew are under the rests of the same items.
use Rattle.std.proofs.Common.{◌∙◌, ap, length, arith}
use Rattle.sz_tables.specs.Tables.{SetsByNumber, spans_from}
use Rattle.sz_tables.proofs.Filing.{room-kept}
use Rattle.sz_tables.proofs.Numbered.{numbered-widened, sets-count}
use Rattle.sz_tables.proofs.Slices.{spans-count}
use Rattle.sz_tables.proofs.set_table.SetTable.reserve_sets.Goals as goal

pub invariant_of-self-in_err-widen : goal.invariant_of-self-in_err-widen
invariant_of-self-in_err-widen c =
    let kept = room-kept c.self.inside.ends.items _ _ _ _ _ _ c.reserve.ensures.items c.self.invariant.1
    (omega (arith, c.reserve.ensures.capacity)) c.self.invariant.2 (omega (arith, c.in_err-widen.ensures.err))
    c.self.invariant.3 in (
      (rw c.reserve.ensures.items (numbered-widened c.self.inside.shape c.self.inside.runs.items
          (spans_from 0 c.self.inside.ends.items) c.self.inside.index c.widen.new.self c.self.invariant.0
          c.widen.ensures.kept)),
      kept.0,
      kept.1,
      kept.2,
      rw c.reserve.ensures.items c.self.invariant.4,
      rw c.reserve.ensures.items c.self.invariant.5,
    )

pub invariant_of-self-2 : goal.invariant_of-self-2
invariant_of-self-2 c =
    let seen = ap (λ (t : SetsByNumber). length t.sets) c.self.view_is in
    let spans = spans_from 0 c.self.inside.ends.items in
    let count = sets-count c.self.inside.shape c.self.inside.runs.items spans
    ∙ spans-count 0 c.self.inside.ends.items in (
      (rw c.reserve.ensures.items (numbered-widened c.self.inside.shape c.self.inside.runs.items
          spans c.self.inside.index c.widen.new.self c.self.invariant.0 c.widen.ensures.kept)),
      rw c.reserve.ensures.items (record {
        few = omega (arith, c.requires, seen, count);
        room = omega (arith, c.in_ok-reserve.ensures.ok);
      }),
      c.in_ok-widen.ensures.ok,
      c.self.invariant.3,
      rw c.reserve.ensures.items c.self.invariant.4,
      rw c.reserve.ensures.items c.self.invariant.5,
    )
