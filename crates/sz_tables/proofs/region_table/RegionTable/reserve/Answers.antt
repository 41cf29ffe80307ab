-- The key idea: while room is made, the table is sound with the room that it had; and once each list has more, with
-- that.
use Rattle.std.proofs.Common.{◌≡◌, ◌≤◌, length, ap, arith}
use Rattle.std.proofs.lemmas.List.{with_items_is, length-map}
use Rattle.sz_tables.specs.Tables.{SetsByNumber}
use Rattle.sz_tables.proofs.Rows.{sound-reserved, rows-length}
use Rattle.sz_tables.proofs.FirstCells.{pairs-kept}
use Rattle.sz_tables.proofs.region_table.RegionTable.reserve.Goals as goal
use Rattle.sz_tables.proofs.region_table.RegionTable.reserve.Goals.{After-reserve}

-- there are two inputs at most
inputs : (c : After-reserve) → length c.self.inside.ins.items ≤ 2
inputs c =
    let many = length-map c.self.inside.ins.items (λ (s : SetsByNumber). s.extent) in
    rw many at (rw (← c.self.view_is) at c.requires.inputs)

pub invariant_of-self-in_err-reserve_each : goal.invariant_of-self-in_err-reserve_each
invariant_of-self-in_err-reserve_each c =
    let t = c.self.inside in
    let rows = c.self.invariant.0.in_room in
    let room = c.self.invariant.0.out_room in
    let more = c.reserve-2.ensures.grown in
    rw (with_items_is t.ins c.reserve_each.new.tables (omega (arith, t.ins.ok.0)), c.reserve.ensures.items) (
      sound-reserved t.outs c.reserve-2.new.self t.ins.items c.reserve_each.new.tables t.names.items t.count
          t.spare_rows t.spare_runs _ t.spare_rows t.spare_runs _ c.self.invariant.0
          (ap (λ (s : SetsByNumber). s.sets) c.reserve-2.ensures.kept)
          (rw c.deref_mut.ensures.value at c.reserve_each.ensures.extents)
          (rw c.deref_mut.ensures.value at c.reserve_each.ensures.sets)
          (omega (arith, c.self.invariant.0.few))
          (inputs (goal.at.invariant_of-self-in_err-reserve_each c).After-reserve)
          (omega (arith, c.reserve.ensures.capacity, c.self.invariant.0.room))
          (record { for_sets = omega (arith, more.0, room.for_sets); for_runs = omega (arith, more.1, room.for_runs) })
          (c.reserve_each.ensures.kept t.spare_rows t.spare_runs (rw c.deref_mut.ensures.value rows)),
      λ named.
          pairs-kept t.outs c.reserve-2.new.self t.ins.items c.reserve_each.new.tables t.names.items t.count
          (ap (λ (s : SetsByNumber). s.sets) c.reserve-2.ensures.kept)
          (rw c.deref_mut.ensures.value at c.reserve_each.ensures.sets) (c.self.invariant.1 named),
    )

pub invariant_of-self-2 : goal.invariant_of-self-2
invariant_of-self-2 c =
    let t = c.self.inside in
    let same : c.len.result ≡ length t.ins.items = omega (arith, t.ins.ok.0, c.len.ensures) in
    let room = rw same at c.in_ok-reserve.ensures.ok in
    let rows = rw (← c.self.view_is, rows-length (length t.ins.items) t.count t.names.items) at c.requires.few in
    rw (with_items_is t.ins c.reserve_each.new.tables (omega (arith, t.ins.ok.0)), c.reserve.ensures.items) (
      sound-reserved t.outs c.reserve-2.new.self t.ins.items c.reserve_each.new.tables t.names.items t.count
          t.spare_rows t.spare_runs _ c.max-rows.result c.max-runs.result _ c.self.invariant.0
          (ap (λ (s : SetsByNumber). s.sets) c.reserve-2.ensures.kept)
          (rw c.deref_mut.ensures.value at c.reserve_each.ensures.extents)
          (rw c.deref_mut.ensures.value at c.reserve_each.ensures.sets)
          (omega (arith, c.self.invariant.0.few)) (inputs (goal.at.invariant_of-self-2 c).After-reserve)
          (omega (arith, room, c.reserve.ensures.len, t.names.ok.0))
          (rw c.in_ok-reserve-2.ensures.ok (record { for_sets = omega arith; for_runs = omega arith }))
          c.in_ok-reserve_each.ensures.ok,
      λ named.
          pairs-kept t.outs c.reserve-2.new.self t.ins.items c.reserve_each.new.tables t.names.items t.count
          (ap (λ (s : SetsByNumber). s.sets) c.reserve-2.ensures.kept)
          (rw c.deref_mut.ensures.value at c.reserve_each.ensures.sets) (c.self.invariant.1 named),
    )
