-- The key idea: a table that makes room keeps all else, so what held of all tables holds of all again.
use Rattle.std.proofs.Common.{ℕ, ◌+◌, ◌<◌, ◌≤◌, ◌^◌, ◌∙◌, length, get_or, ap, arith}
use Rattle.std.proofs.Math.Seq.{map-set_same}
use Rattle.std.proofs.lemmas.List.Elements.{All-set, AllWithin-more_set}
use Rattle.sz_tables.specs.Tables.{SetsByNumber}
use Rattle.sz_tables.specs.Rows.{HasRoomFor}
use Rattle.sz_tables.proofs.region_table.reserve_each.Goals as goal

pub returns-in_err-reserve-clause-extents : goal.returns-in_err-reserve-clause-extents
returns-in_err-reserve-clause-extents c =
    map-set_same (λ (t : SetsByNumber). t.extent) c.loop-table.tables c.loop-table.table-index c.reserve.new.self
    c.table-item.result (ap (λ (t : SetsByNumber). t.extent) c.reserve.ensures.kept) ∙ c.loop-table.invariant.extents

pub returns-in_err-reserve-clause-sets : goal.returns-in_err-reserve-clause-sets
returns-in_err-reserve-clause-sets c =
    map-set_same (λ (t : SetsByNumber). t.sets) c.loop-table.tables c.loop-table.table-index c.reserve.new.self
    c.table-item.result (ap (λ (t : SetsByNumber). t.sets) c.reserve.ensures.kept) ∙ c.loop-table.invariant.sets

-- room that a table had, the table that grew has
grown : (old new : SetsByNumber) (rows runs : ℕ) → (old.spare_sets ≤ new.spare_sets) × (old.spare_runs ≤ new.spare_runs)
    → HasRoomFor rows runs old → HasRoomFor rows runs new
grown old new rows runs more room = record {
  for_sets = omega (arith, more.0, room.for_sets);
  for_runs = omega (arith, more.1, room.for_runs);
}

pub returns-in_err-reserve-clause-kept : goal.returns-in_err-reserve-clause-kept
returns-in_err-reserve-clause-kept c = λ rows runs before.
    let tables = c.loop-table.tables in
    let i = c.loop-table.table-index in
    let all = c.loop-table.invariant.kept rows runs before in
    All-set (HasRoomFor rows runs) tables i c.reserve.new.self
    (grown (get_or tables i c.table-item.result) c.reserve.new.self rows runs c.reserve.ensures.grown
    (all i c.table-item.result (omega arith))) all

pub loop-table-preserved : goal.loop-table-preserved
loop-table-preserved c =
    let tables = c.loop-table.tables in
    let i = c.loop-table.table-index in
    let new = c.reserve.new.self in
    let same = ap (λ (t : SetsByNumber). t.sets) c.reserve.ensures.kept in
    let few : length new.sets + c.args.rows < 2 ^ 32 =
    rw same (c.loop-table.invariant.few i c.table-item.result (omega arith)) in
    record {
      few = All-set (λ (t : SetsByNumber). length t.sets + c.args.rows < 2 ^ 32) tables i new few
          c.loop-table.invariant.few;
      extents =
          map-set_same (λ (t : SetsByNumber). t.extent) tables i new c.table-item.result
          (ap (λ (t : SetsByNumber). t.extent) c.reserve.ensures.kept) ∙ c.loop-table.invariant.extents;
      sets =
          map-set_same (λ (t : SetsByNumber). t.sets) tables i new c.table-item.result same
          ∙ c.loop-table.invariant.sets;
      kept =
          λ rows runs before. let all = c.loop-table.invariant.kept rows runs before in
          All-set (HasRoomFor rows runs) tables i new
          (grown (get_or tables i c.table-item.result) new rows runs c.reserve.ensures.grown
          (all i c.table-item.result (omega arith))) all;
      done =
          AllWithin-more_set tables i new (omega arith) (HasRoomFor c.args.rows c.args.runs)
          c.loop-table.invariant.done
          (rw c.in_ok-reserve.ensures.ok (record { for_sets = omega arith; for_runs = omega arith }));
    }
