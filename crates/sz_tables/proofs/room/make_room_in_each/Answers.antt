-- The key idea: a table that makes room keeps all else.
use Rattle.std.proofs.Common.{◌≡◌, ◌∙◌, [], length, ap, arith}
use Rattle.std.proofs.Math.Seq.{map-set_same}
use Rattle.std.proofs.lemmas.List.Elements.{All-set}
use Rattle.sz_tables.specs.Tables.{SetsByNumber}
use Rattle.sz_tables.proofs.room.make_room_in_each.Goals as goal

pub reserve-requires : goal.reserve-requires
reserve-requires c =
    omega (arith, ap length (c.loop-table.invariant.none c.loop-table.table-index c.table-item.result (omega arith)))

pub returns-in_err-reserve-clause-extents : goal.returns-in_err-reserve-clause-extents
returns-in_err-reserve-clause-extents c =
    map-set_same (λ (t : SetsByNumber). t.extent) c.loop-table.tables c.loop-table.table-index c.reserve.new.self
    c.table-item.result (ap (λ (t : SetsByNumber). t.extent) c.reserve.ensures.kept) ∙ c.loop-table.invariant.extents

pub returns-in_err-reserve-clause-none : goal.returns-in_err-reserve-clause-none
returns-in_err-reserve-clause-none c =
    let i = c.loop-table.table-index in
    let none = c.loop-table.invariant.none in
    All-set (λ (t : SetsByNumber). t.sets ≡ []) c.loop-table.tables i c.reserve.new.self
    (ap (λ (t : SetsByNumber). t.sets) c.reserve.ensures.kept ∙ none i c.table-item.result (omega arith)) none

pub loop-table-preserved : goal.loop-table-preserved
loop-table-preserved c =
    let tables = c.loop-table.tables in
    let i = c.loop-table.table-index in
    let none = c.loop-table.invariant.none in
    record {
      extents =
          map-set_same (λ (t : SetsByNumber). t.extent) tables i c.reserve.new.self c.table-item.result
          (ap (λ (t : SetsByNumber). t.extent) c.reserve.ensures.kept) ∙ c.loop-table.invariant.extents;
      none =
          All-set (λ (t : SetsByNumber). t.sets ≡ []) tables i c.reserve.new.self
          (ap (λ (t : SetsByNumber). t.sets) c.reserve.ensures.kept ∙ none i c.table-item.result (omega arith)) none;
    }
