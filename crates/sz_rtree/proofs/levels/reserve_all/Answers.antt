-- The key idea: a level that takes room keeps its boxes, so what held of all levels holds of all again.
use Rattle.std.proofs.Common.{◌<◌, arith}
use Rattle.std.proofs.lemmas.List.Elements.{AllWithin-more_set}
use Rattle.sz_rtree.specs.declared.levels.Level.{Level}
use Rattle.sz_rtree.specs.Levels.{Covers, HasRoom}
use Rattle.sz_rtree.proofs.Elements.{All-carried}
use Rattle.sz_rtree.proofs.levels.reserve_all.Goals as goal

pub returns-in_err-reserve-clause-covers : goal.returns-in_err-reserve-clause-covers
returns-in_err-reserve-clause-covers c = λ rectangles before.
    All-carried (Covers rectangles) _ _ c.level-item.result _ (omega arith) (c.reserve.ensures.covers rectangles)
    (c.loop-level.invariant.covers rectangles before)

pub returns-in_err-reserve-clause-kept : goal.returns-in_err-reserve-clause-kept
returns-in_err-reserve-clause-kept c = λ room before.
    All-carried (HasRoom room) _ _ c.level-item.result _ (omega arith) (c.reserve.ensures.kept room)
    (c.loop-level.invariant.kept room before)

pub loop-level-preserved : goal.loop-level-preserved
loop-level-preserved c =
    let span = c.reserve.ensures.span in
    record {
      positive =
          All-carried (λ (level : Level). 0 < level.span) _ _ c.level-item.result _ (omega arith)
          (λ before. omega arith) c.loop-level.invariant.positive;
      covers =
          λ rectangles before. All-carried (Covers rectangles) _ _ c.level-item.result _ (omega arith)
          (c.reserve.ensures.covers rectangles) (c.loop-level.invariant.covers rectangles before);
      kept =
          λ room before. All-carried (HasRoom room) _ _ c.level-item.result _ (omega arith)
          (c.reserve.ensures.kept room) (c.loop-level.invariant.kept room before);
      done =
          AllWithin-more_set c.loop-level.levels c.loop-level.level-index c.reserve.new.self (omega arith)
          (HasRoom c.args.count) c.loop-level.invariant.done c.in_ok-reserve.ensures.ok;
    }
