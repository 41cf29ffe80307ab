-- The key idea: each turn changes one level, which goes from those still to do to those done.
use Rattle.std.proofs.Common.{◌<◌, ◌∷◌, [], ◌++◌, ◌∙◌, length, arith}
use Rattle.std.proofs.Math.Seq.{map-set_same}
use Rattle.std.specs.Vec.{vec_capacity}
use Rattle.std.proofs.lemmas.List.Elements.{AllWithin-more_set}
use Rattle.sz_rtree.specs.declared.levels.Level.{Level}
use Rattle.sz_rtree.specs.Levels.{Covers, HasRoom}
use Rattle.sz_rtree.proofs.Elements.{All-carried, rest_after_set}
use Rattle.sz_rtree.proofs.levels.add_to_all.Goals as goal

pub loop-level-preserved : goal.loop-level-preserved
loop-level-preserved c =
    let levels = c.loop-level.levels in
    let i = c.loop-level.level-index in
    let inside : i < length levels = omega arith in
    let span = c.add.ensures.span in
    record {
      positive =
          All-carried (λ (level : Level). 0 < level.span) levels i c.level-item.result c.add.new.self inside
          (λ before. omega arith) c.loop-level.invariant.positive;
      done = λ rectangles count before.
          AllWithin-more_set levels i c.add.new.self inside (Covers (rectangles ++ c.args.bounds ∷ []))
          (c.loop-level.invariant.done rectangles count before)
          (c.add.ensures.covers rectangles count
          (c.loop-level.invariant.ahead rectangles before i c.level-item.result (omega arith) inside));
      ahead =
          λ rectangles before. rest_after_set (Covers rectangles) levels i c.add.new.self
          (c.loop-level.invariant.ahead rectangles before);
      kept =
          λ room before. All-carried (HasRoom room) levels i c.level-item.result c.add.new.self inside
          (c.add.ensures.kept room) (c.loop-level.invariant.kept room before);
      capacities =
          map-set_same (λ (level : Level). vec_capacity level.boxes) levels i c.add.new.self c.level-item.result
          c.add.ensures.capacity ∙ c.loop-level.invariant.capacities;
    }
