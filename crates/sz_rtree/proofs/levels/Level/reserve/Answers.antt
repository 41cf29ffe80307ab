-- The key idea: one box more than there are whole runs is room enough.
use Rattle.std.proofs.Common.{arith}
use Rattle.std.proofs.lemmas.Result.{on_ok_weaker}
use Rattle.sz_rtree.proofs.Boxes.{room_for}
use Rattle.sz_rtree.proofs.levels.Level.reserve.Goals as goal

pub returns-clause-ok : goal.returns-clause-ok
returns-clause-ok c =
    on_ok_weaker c.reserve_bounds.result (λ fits. room_for _ _ _ c.requires.positive (omega arith))
    c.reserve_bounds.ensures.ok
