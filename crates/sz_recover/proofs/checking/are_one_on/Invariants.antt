-- So far they give each cell the same image.
use Rattle.std.proofs.Common.{ℕ, ◌<◌}
use Rattle.sz_spec.specs.Sides.{near_side, far_side}
use Rattle.sz_store.specs.Kept.{holding_for}
use Rattle.sz_recover.specs.Comparing.{AgreeAt, AreSides}
use Rattle.sz_recover.proofs.checking.are_one_on.Given as goal

abbrev pub invariant-loop-index : goal.invariant-loop-index
invariant-loop-index l = record {
  sides : AreSides (near_side l.dir l.at l.input) (far_side l.dir l.at l.input) l.sides;
  each : (k : ℕ) → k < l.index
      → AgreeAt l.dir l.at (holding_for l.s l.a.stores) (holding_for l.s l.b.stores) l.input k;
}
