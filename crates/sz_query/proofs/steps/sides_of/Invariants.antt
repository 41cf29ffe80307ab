-- What was made, and what is still to be made.
use Rattle.std.proofs.Common.{◌≡◌, ◌++◌, map, length, drop}
use Rattle.sz_query.specs.Views.{view_of}
use Rattle.sz_query.specs.Sides.{empty_sides}
use Rattle.sz_query.proofs.OnWay.{views_from}
use Rattle.sz_query.proofs.steps.sides_of.Given as goal

abbrev pub invariant-loop-index : goal.invariant-loop-index
invariant-loop-index l =
    (l.index-end ≡ length l.views)
    × (l.sides.items ++ empty_sides l.dir (views_from l.views l.index) (drop l.index l.inputs)
    ≡ empty_sides l.dir (map view_of l.views) l.inputs)
