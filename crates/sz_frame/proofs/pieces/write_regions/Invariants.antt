-- The region pairs so far are those of the places before this one that lead.
use Rattle.std.proofs.Common.{◌≡◌, map}
use Rattle.sz_frame.specs.Written.{leaders_below, region_by}
use Rattle.sz_frame.proofs.pieces.write_regions.Given as goal

abbrev pub invariant-loop-place : goal.invariant-loop-place
invariant-loop-place g l =
    let s = g.A.AtWork.site l.at in
    let inputs = g.A.AtWork.inputs l.at in
    l.lineage ≡ record l.fn.lineage {
      regions = map (region_by s inputs l.start l.kept) (leaders_below l.kept l.place);
    }
