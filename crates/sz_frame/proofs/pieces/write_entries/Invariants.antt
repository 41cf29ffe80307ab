-- The entries so far are those of the places before this one that lead.
use Rattle.std.proofs.Common.{◌≡◌, map}
use Rattle.sz_frame.specs.Written.{leaders_below, entry_by, with_entries}
use Rattle.sz_frame.proofs.pieces.write_entries.Given as goal

abbrev pub invariant-loop-place : goal.invariant-loop-place
invariant-loop-place g l =
    let s = g.A.AtWork.site l.at in
    let inputs = g.A.AtWork.inputs l.at in
    l.lineage ≡ with_entries l.comp (map (entry_by s inputs l.start l.kept) (leaders_below l.kept l.place)) l.fn.lineage
