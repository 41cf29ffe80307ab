-- The pairs of the pieces so far are in the index.
use Rattle.std.proofs.Common.{take}
use Rattle.std.specs.List.{flat_map}
use Rattle.sz_core.specs.Links.{HasPairs}
use Rattle.sz_core.proofs.relation.index_of.Given as goal

abbrev pub invariant-loop-piece : goal.invariant-loop-piece
invariant-loop-piece l =
    HasPairs l.dir l.input l.fn.near l.fn.far (flat_map (λ v. v.items) (take l.piece-index l.pieces)) l.index
