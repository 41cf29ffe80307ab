-- The inputs so far have an index.
use Rattle.std.proofs.Common.{◌≡◌, ℕ, ◌<◌, length, map}
use Rattle.std.specs.List.{slice_index_or, flat_map}
use Rattle.sz_spec.specs.Sides.{extent_before, extent_after}
use Rattle.sz_core.specs.Links.{HasPairs, no_links}
use Rattle.sz_core.proofs.relation.indexes_of.Given as goal

abbrev pub invariant-loop-input : goal.invariant-loop-input
invariant-loop-input l = (length l.made.items ≡ l.input)
    × ((i : ℕ) → i < l.input → HasPairs l.fn.dir i (extent_before l.fn.dir l.fn.out l.ins i)
    (extent_after l.fn.dir l.fn.out l.ins i)
    (flat_map (λ pairs. pairs) (map (λ v. v.items) l.pieces)) (slice_index_or l.made.items i no_links))
