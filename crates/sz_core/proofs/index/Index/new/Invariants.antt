-- The groups so far are empty.
use Rattle.std.proofs.Common.{◌≡◌, [], map}
use Rattle.std.specs.Prelude.{replicate}
use Rattle.sz_core.proofs.index.Index.new.Given as goal

abbrev pub invariant-loop-key : goal.invariant-loop-key
invariant-loop-key l = map (λ g. g.items) l.groups.items ≡ replicate l._key []
