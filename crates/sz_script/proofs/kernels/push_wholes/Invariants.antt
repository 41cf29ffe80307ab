-- What was appended so far is what the items so far give, each of which passes.
use Rattle.std.proofs.Common.{[], ◌∷◌}
use Rattle.sz_script.specs.Kernels.{is_whole, weight_of}
use Rattle.sz_script.proofs.Walks.{IsWalkedUpTo}
use Rattle.sz_script.proofs.kernels.push_wholes.Given as goal

abbrev pub invariant-loop-item : goal.invariant-loop-item
invariant-loop-item l = IsWalkedUpTo is_whole (λ d. weight_of d ∷ []) l.items l.item-index
    l.fn.weights.items l.weights.items
