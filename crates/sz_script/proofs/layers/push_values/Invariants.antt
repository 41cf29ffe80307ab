-- What was appended so far is what the items so far give, each of which passes.
use Rattle.std.proofs.Common.{[], ◌∷◌}
use Rattle.sz_script.specs.Layers.{is_value, value_of}
use Rattle.sz_script.proofs.Walks.{IsWalkedUpTo}
use Rattle.sz_script.proofs.layers.push_values.Given as goal

abbrev pub invariant-loop-item : goal.invariant-loop-item
invariant-loop-item l = IsWalkedUpTo is_value (λ d. value_of d ∷ []) l.items l.item-index l.fn.cells.items l.cells.items
