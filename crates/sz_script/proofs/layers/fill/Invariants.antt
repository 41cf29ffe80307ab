-- What was appended so far is what the items so far give, each of which passes.
use Rattle.std.proofs.Common.{[]}
use Rattle.sz_script.specs.Layers.{is_layer, values_of_layer}
use Rattle.sz_script.proofs.Walks.{IsWalkedUpTo}
use Rattle.sz_script.proofs.layers.fill.Given as goal

abbrev pub invariant-loop-layer : goal.invariant-loop-layer
invariant-loop-layer l = IsWalkedUpTo (is_layer l.height l.width) values_of_layer l.layers l.layer-index []
    l.cells.items
