-- The layers so far are those of the cells before the ones that are left.
use Rattle.sz_script.specs.Layers.{is_layer, values_of_layer}
use Rattle.sz_writing.specs.Written.{layer_long}
use Rattle.sz_writing.proofs.Walks.{IsWrittenUpTo}
use Rattle.sz_writing.proofs.cells.layers_of.Given as goal

abbrev pub invariant-loop-layer : goal.invariant-loop-layer
invariant-loop-layer l =
    IsWrittenUpTo (is_layer l.height l.width) values_of_layer 2 (layer_long l.height l.width) l.size l.layers.items
    l._layer l.rest l.cells
