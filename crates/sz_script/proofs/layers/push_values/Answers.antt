-- An item that is no value ends the walk; after the last item the values are those of all.
use Rattle.std.proofs.Common.{ap, ◌∙◌, sym, arith, is_some}
use Rattle.sz_script.specs.Layers.{is_value, value_of}
use Rattle.sz_script.proofs.Walks.{walked_bad, walked_each}
use Rattle.sz_script.proofs.layers.push_values.Goals as goal

pub returns-in_default-clause-tested : goal.returns-in_default-clause-tested
returns-in_default-clause-tested c =
    sym (walked_bad is_value c.args.items.now c.loop-item.item-index c.item-item.result c.loop-item-test.true
    c.item-item.is (ap is_some (sym c.value_of.ensures ∙ c.in_default.is)))

pub returns-clause-pushed : goal.returns-clause-pushed
returns-clause-pushed c _ =
    walked_each is_value value_of c.args.items.now c.loop-item.item-index c.args.cells.now.items
    c.loop-item.cells.items (omega arith) c.loop-item.invariant
