-- A list of as many items is a layer where each is a row.
use Rattle.std.proofs.Common.{◌∙◌, sym}
use Rattle.sz_script.proofs.LayersRead.{layer_tested}
use Rattle.sz_script.proofs.layers.is_layer.Goals as goal

pub returns-then-rows-height : goal.returns-then-rows-height
returns-then-rows-height c = c.are_rows.ensures
    ∙ sym (layer_tested c.args.height c.args.width _ c.in-Some.rows.now c.in-Some.ensures c.if-rows-height.true)
