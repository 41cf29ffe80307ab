-- A list of as many items is a row where each is a value.
use Rattle.std.proofs.Common.{◌∙◌, sym}
use Rattle.sz_script.proofs.LayersRead.{row_tested}
use Rattle.sz_script.proofs.layers.is_row.Goals as goal

pub returns-then-items-width : goal.returns-then-items-width
returns-then-items-width c = c.are_values.ensures
    ∙ sym (row_tested c.args.width _ c.in-Some.items.now c.in-Some.ensures c.if-items-width.true)
