-- What was appended so far is what the items so far give, each of which passes.
use Rattle.sz_script.specs.Layers.{is_row, values_of_row}
use Rattle.sz_script.proofs.Walks.{IsWalkedUpTo}
use Rattle.sz_script.proofs.layers.push_rows.Given as goal

abbrev pub invariant-loop-row : goal.invariant-loop-row
invariant-loop-row l = IsWalkedUpTo (is_row l.width) values_of_row l.rows l.row-index l.fn.cells.items l.cells.items
