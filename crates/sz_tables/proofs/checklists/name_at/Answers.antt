-- The numbers are those of the row.
use Rattle.sz_tables.specs.Rows.{row_at}
use Rattle.sz_tables.proofs.Scanned.{row-named}
use Rattle.sz_tables.proofs.Ticking.{named-row}
use Rattle.sz_tables.proofs.checklists.name_at.Goals as goal

pub returns : goal.returns
returns c =
    let t = c.args.table.now in
    let row = row_at t.rows c.args.row in
    let named = row-named t c.args.row c.len.ensures.named c.requires.row in
    named-row t _ row c.requires.inputs c.inputs.ensures.tables named.arity c.out_number.ensures
    c.number_at.ensures c.number_at-2.ensures
