-- The key idea: a turn lists the two numbers of the row at the index.
use Rattle.std.proofs.Common.{◌∙◌, ◌∷◌, [], take, get_or, sym, arith}
use Rattle.std.specs.List.{flat_map}
use Rattle.std.proofs.lemmas.List.{append_assoc}
use Rattle.sz_tables.specs.declared.entry_table.EntryRow.{EntryRow}
use Rattle.sz_tables.specs.Entries.{numbers_of}
use Rattle.sz_tables.proofs.Entries.{numbers-more}
use Rattle.sz_tables.proofs.entry_table.list_names.Goals as goal

pub loop-row-preserved : goal.loop-row-preserved
loop-row-preserved c =
    let rows = c.args.rows.now in
    let i = c.loop-row.row-index in
    let none : EntryRow = record { set = 0; payload = 0 } in
    let row = get_or rows i none in
    rw (c.in_ok-push-2.ensures.items, c.in_ok-push.ensures.items, c.loop-row.invariant)
    (append_assoc (flat_map numbers_of (take i rows)) (row.set ∷ []) (row.payload ∷ [])
    ∙ sym (numbers-more rows i none (omega arith)))
