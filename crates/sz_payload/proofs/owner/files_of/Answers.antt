-- One entry more, whose number is filed under its cells.
use Rattle.std.proofs.Common.{◌≡◌, ◌+◌, ◌<◌, ◌++◌, ◌∷◌, [], List, length, take, ap, subst, ◌∙◌, arith}
use Rattle.std.proofs.lemmas.List.{take_all, take_more, length-take-le}
use Rattle.sz_frame.specs.Parts.{Entry}
use Rattle.sz_tables.specs.Entries.{entries, entry_at}
use Rattle.sz_payload.specs.Owned.{AreFilesOf}
use Rattle.sz_payload.proofs.Adding.{entry-get}
use Rattle.sz_payload.proofs.Filing.{files-none, files-next}
use Rattle.sz_payload.proofs.owner.files_of.Goals as goal

pub loop-row-init : goal.loop-row-init
loop-row-init c =
    files-none c.args.table.now.out c.reserve_cells.new.files
    (omega (arith, c.reserve_cells.ensures.keys, c.in_ok-files.ensures.keys))
    (c.reserve_cells.ensures.entries ∙ c.in_ok-files.ensures.entries)

pub loop-row-preserved : goal.loop-row-preserved
loop-row-preserved c =
    let out = c.args.table.now.out in
    let es = entries c.args.table.now in
    let row = c.loop-row.row in
    let e = entry_at es row in
    let there : row < length es = omega (arith, c.loop-row-test.true, c.len-row-end.ensures.entries) in
    let more : take (row + 1) es ≡ take row es ++ e ∷ [] =
    take_more es row e there ∙ ap (λ (x : Entry). take row es ++ x ∷ []) (entry-get es row e there) in
    rw more
    (files-next out (take row es) e c.loop-row.files c.file_row.new.files row c.file_row.ensures.shape
    c.file_row.ensures.keys c.in_ok-file_row.ensures.filed (length-take-le row es (omega (arith, there)))
    c.loop-row.invariant)

pub returns : goal.returns
returns c =
    let es = entries c.args.table.now in
    subst (λ (xs : List Entry). AreFilesOf c.args.table.now.out xs c.loop-row.files)
    (take_all c.loop-row.row es (omega (arith, c.loop-row-test.false, c.len-row-end.ensures.entries)))
    c.loop-row.invariant
