-- The shapes are those of the operator's inputs.
use Rattle.std.proofs.Common.{List, subst}
use Rattle.sz_cells.specs.Extent.{Extent}
use Rattle.sz_tables.specs.Rows.{empty_rows}
use Rattle.sz_full_one.specs.ByCells.{AreFilesOf}
use Rattle.sz_full_one.proofs.index.Index.new.Goals as goal

pub returns-in_ok-new_files-in-Forward-clause-index : goal.returns-in_ok-new_files-in-Forward-clause-index
returns-in_ok-new_files-in-Forward-clause-index c =
    let out : Extent = c.args.at.now.out in
    subst (λ (ins : List Extent). AreFilesOf (empty_rows out ins) c.in_ok-new_files-in-Forward.field-0.items)
    c.ins.ensures.value (c.in_ok-new_files-in-Forward.ensures out)
