-- So far each piece below the number is ticked.
use Rattle.std.proofs.Common.{◌≡◌}
use Rattle.sz_flow.specs.Executions.{Execution, execution_of}
use Rattle.sz_store.specs.Checklists.{table_in, ticked_in}
use Rattle.sz_recover.proofs.Ticked.{IsTickedOf}
use Rattle.sz_recover.proofs.ticking.keeps_each_piece.Given as goal

abbrev pub invariant-loop-piece : goal.invariant-loop-piece
invariant-loop-piece g l =
    let e : Execution = execution_of l.run in
    (table_in l.list ≡ table_in l.initial.list)
    × IsTickedOf e.site e.inputs l.fn.s l.piece-index (ticked_in l.list)
