-- So far each piece below the number was added.
use Rattle.sz_flow.specs.Executions.{Execution, execution_of}
use Rattle.sz_recover.proofs.Made.{IsMadeOf}
use Rattle.sz_recover.proofs.checking.store_made.Given as goal

abbrev pub invariant-loop-k : goal.invariant-loop-k
invariant-loop-k l =
    let e : Execution = execution_of l.run in IsMadeOf e.site e.inputs l.s l.k l.made
