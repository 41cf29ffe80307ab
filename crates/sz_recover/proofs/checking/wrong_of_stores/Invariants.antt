-- So far each store is exact.
use Rattle.std.proofs.Common.{take}
use Rattle.std.specs.Prelude.{All}
use Rattle.sz_flow.specs.Executions.{execution_of}
use Rattle.sz_recover.proofs.Wrong.{ExactIn}
use Rattle.sz_recover.proofs.checking.wrong_of_stores.Given as goal

abbrev pub invariant-loop-s : goal.invariant-loop-s
invariant-loop-s g l = All (ExactIn (execution_of l.run) l.store.stores) (take l.s-index l.list)
