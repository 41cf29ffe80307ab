-- Each clause is a lemma of the definitions.
use Rattle.sz_support.proofs.ChangedInputs.{changed-differs}
use Rattle.sz_support.proofs.MatterTwo.{numbers-can}
use Rattle.sz_support.proofs.changed_inputs_differ_there.Goals as goal

pub returns-clause-there : goal.returns-clause-there
returns-clause-there c = changed-differs

pub returns-clause-number : goal.returns-clause-number
returns-clause-number c = numbers-can
