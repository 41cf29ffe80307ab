-- The number of the status is the exit number.
use Rattle.sz_session.proofs.Numbers.{status-of}
use Rattle.subzero.proofs.running.run.Goals as goal

pub returns-clause-serves : goal.returns-clause-serves
returns-clause-serves g c = (c.session-status.result, c.end.ensures, c.session-status.ensures.serves)

pub returns-clause-usage : goal.returns-clause-usage
returns-clause-usage g c = λ e. c.session-status.ensures.usage (status-of _ _ 1 c.end.ensures e)
