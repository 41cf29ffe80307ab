-- What is read at a place are the bytes of the group that stands there.
use Rattle.sz_recover.proofs.Ending.{read-logs, logs-spelled, well-made-logs-end, made-logs-end}
use Rattle.sz_recover.proofs.laws.well_made_logs_end.Goals as goal

pub returns-clause-read : goal.returns-clause-read
returns-clause-read c = read-logs

pub returns-clause-spelled : goal.returns-clause-spelled
returns-clause-spelled c = logs-spelled

pub returns-clause-end : goal.returns-clause-end
returns-clause-end c = well-made-logs-end

pub returns-clause-made : goal.returns-clause-made
returns-clause-made c = made-logs-end
