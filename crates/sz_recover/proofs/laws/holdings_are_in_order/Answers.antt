-- Arrays and flows stay under their names, and a version is made of what is held.
use Rattle.sz_recover.proofs.InLogs.{logs-in-order}
use Rattle.sz_recover.proofs.InOrder.{nothing-in-order, commands-keep}
use Rattle.sz_recover.proofs.laws.holdings_are_in_order.Goals as goal

pub returns-clause-nothing : goal.returns-clause-nothing
returns-clause-nothing c = nothing-in-order

pub returns-clause-commands : goal.returns-clause-commands
returns-clause-commands c = commands-keep

pub returns-clause-logs : goal.returns-clause-logs
returns-clause-logs c = logs-in-order
