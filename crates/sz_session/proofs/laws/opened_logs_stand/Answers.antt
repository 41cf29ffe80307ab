-- Each version of a well-made log was awaited.
use Rattle.sz_commands.proofs.Logged.{opened-stands}
use Rattle.sz_session.proofs.laws.opened_logs_stand.Goals as goal

pub returns : goal.returns
returns c = opened-stands
