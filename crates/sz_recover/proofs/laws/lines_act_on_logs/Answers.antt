-- What a rule lets pass over what is held it lets pass over what a log holds.
use Rattle.sz_recover.proofs.Logged.{lines-act, lines-keep}
use Rattle.sz_recover.proofs.laws.lines_act_on_logs.Goals as goal

pub returns-clause-act : goal.returns-clause-act
returns-clause-act c = lines-act

pub returns-clause-keep : goal.returns-clause-keep
returns-clause-keep c = lines-keep
