-- It is a group of no line and of no version.
use Rattle.sz_recover.proofs.Logged.{upgrades-act}
use Rattle.sz_recover.proofs.laws.upgrades_act_on_logs.Goals as goal

pub returns : goal.returns
returns c = upgrades-act
