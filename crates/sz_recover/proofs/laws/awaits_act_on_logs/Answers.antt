-- The version can be added to what a log holds, since all is held there but versions.
use Rattle.sz_recover.proofs.Durable.{awaits-once}
use Rattle.sz_recover.proofs.Logged.{awaits-act}
use Rattle.sz_recover.proofs.laws.awaits_act_on_logs.Goals as goal

pub returns-clause-act : goal.returns-clause-act
returns-clause-act c = awaits-act

pub returns-clause-once : goal.returns-clause-once
returns-clause-once c = awaits-once
