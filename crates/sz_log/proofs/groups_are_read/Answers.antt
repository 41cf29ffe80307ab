use Rattle.sz_log.proofs.Reading.{groups_read}
use Rattle.sz_log.proofs.groups_are_read.Goals as goal

pub returns : goal.returns
returns c = groups_read
