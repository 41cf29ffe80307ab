-- Each group of kind 5 makes it 2, and no other group changes it.
use Rattle.sz_recover.proofs.InLogs.{formats-by-groups}
use Rattle.sz_recover.proofs.laws.formats_are_by_groups.Goals as goal

pub returns : goal.returns
returns c = formats-by-groups
