-- A write that is done stands in the disk.
use Rattle.sz_outside.proofs.Ledgers.{read}
use Rattle.sz_outside.proofs.stations.MemStationStation.write_at.Goals as goal

pub returns-clause-written : goal.returns-clause-written
returns-clause-written c = read _ _ c.disk_call.result c.disk_call.ensures.done
