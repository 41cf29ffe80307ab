-- A cut that is done leaves the front of the disk.
use Rattle.sz_outside.proofs.Ledgers.{read}
use Rattle.sz_outside.proofs.stations.MemStationStation.cut.Goals as goal

pub returns-clause-cut : goal.returns-clause-cut
returns-clause-cut c = read _ _ c.disk_call.result c.disk_call.ensures.done
