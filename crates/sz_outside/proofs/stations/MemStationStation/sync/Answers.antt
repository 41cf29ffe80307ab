-- A sync that is done leaves the disk as read, and nothing else.
use Rattle.std.proofs.Common.{[]}
use Rattle.sz_outside.specs.Memory.{now}
use Rattle.sz_outside.proofs.Ledgers.{only_read}
use Rattle.sz_outside.proofs.stations.MemStationStation.sync.Goals as goal

pub returns-clause-synced : goal.returns-clause-synced
returns-clause-synced c = only_read _ (now c.args.self.now.past) [] c.disk_call.result c.disk_call.ensures.done
