-- Where nothing was done the station is as it was, and of play and load their records say it.
use Rattle.sz_session.proofs.Statuses.{disk-same}
use Rattle.sz_session.proofs.endings.the_disk_stays.Goals as goal

pub returns : goal.returns
returns g c = record {
  disk = λ job s before after old new.
      disk-same g.S.Source g.T.Station job s before after old new (g.met.T.Station.only_now old)
      (g.met.T.Station.counts_now old);
}
