-- In the other modes the status does not come.
use Rattle.sz_session.proofs.Statuses.{usage-refused, lines-read, limit-past, disk-log, already-init, log-silent}
use Rattle.sz_session.proofs.endings.statuses_have_their_modes.Goals as goal

pub returns : goal.returns
returns g c = record {
  usage = usage-refused g.S.Source g.T.Station;
  reads_lines = lines-read g.S.Source g.T.Station;
  input_limit = limit-past g.S.Source g.T.Station;
  disk_in_log = disk-log g.S.Source g.T.Station;
  already_in_init = already-init g.S.Source g.T.Station;
  silent = log-silent g.S.Source g.T.Station;
}
