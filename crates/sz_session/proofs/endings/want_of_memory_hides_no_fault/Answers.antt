-- The counts tell the status, mode by mode; and of words that are refused nothing is touched.
use Rattle.sz_session.proofs.Statuses.{quiet-memory}
use Rattle.sz_session.proofs.endings.want_of_memory_hides_no_fault.Goals as goal

pub returns : goal.returns
returns g c = quiet-memory g.S.Source g.T.Station
