-- No log, a bad log and a well-made one exclude each other.
use Rattle.sz_session.proofs.Statuses.{opening-no_log, opening-unlike, opening-broken, bad-place}
use Rattle.sz_session.proofs.endings.logs_are_opened_or_not.Goals as goal

pub returns : goal.returns
returns g c =
    let law = c.logs_are_read_in_one_way.ensures in
    record {
      no_log = opening-no_log g.S.Source g.T.Station;
      bad_log = λ job s before after old new serves at.
          bad-place g.S.Source g.T.Station job s before after old new at serves;
      unlike = opening-unlike g.S.Source g.T.Station;
      broken = opening-broken law.whole law.bad g.S.Source g.T.Station;
    }
