-- Whether a log was opened or not, the counts tell its status.
use Rattle.sz_session.proofs.Exactly.{run-completes}
use Rattle.sz_session.proofs.endings.run_goes_on.Goals as goal

pub returns : goal.returns
returns g c = record {
  run = λ job s before after old new serves asked. (serves.run asked).ends;
  run_completes = λ job s before after old new serves asked.
      let one = serves.run asked in
      run-completes c.logs_are_read_in_one_way.ensures.whole g.T.Station s _ _ _ _ _ old new one.ends one.counted;
}
