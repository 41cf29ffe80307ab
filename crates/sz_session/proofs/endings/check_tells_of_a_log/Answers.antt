-- Each ending is a case of the record.
use Rattle.sz_session.proofs.Checkings.{check-tells}
use Rattle.sz_session.proofs.Exactly.{check-completes}
use Rattle.sz_session.proofs.Modes.{by-status}
use Rattle.sz_session.proofs.endings.check_tells_of_a_log.Goals as goal

pub returns : goal.returns
returns g c = record {
  checked = λ job s before after old new serves asked is. ((by-status serves is).check asked).ends;
  check_after_say_fault = λ job s before after old new serves asked is. ((by-status serves is).check asked).ends;
  check_after_no_memory = λ job s before after old new serves asked is. ((by-status serves is).check asked).ends;
  check_completes = λ job s before after old new serves asked.
      let one = serves.check asked in
      check-completes c.logs_are_read_in_one_way.ensures.whole g.T.Station s old new one.ends one.counted;
  check_tells = λ job s before after old new serves asked.
      let one = serves.check asked in check-tells g.T.Station s old new one.ends one.counted;
  found_in_check = λ job s before after old new serves asked. (serves.check asked).found;
}
