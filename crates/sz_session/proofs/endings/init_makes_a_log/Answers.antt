-- Each ending is a case of the record.
use Rattle.std.proofs.Common.{◌≡◌, ⊎_elim}
use Rattle.sz_session.specs.declared.serving.Status.TheVariants as status
use Rattle.sz_session.proofs.Makings.{init-barred, init-completes}
use Rattle.sz_session.proofs.Modes.{by-status}
use Rattle.sz_session.proofs.Statuses.{already-init}
use Rattle.sz_session.proofs.endings.init_makes_a_log.Goals as goal

pub returns : goal.returns
returns g c = record {
  made = λ job s before after old new serves asked is. ⊎_elim
      (λ (done : s ≡ status.Done). ((by-status serves done).init asked).ends.0)
      (λ (fault : s ≡ status.SayFault). ((by-status serves fault).init asked).ends.0) is;
  ready = λ job s before after old new serves asked is. ((by-status serves is).init asked).ends.1;
  ready_after_say_fault = λ job s before after old new serves asked is. ((by-status serves is).init asked).ends.1;
  not_a_log = λ job s before after old new serves asked is. ((by-status serves is).init asked).ends.1;
  already_a_log = λ job s before after old new serves is.
      let asked = already-init g.S.Source g.T.Station job s before after old new serves is in
      ((by-status serves is).init asked).ends.1;
  init_after_no_memory = λ job s before after old new serves asked is. ((by-status serves is).init asked).ends;
  barred = λ job s before after old new serves asked. init-barred g.T.Station s old new (serves.init asked).ends;
  init_completes = λ job s before after old new serves asked.
      let one = serves.init asked in init-completes g.T.Station s old new one.ends one.counted;
  found_in_init = λ job s before after old new serves asked. (serves.init asked).found;
}
