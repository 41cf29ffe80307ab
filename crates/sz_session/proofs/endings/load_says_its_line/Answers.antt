-- Each ending is a case of the record.
use Rattle.sz_session.specs.Modes.{EndsLoad}
use Rattle.sz_session.specs.declared.serving.Status.TheVariants as status
use Rattle.sz_session.proofs.Loads.{load-completes}
use Rattle.sz_session.proofs.Modes.{by-status, line-more, line-asked}
use Rattle.sz_session.proofs.endings.load_says_its_line.Goals as goal

pub returns : goal.returns
returns g c = record {
  load = λ job s before after old new serves is.
      line-more (λ line. EndsLoad g.T.Station status.Done line old new) _ _ (λ line one. one.ends)
      (by-status serves is).load;
  load_after_say_fault = λ job s before after old new serves is.
      line-more (λ line. EndsLoad g.T.Station status.SayFault line old new) _ _ (λ line one. one.ends)
      (by-status serves is).load;
  load_after_no_memory = λ job s before after old new serves asked is.
      let one = line-asked (λ line. EndsLoad g.T.Station status.NoMemory line old new) job (by-status serves is).load
      asked in one.1.ends;
  load_completes = λ job s before after old new serves asked no_say.
      let one = line-asked (λ line. EndsLoad g.T.Station s line old new) job serves.load asked in
      load-completes g.T.Station s one.0 _ _ old new one.1.ends one.1.counted no_say;
  found_in_load = λ job s before after old new serves.
      line-more (λ line. EndsLoad g.T.Station s line old new) _ _ (λ line one. one.found) serves.load;
}
