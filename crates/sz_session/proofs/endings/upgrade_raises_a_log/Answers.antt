-- Each ending is a case of the record.
use Rattle.std.proofs.Common.{◌≡◌, ℕ, ⊎_elim}
use Rattle.sz_session.specs.declared.serving.Status.TheVariants as status
use Rattle.sz_session.proofs.Exactly.{upgrade-completes}
use Rattle.sz_session.proofs.Modes.{by-status}
use Rattle.sz_session.proofs.endings.upgrade_raises_a_log.Goals as goal

pub returns : goal.returns
returns g c = record {
  raised = λ job s before after old new serves asked is. ⊎_elim
      (λ (done : s ≡ status.Done). ((by-status serves done).upgrade asked).ends.0)
      (λ (fault : s ≡ status.SayFault). ((by-status serves fault).upgrade asked).ends.0) is;
  said = λ job s before after old new serves asked is. ((by-status serves is).upgrade asked).ends.1;
  said_in_part = λ job s before after old new serves asked is. ((by-status serves is).upgrade asked).ends.1;
  upgrade_after_no_memory = λ job s before after old new serves asked is. ((by-status serves is).upgrade asked).ends;
  upgrade_left_alone = λ job s before after old new serves asked is. ⊎_elim
      (λ (no_log : s ≡ status.NotALog). ((by-status serves no_log).upgrade asked).ends.0)
      (λ (bad : (at : ℕ) × (s ≡ status.BadLog at)). ((by-status serves bad.1).upgrade asked).ends.0) is;
  upgrade_completes = λ job s before after old new serves asked.
      let one = serves.upgrade asked in
      upgrade-completes c.logs_are_read_in_one_way.ensures.whole g.T.Station s old new one.ends one.counted;
  found_in_upgrade = λ job s before after old new serves asked. (serves.upgrade asked).found;
}
