-- The counts tell the status, mode by mode.
use Rattle.std.proofs.Common.{refl}
use Rattle.sz_session.specs.declared.serving.Status.TheVariants as status
use Rattle.sz_session.proofs.Statuses.{status-counted}
use Rattle.sz_session.proofs.endings.faults_are_counted.Goals as goal

pub returns : goal.returns
returns g c = record {
  quiet = λ job s before after old new serves is. status-counted serves status.Done refl is;
  read_fault = λ job s before after old new serves is. (status-counted serves status.ReadFault refl is).0;
  say_fault = λ job s before after old new serves is. (status-counted serves status.SayFault refl is).1;
  disk_fault = λ job s before after old new serves is. (status-counted serves status.DiskFault refl is).2;
}
