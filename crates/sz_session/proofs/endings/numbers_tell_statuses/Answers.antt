-- The table the other way round gives the status back.
use Rattle.std.proofs.Common.{refl}
use Rattle.sz_session.proofs.Numbers.{status-of, place_in}
use Rattle.sz_session.proofs.endings.numbers_tell_statuses.Goals as goal

pub returns : goal.returns
returns c = record {
  done = λ s is. status-of s _ 0 refl is;
  usage = λ s is. status-of s _ 1 refl is;
  read_fault = λ s is. status-of s _ 2 refl is;
  say_fault = λ s is. status-of s _ 3 refl is;
  disk_fault = λ s is. status-of s _ 4 refl is;
  not_a_log = λ s is. status-of s _ 5 refl is;
  already_a_log = λ s is. status-of s _ 6 refl is;
  bad_log = λ s is. (place_in s, status-of s _ 7 refl is);
  no_memory = λ s is. status-of s _ 8 refl is;
  input_limit = λ s is. status-of s _ 9 refl is;
}
