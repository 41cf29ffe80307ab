-- Each ending is a case of the record.
use Rattle.sz_commands.specs.States.{nothing_held}
use Rattle.sz_session.proofs.Ends.{completes}
use Rattle.sz_session.proofs.Modes.{by-status}
use Rattle.sz_session.proofs.endings.play_says_the_transcript.Goals as goal

pub returns : goal.returns
returns g c = record {
  done = λ job s before after old new serves asked is. ((by-status serves is).play asked).ends;
  after_read_fault = λ job s before after old new serves asked is. ((by-status serves is).play asked).ends;
  after_say_fault = λ job s before after old new serves asked is. ((by-status serves is).play asked).ends;
  after_no_memory = λ job s before after old new serves asked is. ((by-status serves is).play asked).ends;
  after_input_limit = λ job s before after old new serves asked is. ((by-status serves is).play asked).ends;
  completes = λ job s before after old new serves asked within no_read no_say.
      let one = serves.play asked in
      completes g.T.Station nothing_held s _ _ _ _ _ _ _ old new one.ends one.counted within no_read no_say;
  found_in_play = λ job s before after old new serves asked. (serves.play asked).found;
}
