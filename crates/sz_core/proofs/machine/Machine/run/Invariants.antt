-- The events so far have happened, and the replies are theirs.
use Rattle.std.proofs.Common.{◌≡◌, take}
use Rattle.sz_core.specs.Events.{last_state, replies}
use Rattle.sz_core.proofs.machine.Machine.run.Given as goal

abbrev pub invariant-loop-event : goal.invariant-loop-event
invariant-loop-event l = (l.self ≡ last_state l.initial.self (take l.event-index l.events))
    × (l.told.items ≡ replies l.initial.self (take l.event-index l.events))
