-- An ask moves to another thread, and at each place it was worked on. Part by part, since what the call asks is of the
-- same parts under another name.
use denote.Param.Send.{param_send}
use Rattle.std.proofs.Common.{subst}
use Rattle.std.specs.Prelude.{get_or}
use Rattle.sz_commands.specs.Asks.{IsWorked}
use Rattle.sz_commands.specs.declared.asking.Asked.{Asked}
use Rattle.sz_commands.specs.contracts.asking.Asked as Sent
use Rattle.sz_commands.proofs.Asks.{zip-each}
use Rattle.sz_commands.proofs.Crossing.{asked_send}
use Rattle.sz_commands.proofs.asking.work_out.Goals as goal

pub for_each_mut-requires-send-T : goal.for_each_mut-requires-send-T
for_each_mut-requires-send-T g c κs within =
    let s = param_send 1 Sent.the_row asked_send in record { owned = s.owned; leaving = s.leaving }

pub returns : goal.returns
returns g c =
    let old = c.args.all.now in
    let new = c.for_each_mut.new.s in
    zip-each IsWorked old new c.for_each_mut.auto.s
    (λ i d lt.
    let at = (c.for_each_mut.ensures i d lt).1 in
    subst (λ (b : Asked). IsWorked (get_or old i d) b) at.left
    (subst (λ (a : Asked). IsWorked a at.after_call.now) at.argument_is at.call))
