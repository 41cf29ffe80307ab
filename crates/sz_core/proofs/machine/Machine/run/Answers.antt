-- Each event happens in the state to which those before it led.
use Rattle.std.proofs.Common.{◌≡◌, List, take, ap, ◌∙◌, arith, ◌++◌, ◌∷◌, []}
use Rattle.std.proofs.lemmas.List.{take_all}
use Rattle.sz_core.specs.declared.events.Told.{Told}
use Rattle.sz_core.specs.Events.{last_state, replies}
use Rattle.sz_core.proofs.Running.{last-next, replies-next}
use Rattle.sz_core.proofs.machine.Machine.run.Goals as goal

pub loop-event-preserved : goal.loop-event-preserved
loop-event-preserved c =
    let inv = c.loop-event.invariant in
    let s = c.args.self.now in
    let pushed : c.push_reserved.new.self.items ≡ c.loop-event.told.items ++ c.in_ok-reply.reply ∷ [] =
    c.push_reserved.ensures.items ∙ ap (λ (ts : List Told). ts ++ c.in_ok-reply.reply ∷ [])
    c.in_ok-reserve.ensures.items in (
      last-next s c.loop-event.self c.step.new.self c.args.events.now c.loop-event.event-index _
          c.loop-event-test.true inv.0 c.in_ok-reply.ensures.after,
      replies-next s c.loop-event.self c.loop-event.told.items c.push_reserved.new.self.items c.in_ok-reply.reply
          c.args.events.now c.loop-event.event-index _
          c.loop-event-test.true inv.0 inv.1 c.in_ok-reply.ensures.ok pushed,
    )

pub returns : goal.returns
returns c =
    let inv = c.loop-event.invariant in
    let whole : take c.loop-event.event-index c.args.events.now ≡ c.args.events.now =
    take_all c.loop-event.event-index c.args.events.now (omega arith) in
    record {
      ok = inv.1 ∙ ap (replies c.args.self.now) whole;
      after = inv.0 ∙ ap (last_state c.args.self.now) whole;
      err = tt;
    }
