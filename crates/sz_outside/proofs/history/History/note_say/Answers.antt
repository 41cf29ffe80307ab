-- What is said stands behind the rest.
use Rattle.std.proofs.Common.{◌++◌, List, ℕ, true, false, sym, ap, ◌∙◌}
use Rattle.sz_outside.specs.History.{scene_before}
use Rattle.sz_outside.specs.declared.history.Act.TheVariants as act
use Rattle.sz_outside.proofs.Scenes.{shows_call, shows_next, of_done}
use Rattle.sz_outside.proofs.history.History.note_say.Goals as goal

pub invariant_of-self : goal.invariant_of-self
invariant_of-self c =
    shows_call c.push_call.result (scene_before c.self.inside.start.items) c.self.inside.calls.items _
    (record { act = act.Say; bytes = c.args.bytes.now; is_done = false }) c.push_call.ensures.ok c.push_call.ensures.err
    c.self.invariant c.self.invariant

pub invariant_of-self-else-is_err : goal.invariant_of-self-else-is_err
invariant_of-self-else-is_err c =
    shows_next (scene_before c.self.inside.start.items) c.self.inside.calls.items _
    (record { act = act.Say; bytes = c.args.bytes.now; is_done = true })
    (of_done c.push_call-kept.result (sym c.if-is_err.ensures.value) c.push_call-kept.ensures.ok)
    (record {
      disk = c.self.invariant.disk;
      said = c.in_ok-extend_from_slice.ensures.items ∙ ap (λ (l : List ℕ). l ++ c.args.bytes.now) c.self.invariant.said;
      synced = c.self.invariant.synced;
      ones = c.self.invariant.ones;
      torn = c.self.invariant.torn;
    })
