-- A cut shortens the disk and its marks, where it is done.
use Rattle.std.proofs.Common.{List, ℕ, true, false, inl, inr, refl, ap, ◌∙◌, take}
use Rattle.sz_outside.specs.History.{scene_before}
use Rattle.sz_outside.specs.declared.history.Act.TheVariants as act
use Rattle.sz_outside.proofs.Scenes.{shows_call, shows_next}
use Rattle.sz_outside.proofs.history.History.note_cut.Goals as goal

pub invariant_of-self : goal.invariant_of-self
invariant_of-self c =
    shows_call c.push_call.result (scene_before c.self.inside.start.items) c.self.inside.calls.items _
    (record { act = act.Cut c.args.size; bytes = c.args.bytes.now; is_done = false })
    c.push_call.ensures.ok c.push_call.ensures.err
    c.self.invariant
    (record {
      disk = c.self.invariant.disk;
      said = c.self.invariant.said;
      synced = c.self.invariant.synced;
      ones = c.self.invariant.ones;
      torn = (_, c.self.invariant.torn, inl refl);
    })

pub invariant_of-self-2 : goal.invariant_of-self-2
invariant_of-self-2 c =
    shows_next (scene_before c.self.inside.start.items) c.self.inside.calls.items _
    (record { act = act.Cut c.args.size; bytes = c.args.bytes.now; is_done = true }) c.in_ok-push_call.ensures.ok
    (record {
      disk = c.truncate.ensures.items ∙ ap (λ (l : List ℕ). take c.args.size l) c.self.invariant.disk;
      said = c.self.invariant.said;
      synced = c.self.invariant.synced;
      ones = c.truncate-2.ensures.items ∙ ap (λ (l : List ℕ). take c.args.size l) c.self.invariant.ones;
      torn = (_, c.self.invariant.torn, inr refl);
    })
