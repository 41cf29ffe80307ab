-- A sync puts the disk as read in the place of the one before.
use Rattle.std.proofs.Common.{true, false, refl, ◌∙◌}
use Rattle.sz_outside.specs.History.{scene_before}
use Rattle.sz_outside.specs.declared.history.Act.TheVariants as act
use Rattle.sz_outside.proofs.Scenes.{shows_call, shows_next}
use Rattle.sz_outside.proofs.history.History.note_sync.Goals as goal

pub invariant_of-self : goal.invariant_of-self
invariant_of-self c =
    shows_call c.push_call.result (scene_before c.self.inside.start.items) c.self.inside.calls.items _
    (record { act = act.Sync; bytes = c.args.bytes.now; is_done = false })
    c.push_call.ensures.ok c.push_call.ensures.err
    c.self.invariant c.self.invariant

pub invariant_of-self-2 : goal.invariant_of-self-2
invariant_of-self-2 c =
    shows_next (scene_before c.self.inside.start.items) c.self.inside.calls.items _
    (record { act = act.Sync; bytes = c.args.bytes.now; is_done = true }) c.in_ok-push_call.ensures.ok
    (record {
      disk = c.self.invariant.disk;
      said = c.self.invariant.said;
      synced = c.in_ok-synced.ensures.items_if_clones_equal (λ x y e. e)
          ∙ (c.as_slice.ensures.value ∙ c.self.invariant.disk);
      ones = c.in_ok-ones.ensures.items_if_clones_equal (λ x y e. e)
          ∙ (c.as_slice-2.ensures.value ∙ c.self.invariant.disk);
      torn = refl;
    })
