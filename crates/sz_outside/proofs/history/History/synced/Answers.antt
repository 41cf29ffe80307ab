-- The disk as at the last sync is an image, whatever is not synced.
use Rattle.std.proofs.Common.{List, ℕ, ◌∙◌, sym, inr, subst}
use Rattle.sz_outside.specs.History.{Scene, MayLeave, scene_at, scene_before}
use Rattle.sz_outside.specs.Memory.{Past, now}
use Rattle.sz_outside.proofs.Scenes.{synced_left}
use Rattle.sz_outside.proofs.history.History.synced.Goals as goal

pub returns-clause-left : goal.returns-clause-left
returns-clause-left c =
    let s : Scene = scene_at (scene_before c.self.inside.start.items) c.self.inside.calls.items in
    let left : MayLeave s c.deref.result.now =
    subst (λ (l : List ℕ). MayLeave s l) (sym (c.deref.ensures.value ∙ c.self.invariant.synced))
    (inr (synced_left s.unsynced s.synced)) in
    subst (λ (p : Past). MayLeave (now p) c.deref.result.now) c.self.view_is left
