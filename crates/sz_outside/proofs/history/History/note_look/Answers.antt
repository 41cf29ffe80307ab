-- A look leaves all as it was.
use Rattle.std.proofs.Common.{ℕ, List, Bool, true, false}
use Rattle.sz_outside.specs.History.{Scene, Shows, scene_after, scene_at, scene_before}
use Rattle.sz_outside.specs.Memory.{event}
use Rattle.sz_outside.specs.declared.history.Act.TheVariants as act
use Rattle.sz_outside.proofs.Scenes.{shows_call}
use Rattle.sz_outside.proofs.history.History.note_look.Goals as goal

shown : {d a y o : List ℕ} (s : Scene) (bytes : List ℕ) (is_done : Bool) → Shows d a y o s
    → Shows d a y o (scene_after s (event act.Look bytes is_done))
shown s bytes true known = known
shown s bytes false known = known

pub invariant_of-self : goal.invariant_of-self
invariant_of-self c =
    let before = scene_before c.self.inside.start.items in
    shows_call c.push_call.result before c.self.inside.calls.items _ (event act.Look c.args.bytes.now c.args.is_done)
    c.push_call.ensures.ok c.push_call.ensures.err c.self.invariant
    (shown (scene_at before c.self.inside.calls.items) c.args.bytes.now c.args.is_done c.self.invariant)
