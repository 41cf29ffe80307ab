-- The size is that of the disk from before the look.
use Rattle.std.proofs.Common.{refl, Some, List, ℕ, ap, ◌∙◌, subst, length}
use Rattle.sz_outside.specs.Disk.{HasSize}
use Rattle.sz_outside.specs.Memory.{disk_of}
use Rattle.sz_outside.proofs.stations.MemStationStation.size.Goals as goal

pub returns-clause-size : goal.returns-clause-size
returns-clause-size c =
    subst (λ l. HasSize l (length c.disk.result.now))
    (ap (λ (l : List ℕ). Some l) (c.disk.ensures ∙ ap disk_of c.self.view_is) ∙ c.disk_call.ensures.disk tt) refl
