-- The bytes are those of the disk from before the look.
use Rattle.std.proofs.Common.{Some, List, ℕ, ap, ◌∙◌, subst, length}
use Rattle.sz_outside.specs.Disk.{GivesAt}
use Rattle.sz_outside.specs.Memory.{disk_of}
use Rattle.sz_outside.proofs.stations.MemStationStation.read_at.Goals as goal

pub returns-clause-bytes : goal.returns-clause-bytes
returns-clause-bytes c =
    subst (λ l. GivesAt l c.args.at (length c.args.into.now) c.give_at.new.into c.give_at.result)
    (ap (λ (l : List ℕ). Some l) (c.disk.ensures ∙ ap disk_of c.self.view_is) ∙ c.disk_call.ensures.disk tt)
    c.give_at.ensures.bytes
