-- A disk call leaves what its act leaves.
use Rattle.std.proofs.Common.{is_ok, ap, ◌∙◌}
use Rattle.sz_outside.specs.Memory.{Ledger}
use Rattle.sz_outside.proofs.Ledgers.{Went, went, stops, said, disk, done}
use Rattle.sz_outside.proofs.stations.MemStation.disk_call.Goals.{After-end_disk_call}
use Rattle.sz_outside.proofs.stations.MemStation.disk_call.Goals as goal

called : (c : After-end_disk_call) → Went c.args.self.now c.end_disk_call.new.self c.args.act c.args.bytes.now
    c.next_call-is_done.result (is_ok c.note-kept.result)
called c = went c.note-kept.result _ _ _ _ _ _ _
    (ap (λ (s : Ledger). s.past) (c.self.view_is ∙ c.next_call-is_done.ensures.counted))
    (ap (λ (s : Ledger). s.past) c.end_disk_call.ensures.counted) c.note-kept.ensures.ok c.note-kept.ensures.err

pub returns-clause-done : goal.returns-clause-done
returns-clause-done c =
    done (called (goal.at.returns-clause-done c).After-end_disk_call) c.end_disk_call.result
    c.end_disk_call.ensures.answer (λ then. then)

pub returns-clause-disk : goal.returns-clause-disk
returns-clause-disk c same = disk (called (goal.at.returns-clause-disk c).After-end_disk_call) same

pub returns-clause-output : goal.returns-clause-output
returns-clause-output c = (
  said (called (goal.at.returns-clause-output c).After-end_disk_call) c.requires.disk,
  ap (λ (s : Ledger). s.say_faults) c.end_disk_call.ensures.counted ∙ ap (λ (s : Ledger). s.say_faults)
      (c.self.view_is ∙ c.next_call-is_done.ensures.counted),
)

pub returns-clause-stops : goal.returns-clause-stops
returns-clause-stops c = stops (called (goal.at.returns-clause-stops c).After-end_disk_call) c.requires.fits
