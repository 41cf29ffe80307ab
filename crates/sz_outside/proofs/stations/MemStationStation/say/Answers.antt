-- What is said stands behind the rest, and a say that failed said nothing.
use Rattle.std.proofs.Common.{ℕ, ◌≤◌, List, Some, ⊎_elim, is_ok, sym, ap, ◌∙◌, subst}
use Rattle.std.proofs.Common.{arith}
use Rattle.std.proofs.lemmas.List.{append-nil}
use Rattle.sz_outside.specs.History.{Scene}
use Rattle.sz_outside.specs.Memory.{Ledger, said_of}
use Rattle.sz_outside.specs.declared.history.Act.TheVariants as act
use Rattle.sz_outside.proofs.Ledgers.{Went, went, stops, disk, done, undone}
use Rattle.sz_outside.proofs.stations.MemStationStation.say.Goals.{After-end_say}
use Rattle.sz_outside.proofs.stations.MemStationStation.say.Goals as goal

told : (c : After-end_say) → Went c.args.self.now c.end_say.new.self act.Say c.args.bytes.now
    c.next_say-is_done.result (is_ok c.note-kept.result)
told c = went c.note-kept.result _ _ _ _ _ _ _
    (ap (λ (s : Ledger). s.past) (c.self.view_is ∙ c.next_say-is_done.ensures.counted))
    (ap (λ (s : Ledger). s.past) c.end_say.ensures.counted) c.note-kept.ensures.ok c.note-kept.ensures.err

pub returns-clause-disk : goal.returns-clause-disk
returns-clause-disk c = (
  disk (told (goal.at.returns-clause-disk c).After-end_say) tt,
  ap (λ (s : Ledger). s.disk_faults) c.end_say.ensures.counted ∙ ap (λ (s : Ledger). s.disk_faults)
      (c.self.view_is ∙ c.next_say-is_done.ensures.counted),
)

pub returns-clause-stops : goal.returns-clause-stops
returns-clause-stops c = stops (told (goal.at.returns-clause-stops c).After-end_say) tt

pub returns-clause-said : goal.returns-clause-said
returns-clause-said c =
    done (told (goal.at.returns-clause-said c).After-end_say) c.end_say.result c.end_say.ensures.answer
    (λ then. ap (λ (s : Scene). Some s.said) then)

pub returns-clause-part : goal.returns-clause-part
returns-clause-part c =
    undone (told (goal.at.returns-clause-part c).After-end_say) c.end_say.result c.end_say.ensures.answer
    (λ then. (
      0,
      omega arith,
      ap (λ (l : List ℕ). Some l)
          (⊎_elim (λ e. ap (λ (s : Scene). s.said) e) (λ e. ap (λ (s : Scene). s.said) e) then ∙ sym
          (append-nil (said_of c.args.self.now))),
    ))

pub returns-clause-faults : goal.returns-clause-faults
returns-clause-faults c =
    subst (λ (n : ℕ). n ≤ c.end_say.new.self.say_faults)
    (ap (λ (s : Ledger). s.say_faults) (c.self.view_is ∙ c.next_say-is_done.ensures.counted)) c.end_say.ensures.rises
