-- Those so far are ticked.
use Rattle.std.proofs.Common.{◌≡◌, ◌++◌, map, take}
use Rattle.std.specs.Arc.{arc_value}
use Rattle.sz_tables.proofs.checklists.EntryChecklist.tick_all.Given as goal

abbrev pub invariant-loop-entry : goal.invariant-loop-entry
invariant-loop-entry l = (l.self.table ≡ l.initial.self.table)
    × (l.self.ticked ≡ l.initial.self.ticked ++ map (λ a. arc_value a) (take l.entry-index l.entries))
