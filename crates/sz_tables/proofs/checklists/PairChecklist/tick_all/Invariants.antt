-- Those so far are ticked.
use Rattle.std.proofs.Common.{◌≡◌, ◌++◌, map, take}
use Rattle.std.specs.Arc.{arc_value}
use Rattle.sz_tables.proofs.checklists.PairChecklist.tick_all.Given as goal

abbrev pub invariant-loop-region : goal.invariant-loop-region
invariant-loop-region l = (l.self.table ≡ l.initial.self.table)
    × (l.self.ticked ≡ l.initial.self.ticked ++ map (λ a. arc_value a) (take l.region-index l.regions))
