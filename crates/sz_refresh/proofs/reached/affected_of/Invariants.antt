-- What was added is what the changed cells of the inputs before this one reach.
use Rattle.std.proofs.Common.{◌≡◌, map}
use Rattle.std.specs.Arc.{arc_value}
use Rattle.sz_cells.specs.Cells.{no_cells, with_those}
use Rattle.sz_refresh.specs.Changes.{changed_from}
use Rattle.sz_refresh.proofs.Changes.{reached_by}
use Rattle.sz_refresh.proofs.reached.affected_of.Given as goal

abbrev pub invariant-loop-number : goal.invariant-loop-number
invariant-loop-number l =
    l.to ≡ with_those (no_cells l.at.out) (reached_by l.at.op (map (λ a. arc_value a) l.old)
    (map (λ a. arc_value a) l.new) (map (changed_from l.input l.changed l.sets) l.from) l.number)
