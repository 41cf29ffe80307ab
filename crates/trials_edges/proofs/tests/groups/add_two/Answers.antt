-- What the first append leaves is what the second wants.
use Rattle.sz_log.proofs.Appends.{ends_behind}
use Rattle.trials_edges.proofs.tests.groups.add_two.Goals as goal

pub append-requires-2-clause-log : goal.append-requires-2-clause-log
append-requires-2-clause-log g c = ends_behind _ _ _ _ _ c.requires.log c.in_ok-next.ensures.added
    c.in_ok-next.ensures.end
