-- The least asked index at or after a lower number is the least here where it is not before the start.
use Rattle.std.proofs.Common.{sym, ◌∙◌}
use Rattle.sz_tables.proofs.MetRuns.{next-later, none-later}
use Rattle.sz_tables.proofs.looks.next_from.Goals as goal

pub returns-else-index-start : goal.returns-else-index-start
returns-else-index-start c =
    sym
    (next-later c.args.lower c.args.start c.in-Some.index c.args.from.now.indexes c.requires.order
    c.if-index-start.false (sym c.requires.next ∙ c.in-Some.is))

pub returns-in-None : goal.returns-in-None
returns-in-None c =
    sym (none-later c.args.lower c.args.start c.args.from.now.indexes c.requires.order (sym c.requires.next
    ∙ c.in-None.is))
