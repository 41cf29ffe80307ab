-- A lineage that was joined is the next.
use Rattle.sz_merge.proofs.Marked.{next-joined}
use Rattle.sz_merge.proofs.joining.new_step.Goals as goal

pub returns-clause-next : goal.returns-clause-next
returns-clause-next c =
    next-joined c.args.lineages.now.ins c.args.region.now c.args.lineages.now.lists c.join.new.lineages.lists
    c.args.from c.in_ok-to.to c.requires.from c.in_ok-to.ensures.kept c.in_ok-to.ensures.number
