-- The runs cover exactly the cells of the group.
use Rattle.std.proofs.Common.{◌∙◌}
use Rattle.sz_frame.proofs.Grouping.{group-made}
use Rattle.sz_frame.proofs.groups.group.Goals as goal

pub returns : goal.returns
returns c =
    let runs = c.in_ok-runs.runs.items in
    c.in_ok-new.ensures.ok ∙ c.from_runs-set.ensures
    ∙ group-made c.args.shape c.args.start c.args.kept.now c.args.place runs c.in_ok-runs.ensures.longest
    c.in_ok-runs.ensures.covered
