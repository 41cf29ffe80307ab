-- The run of the row's indexes is the row between the columns.
use Rattle.std.proofs.Common.{◌∙◌}
use Rattle.sz_payload.proofs.Meeting.{row-met}
use Rattle.sz_payload.proofs.clean.row_meets.Goals as goal

pub returns : goal.returns
returns c =
    c.run_meets.ensures.met
    ∙ (rw (c.index.ensures.value, c.index-2.ensures.value)
    (row-met c.args.shape c.args.from.now c.args.row c.args.left c.args.right c.requires.from c.shape.ensures.rising
    c.requires.cols c.requires.right))
