-- The rectangle is the square.
use Rattle.std.proofs.Common.{◌∙◌}
use Rattle.sz_spec.specs.Rectangles.{is_in_rectangle}
use Rattle.sz_spec.specs.Operators.Clean.{is_in_square}
use Rattle.sz_frame.proofs.Added.{own-at}
use Rattle.sz_payload.proofs.Meeting.{met-held}
use Rattle.sz_payload.proofs.clean.square_meets.Goals as goal

pub returns : goal.returns
returns c =
    c.rectangle_meets.ensures
    ∙ met-held c.args.from.now c.args.shape (is_in_rectangle c.square_round.result)
    (is_in_square c.args.shape c.args.cell)
    (own-at c.args.from.now c.args.shape c.requires.from c.shape.ensures.rising) c.square_round.ensures.cells
