-- The rectangle is the square.
use Rattle.std.proofs.Common.{◌∙◌}
use Rattle.sz_spec.specs.Rectangles.{is_in_rectangle}
use Rattle.sz_spec.specs.Operators.Clean.{is_in_square}
use Rattle.sz_spec.proofs.CodeSquare.{with-same}
use Rattle.sz_spec.proofs.squares.square.Goals as goal

pub returns : goal.returns
returns c = c.add_rectangle.ensures
    ∙ with-same c.args.to.now (is_in_rectangle c.square_round.result) (is_in_square c.args.shape c.args.cell)
    (rw c.requires.to c.square_round.ensures.cells)
