-- A remainder is below what divides.
use Rattle.std.proofs.Common.{arith}
use Rattle.sz_gen.specs.Draws.{draw_of}
use Rattle.sz_gen.specs.Laws.{DrawsAreBelow}
use Rattle.sz_gen.proofs.laws.draws_are_below.Goals as goal

draws_are_below_law : DrawsAreBelow
unfolding draw_of
draws_are_below_law x m some = omega arith

pub returns : goal.returns
returns c = draws_are_below_law
