-- Part by part, what the bytes begin with is said in one way only.
use Rattle.sz_bodies.proofs.OneWay.{bodies-one}
use Rattle.sz_bodies.proofs.laws.bodies_are_read_in_one_way.Goals as goal

pub returns : goal.returns
returns c = bodies-one
