-- What the body says is the version itself, so each condition on it is one on the version.
use Rattle.sz_bodies.proofs.Written.{written-lawful}
use Rattle.sz_bodies.proofs.laws.written_bodies_are_lawful.Goals as goal

pub returns : goal.returns
returns c = written-lawful
