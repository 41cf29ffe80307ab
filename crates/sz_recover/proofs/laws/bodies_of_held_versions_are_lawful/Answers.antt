-- Without the version there is room for it, and its number is new.
use Rattle.sz_recover.proofs.HeldBodies.{held-lawful}
use Rattle.sz_recover.proofs.laws.bodies_of_held_versions_are_lawful.Goals as goal

pub returns : goal.returns
returns c = held-lawful
