-- What was not awaited is left out wherever it stands.
use Rattle.sz_recover.proofs.Durable.{starts-not-logged}
use Rattle.sz_recover.proofs.laws.starts_are_not_logged.Goals as goal

pub returns : goal.returns
returns c = starts-not-logged
