-- Where the memory is out before anything was asked nothing changed.
use Rattle.sz_versions.proofs.Still.{trail-same}
use Rattle.sz_versions.proofs.building.ended.Goals as goal

pub returns-in_err-runs-clause-still : goal.returns-in_err-runs-clause-still
returns-in_err-runs-clause-still g c = trail-same c.args.run.now
