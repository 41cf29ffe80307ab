-- Group by group, the entries are those of the versions.
use Rattle.sz_recover.proofs.Entries.{well-made}
use Rattle.sz_recover.proofs.laws.well_made_logs_keep_their_versions.Goals as goal

pub returns : goal.returns
returns c = well-made
