-- One entry is counted under the number of a version that is held.
use Rattle.sz_recover.proofs.Entries.{entries-found, versions-awaited}
use Rattle.sz_recover.proofs.laws.held_versions_have_entries.Goals as goal

pub returns-clause-found : goal.returns-clause-found
returns-clause-found c = entries-found

pub returns-clause-awaited : goal.returns-clause-awaited
returns-clause-awaited c = versions-awaited
