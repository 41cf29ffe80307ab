-- The longest runs of what runs spell are these runs.
use Rattle.sz_cells.proofs.LawsOfSets.{runs-spell, runs-one}
use Rattle.sz_cells.proofs.laws.runs_are_one.Goals as goal

pub returns : goal.returns
returns c = record { spelled = runs-spell; only = runs-one }
