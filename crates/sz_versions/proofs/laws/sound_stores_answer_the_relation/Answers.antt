-- Views by stores that stand for the relation are views of the version.
use Rattle.sz_versions.proofs.FromLogs.{recalled-sound}
use Rattle.sz_versions.proofs.laws.sound_stores_answer_the_relation.Goals as goal

pub returns : goal.returns
returns c = recalled-sound
