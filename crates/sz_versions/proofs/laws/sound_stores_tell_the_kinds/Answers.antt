-- The lemma is the law.
use Rattle.sz_versions.proofs.SoundKinds.{sound-told}
use Rattle.sz_versions.proofs.laws.sound_stores_tell_the_kinds.Goals as goal

pub returns : goal.returns
returns c = sound-told
