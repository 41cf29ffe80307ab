-- The words are ten, all different.
use Rattle.sz_script.proofs.LawsLines.{words}
use Rattle.sz_script.proofs.laws.words_name_their_strategies.Goals as goal

pub returns : goal.returns
returns c = words
