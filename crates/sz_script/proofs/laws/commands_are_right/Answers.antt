-- A draft becomes a command where its names are right and its flow has no fault.
use Rattle.sz_script.proofs.LawsLines.{are_right}
use Rattle.sz_script.proofs.laws.commands_are_right.Goals as goal

pub returns : goal.returns
returns c = are_right
