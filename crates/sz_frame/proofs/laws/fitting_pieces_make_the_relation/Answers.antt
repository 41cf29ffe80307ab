-- The lemmas are the laws.
use Rattle.sz_frame.proofs.AllPieces.{regions-all, pays-all, comps-all}
use Rattle.sz_frame.proofs.laws.fitting_pieces_make_the_relation.Goals as goal

pub returns-clause-full : goal.returns-clause-full
returns-clause-full c = regions-all

pub returns-clause-pay : goal.returns-clause-pay
returns-clause-pay c = pays-all

pub returns-clause-comp : goal.returns-clause-comp
returns-clause-comp c = comps-all
