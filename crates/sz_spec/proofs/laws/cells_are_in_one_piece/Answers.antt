-- Each clause is a lemma of the definitions.
use Rattle.sz_spec.proofs.CellPieces.{piece-of, piece-held, pieces-few}
use Rattle.sz_spec.proofs.laws.cells_are_in_one_piece.Goals as goal

pub returns-clause-one : goal.returns-clause-one
returns-clause-one c = piece-of

pub returns-clause-held : goal.returns-clause-held
returns-clause-held c = piece-held

pub returns-clause-few : goal.returns-clause-few
returns-clause-few c = pieces-few
