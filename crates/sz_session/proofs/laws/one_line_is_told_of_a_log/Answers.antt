-- What looking at the stores tells is one thing, and the line is read off it.
use Rattle.sz_session.proofs.Sayings.{one-line, sound-lines}
use Rattle.sz_session.proofs.laws.one_line_is_told_of_a_log.Goals as goal

pub returns-clause-one : goal.returns-clause-one
returns-clause-one c = one-line

pub returns-clause-sound : goal.returns-clause-sound
returns-clause-sound c = sound-lines
