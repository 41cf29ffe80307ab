-- The one read of a turn is of the same session.
use Rattle.sz_session.proofs.serving.take_turn.Given as goal

abbrev pub ghost-read_chunk : goal.ghost-read_chunk
ghost-read_chunk g a = g.opening
