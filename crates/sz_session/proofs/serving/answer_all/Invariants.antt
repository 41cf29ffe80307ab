-- The session opens with what is handed in.
use Rattle.sz_session.proofs.serving.answer_all.Given as goal

abbrev pub ghost-read_all : goal.ghost-read_all
ghost-read_all g a = g.opening
