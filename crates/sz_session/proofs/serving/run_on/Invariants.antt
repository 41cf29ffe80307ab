-- The session opens with what the feed holds, and with what source and station tell.
use Rattle.sz_session.proofs.serving.run_on.Given as goal

abbrev pub ghost-answer_all : goal.ghost-answer_all
ghost-answer_all g a = record {
  held = a.feed.held;
  left = g.S.Source.left a.source.now;
  said = g.T.Station.said a.station.now;
}
