-- The session opens with what source and station tell.
use Rattle.sz_commands.specs.States.{nothing_held}
use Rattle.sz_session.proofs.serving.play.Given as goal

abbrev pub ghost-answer_all : goal.ghost-answer_all
ghost-answer_all g a = record {
  held = nothing_held;
  left = g.S.Source.left a.source.now;
  said = g.T.Station.said
      a.station.now;
}
