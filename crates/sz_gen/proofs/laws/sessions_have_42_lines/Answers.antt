-- Ten triples and one are 33 lines, and the other nine stand there one by one.
use Rattle.std.proofs.Common.{refl}
use Rattle.sz_gen.specs.Laws.{SessionsHave42Lines}
use Rattle.sz_gen.specs.Session.{strategy_lines, triple, triples}
use Rattle.sz_gen.proofs.laws.sessions_have_42_lines.Goals as goal

sessions_have_42_lines_law : SessionsHave42Lines
unfolding strategy_lines triple triples
sessions_have_42_lines_law seed side = refl

pub returns : goal.returns
returns c = sessions_have_42_lines_law
