-- The cut of a text, by induction over its bytes.
use Rattle.sz_feed.proofs.Cuts.{cut-parts, before_cut-both, lines_of-cut}
use Rattle.sz_feed.proofs.LawsLines.{cut-joined}
use Rattle.sz_session.proofs.laws.lines_are_cut_where_they_end.Goals as goal

pub returns-clause-joined : goal.returns-clause-joined
returns-clause-joined c = cut-joined

pub returns-clause-lines : goal.returns-clause-lines
returns-clause-lines c = lines_of-cut

pub returns-clause-parts : goal.returns-clause-parts
returns-clause-parts c = cut-parts

pub returns-clause-both : goal.returns-clause-both
returns-clause-both c = before_cut-both
