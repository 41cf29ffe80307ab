-- Lines are cut off one by one.
use Rattle.sz_feed.proofs.LawsLines.{lines-joined, lines-and_last, each-text_is_lines}
use Rattle.sz_session.proofs.laws.lines_are_those_joined_by_newlines.Goals as goal

pub returns-clause-joined : goal.returns-clause-joined
returns-clause-joined c = lines-joined

pub returns-clause-last : goal.returns-clause-last
returns-clause-last c = lines-and_last

pub returns-clause-each : goal.returns-clause-each
returns-clause-each c = each-text_is_lines
