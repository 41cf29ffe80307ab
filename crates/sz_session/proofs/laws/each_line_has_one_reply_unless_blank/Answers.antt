-- The replies to a line and those behind it, by whether it is blank.
use Rattle.sz_feed.proofs.LawsSessions.{blank-counted, other-replied}
use Rattle.sz_session.proofs.laws.each_line_has_one_reply_unless_blank.Goals as goal

pub returns-clause-blank : goal.returns-clause-blank
returns-clause-blank c = blank-counted

pub returns-clause-other : goal.returns-clause-other
returns-clause-other c = other-replied
