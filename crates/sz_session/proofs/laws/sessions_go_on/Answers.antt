-- Replies and transcripts go on by induction over the first lines.
use Rattle.sz_feed.proofs.LawsSessions.{replies-go_on, transcripts-go_on}
use Rattle.sz_session.proofs.laws.sessions_go_on.Goals as goal

pub returns-clause-replies : goal.returns-clause-replies
returns-clause-replies c = replies-go_on

pub returns-clause-transcripts : goal.returns-clause-transcripts
returns-clause-transcripts c = transcripts-go_on
