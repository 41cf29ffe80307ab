-- Telling goes by parts, since the cut does.
use Rattle.sz_feed.proofs.Moments.{told_in-parts, moment_after-parts, told_in-whole, transcript-told}
use Rattle.sz_session.proofs.laws.telling_goes_by_parts.Goals as goal

pub returns-clause-told : goal.returns-clause-told
returns-clause-told c = told_in-parts

pub returns-clause-moments : goal.returns-clause-moments
returns-clause-moments c = moment_after-parts

pub returns-clause-transcripts : goal.returns-clause-transcripts
returns-clause-transcripts c = transcript-told

pub returns-clause-whole : goal.returns-clause-whole
returns-clause-whole c = told_in-whole
