-- Of a line past the limit it matters alone whether it is blank.
use Rattle.sz_feed.proofs.Moments.{told_in-alike, moment_after-alike, told_at_end-alike}
use Rattle.sz_session.proofs.laws.alike_moments_tell_the_same.Goals as goal

pub returns-clause-told : goal.returns-clause-told
returns-clause-told c = told_in-alike

pub returns-clause-alike : goal.returns-clause-alike
returns-clause-alike c = moment_after-alike

pub returns-clause-end : goal.returns-clause-end
returns-clause-end c = told_at_end-alike
