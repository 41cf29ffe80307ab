-- Each command does what it does to the catalogue.
use Rattle.sz_feed.proofs.Plain.{sessions-plain}
use Rattle.sz_session.proofs.laws.sessions_of_no_log_are_plain.Goals as goal

pub returns : goal.returns
returns c = sessions-plain
