-- Each version that a sound log gave is answered by its stores as by the relation, and so are its kinds told.
use Rattle.sz_feed.proofs.SoundLogs.{sound-logs-plain}
use Rattle.sz_session.proofs.laws.sound_logs_are_plain.Goals as goal

pub returns : goal.returns
returns c = sound-logs-plain c.sound_stores_tell_the_kinds.ensures
