-- Replies go on, so those to the first lines stand at the front.
use Rattle.sz_feed.proofs.Turns.{first-part}
use Rattle.sz_session.proofs.laws.first_replies_are_a_part.Goals as goal

pub returns : goal.returns
returns c = first-part
