-- The lemmas are the laws.
use Rattle.sz_frame.proofs.Kept.{kept-right, one-payload}
use Rattle.sz_frame.proofs.laws.what_is_kept_is_right.Goals as goal

pub returns-clause-kept : goal.returns-clause-kept
returns-clause-kept c = kept-right

pub returns-clause-one : goal.returns-clause-one
returns-clause-one c = one-payload
