-- The list is empty, and has room.
use Rattle.std.proofs.Common.{◌∙◌, arith}
use Rattle.sz_ops_move.proofs.lookup.entries.Goals as goal

pub push_entries-requires-clause-none : goal.push_entries-requires-clause-none
push_entries-requires-clause-none c = c.reserve.ensures.items ∙ c.new-entries.ensures.items

pub push_entries-requires-clause-empty : goal.push_entries-requires-clause-empty
push_entries-requires-clause-empty c = c.reserve.ensures.len ∙ c.new-entries.ensures.len

pub push_entries-requires-clause-room : goal.push_entries-requires-clause-room
push_entries-requires-clause-room c = omega (arith, c.in_ok-reserve.ensures.ok)
