-- The place so far is within the bytes.
use Rattle.std.proofs.Common.{◌≤◌, length}
use Rattle.sz_tables.proofs.reading.find_front.Given as goal

abbrev pub invariant-loop-index : goal.invariant-loop-index
invariant-loop-index l = l.place ≤ length l.bytes
