-- The key idea: the number so far is what the bytes so far are mixed to, and it fits 32 bits, so no step wraps.
use Rattle.std.proofs.Common.{◌≡◌, ◌<◌, take, fold}
use Rattle.sz_tables.specs.Payloads.{mixed_byte}
use Rattle.sz_tables.proofs.payload_table.mix_more.Given as goal

abbrev pub invariant-loop-byte : goal.invariant-loop-byte
invariant-loop-byte l = (l.mixed < 4294967296) × (l.mixed ≡ fold mixed_byte l.before (take l.byte-index l.bytes))
