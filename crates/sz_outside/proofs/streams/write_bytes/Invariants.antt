-- The writer took the bytes before `written`, and no other.
use Rattle.std.proofs.Common.{◌≤◌, length, take}
use Rattle.std.specs.Io.KnownBytes.{Appends}
use Rattle.sz_outside.proofs.streams.write_bytes.Given as goal

abbrev pub invariant-writes : goal.invariant-writes
invariant-writes g l = (l.written ≤ length l.bytes)
    × Appends (g.W.Write.contents l.initial.writer) (g.W.Write.contents l.writer) (take l.written l.bytes)
