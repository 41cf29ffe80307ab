-- A read that was broken off took no byte, so at each try the reader has what it had at the start.
use Rattle.std.proofs.Common.{◌≡◌, length}
use Rattle.std.specs.Io.KnownBytes.{Keeps}
use Rattle.sz_outside.proofs.streams.retry_read.Given as goal

abbrev pub invariant-tries : goal.invariant-tries
invariant-tries g l = (length l.into ≡ length l.initial.into)
    × Keeps (g.R.Read.remaining l.initial.reader) (g.R.Read.remaining l.reader)
