-- A write that was broken off took no byte, and one that took some took the next ones.
use Rattle.std.proofs.KnownBytes.{Appends-kept}
use Rattle.sz_outside.proofs.StreamBytes.{appends-more, fits-more}
use Rattle.sz_outside.proofs.streams.write_bytes.Goals as goal
use Rattle.sz_outside.proofs.streams.write_bytes.Goals.{in-Ok, in-Err}

pub writes-preserved : goal.writes-preserved
writes-preserved g c =
    let (fits, taken) = c.writes.invariant in
    elim c.match-write.branch [
      | in-Ok w ↦ rw w.written-is (
        fits-more c.args.bytes.now c.writes.written w.in-Ok.count fits w.in-Ok.ensures.bound,
        appends-more _ _ _ c.args.bytes.now c.writes.written w.in-Ok.count taken w.in-Ok.ensures.bytes,
      )
      | in-Err w ↦ rw w.written-is (fits, Appends-kept _ _ _ _ taken w.in-Err.ensures.bytes)
    ]
