-- The key idea: the number so far is what the runs so far are mixed to, and it fits 32 bits, so no step wraps.
use Rattle.std.proofs.Common.{◌≡◌, ◌<◌, take, fold}
use Rattle.sz_tables.specs.Tables.{mixed}
use Rattle.sz_tables.proofs.set_table.mix_more.Given as goal

abbrev pub invariant-loop-run : goal.invariant-loop-run
invariant-loop-run l = (l.mixed < 4294967296) × (l.mixed ≡ fold mixed l.before (take l.run-index l.runs))
