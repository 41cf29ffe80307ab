-- The list gets shorter.
use Rattle.std.proofs.Common.{length}
use Rattle.sz_formats.proofs.respelling.+respell_each.Given as goal

abbrev pub decreases-respell_each : goal.decreases-respell_each
decreases-respell_each l = length l.list.now
