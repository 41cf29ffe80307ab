-- So far each entry is sound.
use Rattle.std.proofs.Common.{take}
use Rattle.sz_recover.specs.Soundness.{AreSoundKept}
use Rattle.sz_recover.proofs.checking.unsound.Given as goal

abbrev pub invariant-loop-kept : goal.invariant-loop-kept
invariant-loop-kept g l = AreSoundKept l.r.catalogue (take l.kept-index l.r.stores.items)
