-- The files of the inputs before this one have room, and each has its keys and entries.
use Rattle.std.proofs.Common.{◌≡◌, ◌<◌, ℕ, length, get_or}
use Rattle.sz_full_one.specs.declared.index.SetFiles.{SetFiles}
use Rattle.sz_full_one.specs.ByCells.{HasFileRoom, HasSameFiles}
use Rattle.sz_full_one.proofs.index.reserve_inputs.Given as goal

abbrev pub invariant-loop-files : goal.invariant-loop-files
invariant-loop-files l = record {
  room : (i : ℕ) (d : SetFiles) → i < l.files-index → HasFileRoom l.cells l.count (get_or l.inputs i d);
  kept : (i : ℕ) (d : SetFiles) → i < length l.fn.inputs
      → HasSameFiles (get_or l.fn.inputs i d) (get_or l.inputs i d);
}
