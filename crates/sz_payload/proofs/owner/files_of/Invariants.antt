-- The entries so far are filed.
use Rattle.std.proofs.Common.{take}
use Rattle.sz_tables.specs.Entries.{entries}
use Rattle.sz_payload.specs.Owned.{AreFilesOf}
use Rattle.sz_payload.proofs.owner.files_of.Given as goal

abbrev pub invariant-loop-row : goal.invariant-loop-row
invariant-loop-row l = AreFilesOf l.table.out (take l.row (entries l.table)) l.files
