-- Each set before this one has a cell.
use Rattle.std.proofs.Common.{◌≢◌, [], take, All}
use Rattle.sz_cells.specs.SetBytes.{IsSetOf}
use Rattle.sz_spec.specs.Values.{extent_at}
use Rattle.sz_tables.specs.Rows.{sets_of}
use Rattle.sz_merge.proofs.tabled.have_cells.Given as goal

abbrev pub invariant-loop-number : goal.invariant-loop-number
invariant-loop-number l = record {
  sets : All (IsSetOf (extent_at l.table.ins 0)) (take l.number (sets_of l.table.sets 0));
  some : All (λ s. s.indexes ≢ []) (take l.number (sets_of l.table.sets 0));
}
