-- There are as many sets as ends.
use Rattle.std.proofs.Common.{length, ap, arith}
use Rattle.sz_tables.specs.Tables.{SetsByNumber, spans_from}
use Rattle.sz_tables.proofs.Numbered.{sets-count}
use Rattle.sz_tables.proofs.Slices.{spans-count}
use Rattle.sz_tables.proofs.set_table.SetTable.len.Goals as goal

pub returns-clause-count : goal.returns-clause-count
returns-clause-count c =
    let ends = c.self.inside.ends.items in
    let seen = ap (λ (t : SetsByNumber). length t.sets) c.self.view_is in
    omega (
      arith,
      c.len.ensures,
      seen,
      sets-count c.self.inside.shape c.self.inside.runs.items (spans_from 0 ends),
      spans-count 0 ends,
      c.self.invariant.1.few,
    )
