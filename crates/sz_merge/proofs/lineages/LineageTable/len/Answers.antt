-- Lineages differ, since their words do.
use Rattle.sz_tables.specs.Tables.{AreDifferent}
use Rattle.std.proofs.Common.{subst}
use Rattle.sz_merge.specs.Lineages.{Lineages}
use Rattle.sz_merge.proofs.Sets.{lists-different}
use Rattle.sz_merge.proofs.lineages.LineageTable.len.Goals as goal

pub returns-clause-different : goal.returns-clause-different
returns-clause-different c =
    subst (λ (t : Lineages). AreDifferent t.lists) c.self.view_is
    (lists-different c.self.inside.lists.items c.self.inside.words.payloads c.self.invariant.spelled
    c.self.invariant.different)
