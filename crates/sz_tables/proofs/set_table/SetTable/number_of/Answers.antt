-- A set of the table has the table's shape.
use Rattle.std.proofs.Common.{◌≡◌, ◌∙◌, ap, arith}
use Rattle.std.specs.List.{slice_get}
use Rattle.std.proofs.lemmas.Bool.Decides.{nat_tests}
use Rattle.sz_tables.specs.Tables.{SetsByNumber, runs_by_number, spans_from}
use Rattle.sz_tables.proofs.Numbered.{shape-of}
use Rattle.sz_tables.proofs.set_table.SetTable.number_of.Goals as goal

pub returns-then-ne : goal.returns-then-ne
returns-then-ne c n there =
    let s = c.self.inside in
    let own = shape-of s.shape (runs_by_number s.runs.items (spans_from 0 s.ends.items)) n c.args.set.now
    (ap (λ (t : SetsByNumber). slice_get t.sets n) c.self.view_is ∙ there) in
    let same : c.shape.result ≡ s.shape = c.shape.ensures.value ∙ own in
    grind (c.ne.ensures, c.if-ne.true, same, arith, nat_tests)
