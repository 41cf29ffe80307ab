-- Two rows are one where both their numbers are.
use Rattle.std.proofs.Common.{refl}
use Rattle.std.proofs.lemmas.Slice.Eq.{slice_eq-Decides}
use Rattle.sz_tables.specs.declared.entry_table.EntryRow.{EntryRow}
use Rattle.sz_tables.proofs.Same.{numbers-decide}
use Rattle.sz_tables.proofs.checklists.are_same_rows.Goals as goal

pub returns : goal.returns
returns c =
    slice_eq-Decides
    (numbers-decide (λ (r : EntryRow). r.set) (λ r. r.payload) (λ x y. record { set = x; payload = y }) (λ r. refl))
    c.args.a.now c.args.b.now c.eq.result c.eq.ensures
