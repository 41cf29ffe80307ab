-- The key idea: two runs are one where both their ends are.
use Rattle.std.proofs.Common.{refl}
use Rattle.std.proofs.lemmas.Slice.Eq.{slice_eq-Decides}
use Rattle.sz_cells.specs.declared.Run.{Run}
use Rattle.sz_tables.proofs.Same.{numbers-decide}
use Rattle.sz_tables.proofs.set_table.are_same.Goals as goal

pub returns : goal.returns
returns c =
    slice_eq-Decides
    (numbers-decide (λ (r : Run). r.first) (λ r. r.last) (λ x y. record { first = x; last = y }) (λ r. refl))
    c.args.a.now c.args.b.now c.eq.result c.eq.ensures
