-- The runs spell the set.
use Rattle.std.proofs.Common.{◌≡◌, ℕ, List, ap₂, subst}
use Rattle.sz_cells.specs.Cells.{Cells}
use Rattle.sz_cells.specs.Extent.{Extent}
use Rattle.sz_tables.specs.Tables.{spelled}
use Rattle.sz_tables.specs.Sets.{IsRound}
use Rattle.sz_tables.proofs.sets.bounds_of_set.Goals as goal

pub returns : goal.returns
returns c =
    let make : Extent → List ℕ → Cells = λ e ks. record { extent = e; indexes = ks } in
    let is : spelled c.shape.result c.runs.result.now ≡ c.args.set.now =
    ap₂ make c.shape.ensures.value c.runs.ensures.spelled.spelled in
    subst (IsRound c.bounds_of_runs.result) is c.bounds_of_runs.ensures
