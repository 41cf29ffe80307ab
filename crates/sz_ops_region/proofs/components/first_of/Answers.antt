-- The first run begins at the least index.
use Rattle.std.proofs.Common.{List, sym, ap, ◌∙◌}
use Rattle.std.specs.List.{slice_get}
use Rattle.sz_cells.specs.declared.Run.{Run}
use Rattle.sz_ops_region.proofs.Labels.{index-some, index-none}
use Rattle.sz_ops_region.proofs.components.first_of.Goals as goal

pub returns-in-Some : goal.returns-in-Some
returns-in-Some c =
    sym (index-some c.args.set.now.indexes c.in-Some.run'.now
    (ap (λ (rs : List Run). slice_get rs 0) (sym c.runs.ensures.only) ∙ sym c.in-Some.ensures.value))

pub returns-in-None : goal.returns-in-None
returns-in-None c =
    sym (index-none c.args.set.now.indexes
    (ap (λ (rs : List Run). slice_get rs 0) (sym c.runs.ensures.only) ∙ sym c.in-None.ensures.value))
