-- The runs are all of the number.
use Rattle.std.proofs.Common.{List, ap, ◌∙◌}
use Rattle.std.specs.List.{flat_map}
use Rattle.sz_cells.specs.declared.Run.{Run}
use Rattle.sz_cells.specs.Cells.{Cells}
use Rattle.sz_cells.specs.Runs.{indexes_of}
use Rattle.sz_ops_region.proofs.Sets.{set-made}
use Rattle.sz_ops_region.proofs.run_lists.RunList.into_set.Goals as goal

pub returns : goal.returns
returns c =
    let make : List Run → Cells = λ rs. record { extent = c.args.shape; indexes = flat_map indexes_of rs } in
    c.from_runs.ensures ∙ ap make c.self.view_is ∙ set-made c.args.shape c.args.marks.now c.args.number c.args.self
    c.requires
