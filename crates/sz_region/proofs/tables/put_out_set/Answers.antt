-- The bytes of the longest runs are those of the set.
use Rattle.std.proofs.Common.{◌≡◌, List, ◌++◌, ap, sym, ◌∙◌}
use Rattle.std.proofs.lemmas.Result.{on_ok_weaker}
use Rattle.sz_cells.specs.declared.Run.{Run}
use Rattle.sz_cells.specs.SetBytes.{set_bytes}
use Rattle.sz_cells.specs.Extent.{size_of}
use Rattle.sz_cells.proofs.Runs.{runs_of-spelled}
use Rattle.sz_region.specs.Taking.{runs_bytes}
use Rattle.sz_region.specs.FullBytes.{Listed}
use Rattle.sz_region.proofs.tables.put_out_set.Goals as goal

pub returns-clause-ok : goal.returns-clause-ok
returns-clause-ok c =
    let set = c.set.inside in
    let word : set_bytes c.args.set.now.set ≡ runs_bytes set.runs.now =
    ap (λ (l : Listed). set_bytes l.set) (sym c.set.view_is)
    ∙ ap (λ (rs : List Run). runs_bytes rs) (runs_of-spelled 0 (size_of set.shape) set.runs.now c.set.invariant) in
    on_ok_weaker c.put_runs.result (λ put. put ∙ ap (λ xs. c.args.to.now.items ++ xs) (sym word)) c.put_runs.ensures.ok
