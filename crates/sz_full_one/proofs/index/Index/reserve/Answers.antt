-- The files keep their keys and entries.
use Rattle.std.proofs.Common.{◌≡◌, List, length, sym, ap, subst, ◌∙◌}
use Rattle.sz_full_one.specs.declared.index.SetFiles.{SetFiles}
use Rattle.sz_full_one.specs.declared.index.Index.{Index}
use Rattle.sz_full_one.specs.ByCells.{AreFilesOf, IsIndexOf}
use Rattle.sz_full_one.proofs.Growing.{written-back, files-kept}
use Rattle.sz_full_one.proofs.index.Index.reserve.Goals as goal

pub returns-in-Ins-clause-index : goal.returns-in-Ins-clause-index
returns-in-Ins-clause-index c =
    let old : List SetFiles = c.deref_mut.result.now in
    let new : List SetFiles = c.reserve_inputs.new.inputs in
    let value = c.deref_mut.ensures.value in
    let same : length new ≡ length old = c.reserve_inputs.auto.inputs in
    let whole = written-back c.in-Ins.inputs.items new c.in-Ins.inputs.len c.in-Ins.inputs.ok.0
    (same ∙ ap (λ (fs : List SetFiles). length fs) value) in
    λ t index.
    subst (λ (fs : List SetFiles). AreFilesOf t fs) (sym whole)
    (files-kept t old new same c.reserve_inputs.ensures.kept
    (subst (λ (fs : List SetFiles). AreFilesOf t fs) (sym value)
    (subst (λ (x : Index). IsIndexOf t x) c.in-Ins.is index)))
