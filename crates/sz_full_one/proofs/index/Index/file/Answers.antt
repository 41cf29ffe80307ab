-- The output set is filed under the last row, or the region pair in the files of each input.
use Rattle.std.proofs.Common.{◌≡◌, ◌+◌, ◌-◌, ℕ, List, ◌∷◌, length, map, sym, ap, subst, ◌∙◌, arith}
use Rattle.std.specs.List.{All, concat}
use Rattle.std.specs.Vec.{vec_capacity}
use Rattle.sz_cells.specs.Cells.{Cells}
use Rattle.sz_frame.specs.Parts.{Pairing}
use Rattle.sz_full_one.specs.declared.index.SetFiles.{SetFiles}
use Rattle.sz_full_one.specs.declared.index.Index.{Index}
use Rattle.sz_full_one.specs.ByCells.{AreFilesOf, IsIndexOf, HasFileRoom, HasRoom, with_filed, pair_cells}
use Rattle.sz_full_one.specs.ByCells.{file_capacities, index_capacities}
use Rattle.sz_tables.specs.Filed.{Files}
use Rattle.sz_full_one.proofs.Growing.{written-back, outs-filed}
use Rattle.sz_full_one.proofs.index.Index.file.Goals as goal

pub returns-in-Outs-clause-index : goal.returns-in-Outs-clause-index
returns-in-Outs-clause-index c =
    let grown = c.requires.grown in
    let row : ℕ = c.len-row.result - 1 in
    let out : c.deref.result.now ≡ c.args.region.now.out =
    c.deref.ensures ∙ ap (λ (r : Pairing). r.out) c.region.view_is in
    outs-filed grown.0 c.args.table.now c.args.region.now row c.in-Outs.rows c.file_set.new.files grown.1
    (omega (arith, c.len-row.ensures.count, grown.1.one))
    (subst (λ (x : Index). IsIndexOf grown.0 x) c.in-Outs.is grown.2)
    (c.file_set.ensures ∙ ap (λ (s : Cells). with_filed c.in-Outs.rows s.indexes row) out)

pub returns-in-Outs-clause-capacities : goal.returns-in-Outs-clause-capacities
returns-in-Outs-clause-capacities c =
    ap (λ (f : Files). f.capacities) c.file_set.ensures
    ∙ sym (ap index_capacities c.in-Outs.is)

pub returns-in-Ins-clause-capacities : goal.returns-in-Ins-clause-capacities
returns-in-Ins-clause-capacities c =
    let new : List SetFiles = c.file_inputs.new.inputs in
    let value = c.deref_mut.ensures.value in
    let whole = written-back c.in-Ins.inputs.items new c.in-Ins.inputs.len c.in-Ins.inputs.ok.0
    (c.file_inputs.auto.inputs ∙ ap (λ (fs : List SetFiles). length fs) value) in
    ap (λ (fs : List SetFiles). vec_capacity c.in-Ins.inputs ∷ concat (map file_capacities fs)) whole
    ∙ ap (λ (ns : List (List ℕ)). vec_capacity c.in-Ins.inputs ∷ concat ns)
    (c.file_inputs.ensures.capacities ∙ ap (map file_capacities) value)
    ∙ sym (ap index_capacities c.in-Ins.is)

pub returns-in-Ins-clause-room : goal.returns-in-Ins-clause-room
returns-in-Ins-clause-room c =
    let new : List SetFiles = c.file_inputs.new.inputs in
    let value = c.deref_mut.ensures.value in
    let whole = written-back c.in-Ins.inputs.items new c.in-Ins.inputs.len c.in-Ins.inputs.ok.0
    (c.file_inputs.auto.inputs ∙ ap (λ (fs : List SetFiles). length fs) value) in
    λ cells count some.
    subst (λ (fs : List SetFiles). All (HasFileRoom cells count) fs) (sym whole)
    (c.file_inputs.ensures.room cells count
    (subst (λ (fs : List SetFiles). All (HasFileRoom (pair_cells c.args.region.now + cells) (count + 1)) fs)
    (sym value)
    (subst (λ (x : Index). HasRoom (pair_cells c.args.region.now + cells) (count + 1) x) c.in-Ins.is some)))
