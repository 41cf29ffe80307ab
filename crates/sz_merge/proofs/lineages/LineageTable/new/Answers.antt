-- The first lineage has the number 0.
use Rattle.std.proofs.Common.{◌≡◌, ◌∙◌, ◌<◌, ℕ, List, map, length, false, sym, ap, subst, arith, Some}
use Rattle.std.specs.List.{slice_get}
use Rattle.std.proofs.lemmas.Option.{slice_get_within}
use Rattle.sz_cells.specs.Extent.{Extent}
use Rattle.sz_cells.specs.Cells.{Cells}
use Rattle.sz_merge.specs.Lineages.{nothing}
use Rattle.sz_merge.proofs.Sets.{extents-where}
use Rattle.sz_merge.proofs.lineages.LineageTable.new.Goals as goal

pub add-requires : goal.add-requires
add-requires c =
    let shapes : List Cells → List Extent = λ ss. map (λ (s : Cells). s.extent) ss in
    ap shapes c.in_ok-none.ensures ∙ extents-where c.args.ins.now (λ i x. false) ∙ sym
    (c.in_ok-to_vec.ensures.items_if_clones_equal (λ x y same. same))

pub returns-clause-zero : goal.returns-clause-zero
returns-clause-zero c =
    let lists = c.add.new.self.lists in
    let n = c.in_ok-add.field-0 in
    let at : slice_get lists n ≡ Some (nothing c.args.ins.now) = c.in_ok-add.ensures.number
    ∙ ap Some c.in_ok-none.ensures
    in
    let below : n < length lists = slice_get_within lists n (nothing c.args.ins.now) at in
    let zero : n ≡ 0 = omega (arith, below, c.in_ok-add.ensures.few, ap length c.new.ensures.items) in
    subst (λ (k : ℕ). slice_get lists k ≡ Some (nothing c.args.ins.now)) zero at
