-- What stands behind the cells is numbered, and the cells are sorted by their numbers.
use Rattle.std.proofs.Common.{◌≡◌, ◌∙◌, List, map, length, sym, ap, subst, All}
use Rattle.std.specs.Arc.{arc_value}
use Rattle.sz_cells.specs.Extent.{Extent}
use Rattle.sz_cells.specs.Cells.{Cells}
use Rattle.sz_frame.specs.Parts.{Pairing}
use Rattle.sz_region.specs.Putting.{HasShapes}
use Rattle.sz_frame.specs.Stands.{full_stands}
use Rattle.sz_merge.specs.Distinct.{AreKinds}
use Rattle.sz_merge.specs.Marks.{AreLabels, kinds_below}
use Rattle.sz_merge.proofs.Sorting.{AreSorted, sorted-from, sorted-longest, kinds-are, kinds-shapes, kinds-same}
use Rattle.sz_merge.proofs.kinds.kinds_of.Goals as goal
use Rattle.sz_merge.proofs.kinds.kinds_of.Goals.{After-lists, In_ok-kinds}

sorted : (c : After-lists) → AreSorted c.args.out c.args.ins.now (map (λ a. arc_value a) c.args.regions.now)
    c.in_ok-labels.labels.items c.in_ok-groups.groups c.label_cells.new.lineages.lists
sorted c =
    let rs : List Pairing = map (λ a. arc_value a) c.args.regions.now in
    let lists = c.label_cells.new.lineages.lists in
    let labels = c.in_ok-labels.labels.items in
    let numbers : AreLabels c.args.out c.args.ins.now rs labels lists =
    subst (λ (es : List Extent). AreLabels c.args.out es rs labels lists) c.in_ok-lineages.ensures.ins
    c.in_ok-labels.ensures.ok in
    sorted-from c.args.out c.args.ins.now rs labels c.deref.result.now c.in_ok-groups.groups
    lists c.len.result numbers c.deref.ensures.value c.len.ensures.count c.in_ok-groups.ensures c.len.ensures.different
    c.requires

made : (c : In_ok-kinds) → map (λ a. arc_value a) c.in_ok-kinds.kinds.items
    ≡ kinds_below c.args.out c.in_ok-groups.groups c.label_cells.new.lineages.lists
    (length c.label_cells.new.lineages.lists)
made c =
    c.in_ok-kinds.ensures
    ∙ ap (λ (ls : List (List Cells)). kinds_below c.args.out c.in_ok-groups.groups ls
    (length ls)) c.lists.ensures

pub regions_of-requires-clause-groups : goal.regions_of-requires-clause-groups
regions_of-requires-clause-groups c =
    sorted-longest c.args.out c.args.ins.now (map (λ a. arc_value a) c.args.regions.now) c.in_ok-labels.labels.items
    c.in_ok-groups.groups c.label_cells.new.lineages.lists
    (sorted (goal.at.regions_of-requires-clause-groups c).After-lists)

pub returns-clause-kinds : goal.returns-clause-kinds
returns-clause-kinds c =
    subst AreKinds (sym (made (goal.at.returns-clause-kinds c).In_ok-kinds))
    (kinds-are c.args.out c.args.ins.now (map (λ a. arc_value a) c.args.regions.now) c.in_ok-labels.labels.items
    c.in_ok-groups.groups c.label_cells.new.lineages.lists
    (sorted (goal.at.returns-clause-kinds c).After-lists))

pub returns-clause-shapes : goal.returns-clause-shapes
returns-clause-shapes c =
    subst (λ (ms : List Pairing). All (HasShapes c.args.out c.args.ins.now) ms)
    (sym (made (goal.at.returns-clause-shapes c).In_ok-kinds))
    (kinds-shapes c.args.out c.args.ins.now (map (λ a. arc_value a) c.args.regions.now) c.in_ok-labels.labels.items
    c.in_ok-groups.groups c.label_cells.new.lineages.lists
    (sorted (goal.at.returns-clause-shapes c).After-lists))

pub returns-clause-same : goal.returns-clause-same
returns-clause-same c i o x inside =
    ap (λ (ms : List Pairing). full_stands ms i o x) (made (goal.at.returns-clause-same c).In_ok-kinds)
    ∙ kinds-same c.args.out c.args.ins.now (map (λ a. arc_value a) c.args.regions.now) c.in_ok-labels.labels.items
    c.in_ok-groups.groups c.label_cells.new.lineages.lists i o x
    (sorted (goal.at.returns-clause-same c).After-lists) inside
