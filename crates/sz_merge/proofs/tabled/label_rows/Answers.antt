-- One row more is one mark more.
use Rattle.std.proofs.Common.{◌≡◌, ◌≤◌, ◌∙◌, ◌++◌, ◌∷◌, [], ◌+◌, ◌<◌, List, length, get_or, take}
use Rattle.std.proofs.Common.{sym, ap, subst, arith, All}
use Rattle.std.proofs.lemmas.List.{length-map, take_more, take_all, get_or-map}
use Rattle.std.proofs.lemmas.List.Elements.{All-more}
use Rattle.std.proofs.lemmas.Option.{unwrap_or-slice_get}
use Rattle.sz_cells.specs.Extent.{size_of}
use Rattle.sz_frame.specs.Parts.{Pairing}
use Rattle.sz_region.specs.Putting.{HasShapes}
use Rattle.sz_tables.specs.Rows.{Row, pairing_of, pairings, sets_of}
use Rattle.sz_tables.specs.Scans.{pairing_at}
use Rattle.sz_merge.specs.Lineages.{lists_of}
use Rattle.sz_merge.specs.Marks.{AreLabels}
use Rattle.sz_merge.proofs.Marked.{labels-more}
use Rattle.sz_merge.proofs.Listed.{row-next, row-shapes}
use Rattle.sz_merge.proofs.tabled.label_rows.Goals as goal

pub label_row-requires-clause-size : goal.label_row-requires-clause-size
label_row-requires-clause-size c = c.loop-row.invariant.labels.long ∙ ap size_of (sym c.requires.out)

pub loop-row-preserved : goal.loop-row-preserved
loop-row-preserved c =
    let t = c.args.table.now in
    let k = c.loop-row.row in
    let ins = t.ins in
    let lists = lists_of ins (sets_of t.sets 0) in
    let g = pairing_of t.outs t.sets in
    let rs = pairings t in
    let r = pairing_at t k in
    let none : Row = record { out = 0; ins = [] } in
    let inside : k < length t.rows = omega (arith, c.len-row-end.ensures.count, c.loop-row-test.true) in
    let long : k < length rs = omega (arith, inside, length-map t.rows g) in
    let one : get_or rs k r ≡ r =
    get_or-map g t.rows k none r inside ∙ ap g (sym (unwrap_or-slice_get t.rows k none)) in
    let grown : take (k + 1) rs ≡ take k rs ++ r ∷ [] =
    take_more rs k r long ∙ ap (λ (p : Pairing). take k rs ++ p ∷ []) one in
    let shapes : HasShapes c.args.out ins r =
    row-shapes t c.args.out k c.len-row-end.ensures.named inside c.requires.one
    (c.label_row.ensures.shape c.if-not-label_row.false ∙ c.requires.out) c.requires.sets in
    let next = row-next t c.args.out k c.len-row-end.ensures.named inside c.requires.one shapes c.requires.sets in
    record {
      labels =
          subst (λ (ps : List Pairing). AreLabels c.args.out ins ps c.label_row.new.labels.items lists) (sym grown)
          (labels-more c.args.out ins (take k rs) r c.loop-row.labels.items c.label_row.new.labels.items lists lists
          c.loop-row.invariant.labels shapes.out
          (c.label_row.ensures.marked c.if-not-label_row.false ins lists next));
      shapes =
          All-more (HasShapes c.args.out ins) rs k r long c.loop-row.invariant.shapes
          (subst (HasShapes c.args.out ins) (sym one) shapes);
    }

pub returns-clause-labels : goal.returns-clause-labels
returns-clause-labels c =
    let t = c.args.table.now in
    let rs = pairings t in
    let enough : length rs ≤ c.loop-row.row =
    omega (
      arith,
      length-map t.rows (pairing_of t.outs t.sets),
      c.len-row-end.ensures.count,
      c.loop-row-test.false,
    ) in
    subst (λ (ps : List Pairing). AreLabels c.args.out t.ins ps c.loop-row.labels.items
    (lists_of t.ins (sets_of t.sets 0))) (take_all c.loop-row.row rs enough) c.loop-row.invariant.labels

pub returns-clause-shapes : goal.returns-clause-shapes
returns-clause-shapes c =
    let t = c.args.table.now in
    let rs = pairings t in
    let enough : length rs ≤ c.loop-row.row =
    omega (
      arith,
      length-map t.rows (pairing_of t.outs t.sets),
      c.len-row-end.ensures.count,
      c.loop-row-test.false,
    ) in
    subst (All (HasShapes c.args.out t.ins)) (take_all c.loop-row.row rs enough) c.loop-row.invariant.shapes
