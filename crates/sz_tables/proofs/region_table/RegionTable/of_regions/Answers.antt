-- One region pair more is added behind those before it.
use Rattle.std.proofs.Common.{◌≡◌, ◌+◌, List, ◌∷◌, ◌++◌, [], length, map, take, ap, sym, subst, ◌∙◌, refl}
use Rattle.std.proofs.Common.{◌<◌, get_or, arith}
use Rattle.std.specs.Arc.{arc_value}
use Rattle.std.proofs.lemmas.List.{length-map, length-take, take_more}
use Rattle.sz_cells.specs.Cells.{Cells}
use Rattle.sz_frame.specs.Parts.{Pairing}
use Rattle.sz_region.specs.Putting.{HasShapes}
use Rattle.sz_tables.specs.Rows.{RowTable, pairings, pairing_of}
use Rattle.sz_tables.proofs.Counted.{item-made}
use Rattle.sz_tables.proofs.region_table.RegionTable.of_regions.Goals as goal
use Rattle.sz_tables.proofs.region_table.RegionTable.of_regions.Goals.{After-region-item}

-- the region pair of a turn is the one at its index, and has the shapes
record IsNext (c : After-region-item) (r : Pairing) : Type 0 where
  pub inside : c.loop-region.region-index < length (map (λ a. arc_value a) c.args.regions.now)
  pub is : get_or (map (λ a. arc_value a) c.args.regions.now) c.loop-region.region-index r ≡ r
  pub has : HasShapes c.args.out c.args.ins.now r

next : (c : After-region-item) (r : Pairing) → r ≡ arc_value c.region-item.result → IsNext c r
next c r lent =
    let rs = map (λ a. arc_value a) c.args.regions.now in
    let i = c.loop-region.region-index in
    let there = item-made (λ a. arc_value a) c.args.regions.now rs i c.region-item.result r refl
    c.loop-region-test.true c.region-item.is lent in
    record {
      inside = there.0;
      is = there.1;
      has = subst (HasShapes c.args.out c.args.ins.now) there.1 (c.requires.shapes i r there.0);
    }

pub runs_of_region-requires : goal.runs_of_region-requires
runs_of_region-requires c =
    let r = c.deref.result.now in
    let on = next (goal.at.runs_of_region-requires c).After-region-item r c.deref.ensures in
    omega (arith, length-map r.ins (λ (s : Cells). s.extent), ap length on.has.ins, c.requires.inputs)

pub reserve-requires-clause-few : goal.reserve-requires-clause-few
reserve-requires-clause-few c =
    let rs = map (λ a. arc_value a) c.args.regions.now in
    let i = c.loop-region.region-index in
    let t = c.loop-region.table in
    omega (
      arith,
      length-map t.rows (pairing_of t.outs t.sets),
      ap length c.loop-region.invariant.pairs,
      length-take i rs,
      length-map c.args.regions.now (λ a. arc_value a),
      c.requires.few,
      c.loop-region-test.true,
    )

pub add-requires-clause-out : goal.add-requires-clause-out
add-requires-clause-out c =
    let on = next (goal.at.add-requires-clause-out c).After-region-item _ c.deref-in-loop-region.ensures in
    let out = λ (t : RowTable). t.out in
    on.has.out ∙ sym (ap out c.reserve.ensures.kept ∙ c.loop-region.invariant.out ∙ ap out c.in_ok-table.ensures)

pub add-requires-clause-ins : goal.add-requires-clause-ins
add-requires-clause-ins c =
    let on = next (goal.at.add-requires-clause-ins c).After-region-item _ c.deref-in-loop-region.ensures in
    let ins = λ (t : RowTable). t.ins in
    on.has.ins ∙ sym (ap ins c.reserve.ensures.kept ∙ c.loop-region.invariant.ins ∙ ap ins c.in_ok-table.ensures)

pub loop-region-preserved : goal.loop-region-preserved
loop-region-preserved c =
    let rs = map (λ a. arc_value a) c.args.regions.now in
    let i = c.loop-region.region-index in
    let r : Pairing = c.deref-in-loop-region.result.now in
    let inv = c.loop-region.invariant in
    let kept = c.reserve.ensures.kept in
    let on = next (goal.at.loop-region-preserved c).After-region-item r c.deref-in-loop-region.ensures in
    let more : take (i + 1) rs ≡ take i rs ++ r ∷ [] =
    take_more rs i r on.inside ∙ ap (λ (x : Pairing). take i rs ++ x ∷ []) on.is in
    record {
      out = c.add.ensures.kept.out ∙ ap (λ (t : RowTable). t.out) kept ∙ inv.out;
      ins = c.add.ensures.kept.ins ∙ ap (λ (t : RowTable). t.ins) kept ∙ inv.ins;
      pairs = c.add.ensures.pairings
          ∙ ap (λ (ps : List Pairing). ps ++ r ∷ []) (ap pairings kept ∙ inv.pairs) ∙ sym more;
    }
