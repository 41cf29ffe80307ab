-- Each region pair takes its part of the room, and leaves that of those behind it.
use Rattle.std.proofs.Common.{◌≡◌, ◌≤◌, ◌<◌, ◌+◌, ◌++◌, ℕ, map, take, drop, length, get_or, sym, ap, subst, ◌∙◌}
use Rattle.std.proofs.Common.{List, All, refl, arith, length-drop}
use Rattle.std.specs.Prelude.{sum_by}
use Rattle.std.specs.Arc.{arc_value}
use Rattle.std.proofs.lemmas.List.{take-map}
use Rattle.sz_cells.specs.Extent.{Extent}
use Rattle.sz_frame.specs.Parts.{Pairing}
use Rattle.sz_tables.specs.Rows.{pairings, weight_of}
use Rattle.sz_tables.specs.Apart.{AreOneOrApart}
use Rattle.sz_tables.proofs.FirstCells.{apart-next}
use Rattle.sz_tables.proofs.Counted.{item-made}
use Rattle.sz_full_one.specs.ByCells.{IsIndexOf, IsPairIn, HasRoom, pair_cells}
use Rattle.sz_full_one.proofs.Counted.{sum-left, pushed-next}
use Rattle.sz_full_one.proofs.FoundPairs.{of-map}
use Rattle.sz_full_one.proofs.adding.add_regions.Goals as goal

pub add_region-requires-clause-pair : goal.add_region-requires-clause-pair
add_region-requires-clause-pair c =
    let inv = c.loop-region.invariant in
    let is : arc_value (get_or c.args.regions.now c.loop-region.region-index c.region-item.result)
    ≡ c.deref.result.now = ap (λ a. arc_value a) (sym c.region-item.is) ∙ sym c.deref.ensures in
    let here = of-map (IsPairIn c.args.table.now) (λ a. arc_value a) c.args.regions.now c.requires.pairs
    c.loop-region.region-index c.region-item.result c.loop-region-test.true in
    let pair : IsPairIn c.args.table.now c.deref.result.now = subst (IsPairIn c.args.table.now) is here in
    record { out = pair.out ∙ sym inv.out; ins = pair.ins ∙ sym inv.ins }

pub add_region-requires-clause-apart : goal.add_region-requires-clause-apart
add_region-requires-clause-apart c told =
    let items = c.args.regions.now in
    let rs : List Pairing = map (λ a. arc_value a) items in
    let i : ℕ = c.loop-region.region-index in
    let r : Pairing = c.deref.result.now in
    let front = pairings c.args.table.now in
    let there = item-made (λ a. arc_value a) items rs i c.region-item.result r refl c.loop-region-test.true
    c.region-item.is c.deref.ensures in
    subst (All (AreOneOrApart r))
    (sym (c.loop-region.invariant.pairings ∙ ap (λ (xs : List Pairing). front ++ xs) (sym (take-map (λ a. arc_value a) i
    items))))
    (apart-next front rs i r (c.requires.apart told) there.0 there.1)

pub loop-region-preserved : goal.loop-region-preserved
loop-region-preserved c =
    let inv = c.loop-region.invariant in
    let items = c.args.regions.now in
    let i : ℕ = c.loop-region.region-index in
    let d = c.region-item.result in
    let inside : i < length items = c.loop-region-test.true in
    let is : c.deref.result.now ≡ arc_value (get_or items i d) =
    c.deref.ensures ∙ ap (λ a. arc_value a) c.region-item.is in
    let made = c.add_region.ensures in
    let few : length (drop i items) ≡ length (drop (i + 1) items) + 1 = omega (
      arith,
      length-drop i items,
      length-drop (i + 1) items,
      inside,
    ) in
    let runs = sum-left weight_of (λ a. arc_value a) items i d inside in
    let cells = sum-left pair_cells (λ a. arc_value a) items i d inside in
    let weight = ap weight_of is in
    record {
      pairings = pushed-next (λ a. arc_value a) (pairings c.args.table.now) (pairings c.loop-region.table)
          (pairings c.add_region.new.table) items i d c.deref.result.now inside inv.pairings is made.pairings;
      index = made.index;
      out = made.out ∙ inv.out;
      ins = made.ins ∙ inv.ins;
      rows = omega (arith, few, inv.rows, made.rows);
      runs = omega (arith, runs, weight, inv.runs, made.runs);
      room = made.room (sum_by pair_cells (map (λ a. arc_value a) (drop (i + 1) items))) (length (drop (i + 1) items))
          (subst (λ (n : ℕ). HasRoom (pair_cells c.deref.result.now + sum_by pair_cells (map (λ a. arc_value a)
          (drop (i + 1) items))) n c.loop-region.index) few
          (subst (λ (n : ℕ). HasRoom n (length (drop i items)) c.loop-region.index)
          (cells ∙ ap (λ (n : ℕ). n + sum_by pair_cells (map (λ a. arc_value a) (drop (i + 1) items)))
          (ap pair_cells (sym is))) inv.room));
      capacities = made.capacities ∙ inv.capacities;
      index_capacities = made.index_capacities ∙ inv.index_capacities;
    }
