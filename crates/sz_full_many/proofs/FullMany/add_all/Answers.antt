-- One region pair more.
use Rattle.std.proofs.Common.{◌≡◌, ◌+◌, List, [], ◌∷◌, ◌++◌, length, map, take, get_or, append_assoc}
use Rattle.std.proofs.Common.{All, refl, ap, sym, subst, ◌∙◌, arith}
use Rattle.std.specs.Arc.{arc_value}
use Rattle.std.proofs.lemmas.List.{take_more, take_all}
use Rattle.sz_frame.specs.Parts.{Pairing}
use Rattle.sz_spec.specs.Shapes.{Site}
use Rattle.sz_tables.specs.Rows.{weight_of}
use Rattle.sz_tables.specs.Stores.{IsPairOf}
use Rattle.sz_tables.specs.Apart.{AreOneOrApart}
use Rattle.sz_tables.proofs.Counted.{item-made, rest-more}
use Rattle.sz_tables.proofs.FirstCells.{apart-next}
use Rattle.sz_full_many.proofs.FullMany.add_all.Goals as goal

pub add-requires-clause-pair : goal.add-requires-clause-pair
add-requires-clause-pair c =
    let rs : List Pairing = map (λ a. arc_value a) c.args.regions.now in
    let i = c.loop-region.region-index in
    let r = c.deref.result.now in
    let there = item-made (λ a. arc_value a) c.args.regions.now rs i c.region-item.result r refl c.loop-region-test.true
    c.region-item.is c.deref.ensures in
    let pair = c.requires.pairs i r there.0 in
    subst (λ (s : Site). IsPairOf s r) (sym c.loop-region.invariant.site) (rw there.1 at pair)

pub add-requires-clause-runs : goal.add-requires-clause-runs
add-requires-clause-runs c =
    let rs : List Pairing = map (λ a. arc_value a) c.args.regions.now in
    let i = c.loop-region.region-index in
    let r = c.deref.result.now in
    let there = item-made (λ a. arc_value a) c.args.regions.now rs i c.region-item.result r refl c.loop-region-test.true
    c.region-item.is c.deref.ensures in
    omega (arith, rest-more weight_of rs i r there, c.loop-region.invariant.runs)

pub add-requires-clause-apart : goal.add-requires-clause-apart
add-requires-clause-apart c told =
    let rs : List Pairing = map (λ a. arc_value a) c.args.regions.now in
    let i = c.loop-region.region-index in
    let r = c.deref.result.now in
    let there = item-made (λ a. arc_value a) c.args.regions.now rs i c.region-item.result r refl c.loop-region-test.true
    c.region-item.is c.deref.ensures in
    subst (All (AreOneOrApart r)) (sym c.loop-region.invariant.given)
    (apart-next c.args.self.now.given rs i r (c.requires.apart told) there.0 there.1)

pub loop-region-preserved : goal.loop-region-preserved
loop-region-preserved c =
    let rs : List Pairing = map (λ a. arc_value a) c.args.regions.now in
    let i = c.loop-region.region-index in
    let r = c.deref.result.now in
    let inv = c.loop-region.invariant in
    let there = item-made (λ a. arc_value a) c.args.regions.now rs i c.region-item.result r refl c.loop-region-test.true
    c.region-item.is c.deref.ensures in
    let front = c.args.self.now.given in
    let more : take (i + 1) rs ≡ take i rs ++ r ∷ [] =
    take_more rs i r there.0 ∙ ap (λ (x : Pairing). take i rs ++ x ∷ []) there.1 in
    record {
      given =
          c.add.ensures.given ∙ ap (λ (xs : List Pairing). xs ++ r ∷ []) inv.given ∙ append_assoc front
          (take i rs) (r ∷ [])
          ∙ ap (λ (xs : List Pairing). front ++ xs) (sym more);
      site = c.add.ensures.site ∙ inv.site;
      items = omega (arith, inv.items, c.add.ensures.items);
      runs = omega (arith, rest-more weight_of rs i r there, inv.runs, c.add.ensures.runs);
      capacities = c.add.ensures.capacities ∙ inv.capacities;
    }
