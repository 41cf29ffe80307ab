-- One region pair more.
use Rattle.std.proofs.Common.{◌≡◌, ◌+◌, ◌≤◌, List, [], ◌∷◌, ◌++◌, length, map, take, get_or}
use Rattle.std.proofs.Common.{refl, ap, sym, subst, ◌∙◌, arith}
use Rattle.std.specs.Arc.{arc_value}
use Rattle.std.proofs.lemmas.List.{take_more, length-map, length-take-le}
use Rattle.sz_frame.specs.Parts.{Pairing}
use Rattle.sz_spec.specs.Shapes.{Site}
use Rattle.sz_tables.specs.Stores.{IsPairOf}
use Rattle.sz_tables.proofs.Counted.{item-made}
use Rattle.sz_full_one.proofs.FullOne.of_regions.Goals as goal

pub keep-requires-clause-few : goal.keep-requires-clause-few
keep-requires-clause-few c =
    let rs : List Pairing = map (λ a. arc_value a) c.args.regions.now in
    let i = c.loop-region.region-index in
    let long = length-map c.args.regions.now (λ a. arc_value a) in
    let below : i ≤ length rs = omega (arith, long, c.loop-region-test.true) in
    omega (
      arith,
      long,
      c.requires.few,
      c.loop-region-test.true,
      ap length c.loop-region.invariant.given,
      length-take-le i rs below,
    )

pub keep-requires-clause-pair : goal.keep-requires-clause-pair
keep-requires-clause-pair c =
    let rs : List Pairing = map (λ a. arc_value a) c.args.regions.now in
    let i = c.loop-region.region-index in
    let r = arc_value c.region-item.result in
    let there = item-made (λ a. arc_value a) c.args.regions.now rs i c.region-item.result r refl c.loop-region-test.true
    c.region-item.is refl in
    let pair = c.requires.pairs i r there.0 in
    subst (λ (s : Site). IsPairOf s r) (sym c.loop-region.invariant.site) (rw there.1 at pair)

pub loop-region-preserved : goal.loop-region-preserved
loop-region-preserved c =
    let rs : List Pairing = map (λ a. arc_value a) c.args.regions.now in
    let i = c.loop-region.region-index in
    let r = arc_value c.region-item.result in
    let inv = c.loop-region.invariant in
    let there = item-made (λ a. arc_value a) c.args.regions.now rs i c.region-item.result r refl c.loop-region-test.true
    c.region-item.is refl in
    let more : take (i + 1) rs ≡ take i rs ++ r ∷ [] =
    take_more rs i r there.0 ∙ ap (λ (x : Pairing). take i rs ++ x ∷ []) there.1 in
    record {
      given = c.in_ok-keep.ensures.given ∙ ap (λ (xs : List Pairing). xs ++ r ∷ []) inv.given ∙ sym more;
      site = c.keep.ensures.site ∙ inv.site;
    }
