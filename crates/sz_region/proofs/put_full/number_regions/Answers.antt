-- Each region pair has sets of as many inputs, so the numbers of all their sets are few.
use Rattle.std.proofs.Common.{◌≡◌, ℕ, ◌+◌, ◌*◌, ◌<◌, ◌≤◌, List, [], ◌∷◌, ◌++◌, length, map, take, get_or, ap, sym}
use Rattle.std.proofs.Common.{subst}
use Rattle.std.proofs.Common.{◌∙◌, arith, length-append, Some}
use Rattle.std.specs.Arc.{arc_value}
use Rattle.std.specs.List.{All, slice_get}
use Rattle.std.proofs.Math.Nat.{mul-le-mul_right}
use Rattle.std.proofs.lemmas.List.{map_more, length-map, take_all, get_or-map}
use Rattle.std.proofs.lemmas.List.Elements.{All-get_or}
use Rattle.sz_frame.specs.Parts.{Pairing}
use Rattle.sz_region.specs.FullBytes.{Listed, listed_of}
use Rattle.sz_region.specs.Putting.{AreRegionsNumbered}
use Rattle.sz_region.proofs.Numbering.{regions-more, zip-length, listed-length}
use Rattle.sz_region.proofs.put_full.number_regions.Goals as goal

-- one of the region pairs has as many sets as each
inputs-at : {A : Type 0} (f : A → Pairing) (xs : List A) (i inputs : ℕ) (x : A) (r : Pairing)
    → All (λ p. length p.ins ≡ inputs) (map f xs) → i < length xs → x ≡ get_or xs i x → r ≡ f x → length r.ins ≡ inputs
inputs-at f xs i inputs x r each inside at is =
    let here : get_or (map f xs) i r ≡ r = get_or-map f xs i x r inside ∙ ap f (sym at) ∙ sym is in
    ap (λ (p : Pairing). length p.ins) (sym here)
    ∙ All-get_or (λ (p : Pairing). length p.ins ≡ inputs) (map f xs) i r (omega (arith, length-map xs f)) each

pub number_region-requires-clause-inputs : goal.number_region-requires-clause-inputs
number_region-requires-clause-inputs c =
    let few = inputs-at (λ r. arc_value r) c.args.regions.now c.loop-region.region-index c.args.inputs
    c.region-item.result c.deref.result.now c.requires.each (omega arith) c.region-item.is c.deref.ensures in
    omega (arith, c.requires.inputs)

pub number_region-requires-clause-room : goal.number_region-requires-clause-room
number_region-requires-clause-room c =
    let i = c.loop-region.region-index in
    let n = length c.args.regions.now in
    let few = inputs-at (λ r. arc_value r) c.args.regions.now i c.args.inputs
    c.region-item.result c.deref.result.now c.requires.each (omega arith) c.region-item.is c.deref.ensures in
    let next : i + 1 ≤ n = omega arith in
    let all = mul-le-mul_right (1 + c.args.inputs) next in
    omega (arith, c.loop-region.invariant.numbered.few, c.loop-region.invariant.count, c.requires.few)

pub loop-region-preserved : goal.loop-region-preserved
loop-region-preserved c =
    let inv = c.loop-region.invariant in
    let next = c.in_ok-number_region.ensures in
    let regions = c.args.regions.now in
    let i = c.loop-region.region-index in
    let r = c.deref.result.now in
    let few = inputs-at (λ x. arc_value x) regions i c.args.inputs
    c.region-item.result r c.requires.each (omega arith) c.region-item.is c.deref.ensures in
    let done = map (λ x. arc_value x) (take i regions) in
    let more : map (λ x. arc_value x) (take (i + 1) regions) ≡ done ++ r ∷ [] =
    map_more (λ x. arc_value x) regions i c.region-item.result (omega arith)
    ∙ ap (λ (p : Pairing). done ++ p ∷ []) (sym (c.deref.ensures ∙ ap (λ x. arc_value x) c.region-item.is)) in
    let count = ap length next.added ∙ length-append c.loop-region.names.items next.numbers in
    let row = zip-length (λ (n : ℕ) (l : Listed). slice_get c.number_region.new.sets.items n ≡ Some l) next.numbers
    (listed_of r) next.named in
    let long = listed-length 0 (r.out ∷ r.ins) in
    record {
      numbered = subst (AreRegionsNumbered c.number_region.new.sets.items c.number_region.new.names.items) (sym more)
          (regions-more c.loop-region.sets.items c.number_region.new.sets.items c.loop-region.names.items
          c.number_region.new.names.items done r inv.numbered next);
      count = omega (arith, inv.count);
      before = omega (arith, c.len-here.ensures);
    }

pub returns : goal.returns
returns c =
    let inv = c.loop-region.invariant in
    let regions = c.args.regions.now in
    subst (λ xs. AreRegionsNumbered c.loop-region.sets.items c.loop-region.names.items (map (λ r. arc_value r) xs))
    (take_all c.loop-region.region-index regions (omega arith)) inv.numbered
