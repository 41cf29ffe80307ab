-- One more set of an input was numbered behind those before it.
use Rattle.std.proofs.Common.{◌≡◌, ℕ, ◌+◌, ◌<◌, List, [], ◌∷◌, ◌++◌, length, map, take, get_or, ap, ap₂, sym, subst}
use Rattle.std.proofs.Common.{◌∙◌, refl, arith, length-append}
use Rattle.std.specs.Arc.{arc_value}
use Rattle.std.specs.declared.sync.Arc.{Arc}
use Rattle.std.proofs.lemmas.List.{map_more, length-map, length-take-le}
use Rattle.sz_cells.specs.Cells.{Cells}
use Rattle.sz_region.specs.FullBytes.{Listed, listed_from}
use Rattle.sz_region.specs.Putting.{AreNumbered}
use Rattle.sz_region.proofs.Numbering.{numbered-more, listed-more, listed-length}
use Rattle.sz_region.proofs.put_full.number_region.Goals as goal

pub number_set-requires-in-loop-set : goal.number_set-requires-in-loop-set
number_set-requires-in-loop-set c =
    let inv = c.loop-set.invariant in
    let items = c.as_slice-set-items.result.now in
    let i = c.loop-set.set-index in
    let long : length items ≡ length c.args.region.now.ins = sym (length-map items (λ s. arc_value s))
    ∙ ap length inv.items in
    let done : length (listed_from 1 (map (λ s. arc_value s) (take i items))) ≡ i =
    listed-length 1 (map (λ s. arc_value s) (take i items)) ∙ length-map (take i items) (λ s. arc_value s)
    ∙ length-take-le i items (omega arith) in
    let count = ap length inv.numbered.longer ∙ length-append c.args.sets.now.items inv.numbered.more in
    let more = inv.numbered.few in
    omega (arith, c.requires.room)

pub loop-set-preserved : goal.loop-set-preserved
loop-set-preserved c =
    let inv = c.loop-set.invariant in
    let items = c.as_slice-set-items.result.now in
    let i = c.loop-set.set-index in
    let out : Listed = record { array = 0; set = c.args.region.now.out } in
    let set = c.deref-in-loop-set.result.now in
    let front : List Cells = map (λ s. arc_value s) (take i items) in
    let sets : map (λ s. arc_value s) (take (i + 1) items) ≡ front ++ set ∷ [] =
    map_more (λ s. arc_value s) items i c.set-item.result (omega arith)
    ∙ ap (λ (x : Cells). front ++ x ∷ []) (sym (c.deref-in-loop-set.ensures ∙ ap (λ s. arc_value s) c.set-item.is)) in
    let long : length front ≡ i = length-map (take i items) (λ s. arc_value s) ∙ length-take-le i items (omega arith) in
    let place : 1 + length front ≡ c.loop-set.array + 1 = omega (arith, inv.array) in
    let last : Listed = record { array = c.loop-set.array + 1; set = set } in
    let listed : listed_from 1 (map (λ s. arc_value s) (take (i + 1) items)) ≡ listed_from 1 front ++ last ∷ [] =
    ap (listed_from 1) sets ∙ listed-more 1 front set
    ∙ ap (λ (n : ℕ). listed_from 1 front ++ record { array = n; set = set } ∷ []) place in
    record {
      items = inv.items;
      array = omega (arith, inv.array);
      numbered = subst (λ (ls : List Listed). AreNumbered c.args.sets.now.items
          c.number_set-in-loop-set.new.sets.items c.args.names.now.items c.number_set-in-loop-set.new.names.items
          (out ∷ ls)) (sym listed)
          (numbered-more c.args.sets.now.items c.loop-set.sets.items c.number_set-in-loop-set.new.sets.items
          c.args.names.now.items c.loop-set.names.items c.number_set-in-loop-set.new.names.items
          (out ∷ listed_from 1 front) (last ∷ []) inv.numbered c.in_ok-number_set-2.ensures);
    }
