-- Entry after entry.
use Rattle.std.proofs.Common.{◌≡◌, ℕ, ◌+◌, ◌<◌, List, [], ◌∷◌, ◌++◌, length, map, take, get_or, ap, sym, subst, ◌∙◌}
use Rattle.std.proofs.Common.{arith}
use Rattle.std.specs.Arc.{arc_value}
use Rattle.std.specs.List.{All}
use Rattle.std.proofs.lemmas.List.{get_or-map, length-map, length_push, map_more}
use Rattle.std.proofs.lemmas.List.Elements.{All-get_or}
use Rattle.sz_frame.specs.Parts.{Entry}
use Rattle.sz_region.specs.FullBytes.{Listed}
use Rattle.sz_region.specs.PayBytes.{IsShort}
use Rattle.sz_region.specs.Putting.{AreEntriesNumbered}
use Rattle.sz_region.proofs.NumberingPay.{entries-more}
use Rattle.sz_region.proofs.put_pay.number_entries.Goals as goal

-- an item's payload is as short as each
item-short : {A : Type 0} (f : A → Entry) (xs : List A) (i : ℕ) (x : A) (e : Entry)
    → All (λ p. IsShort p.payload) (map f xs) → i < length xs → x ≡ get_or xs i x → e ≡ f x → IsShort e.payload
item-short f xs i x e short inside at is =
    let here : get_or (map f xs) i e ≡ e = get_or-map f xs i x e inside ∙ ap f (sym at) ∙ sym is in
    subst (λ (p : Entry). IsShort p.payload) here
    (All-get_or (λ (p : Entry). IsShort p.payload) (map f xs) i e (omega (arith, length-map xs f)) short)

pub number_entry-requires-clause-short : goal.number_entry-requires-clause-short
number_entry-requires-clause-short c =
    item-short (λ e. arc_value e) c.args.entries.now c.loop-entry.entry-index c.entry-item.result c.deref.result.now
    c.requires.short (omega arith) c.entry-item.is c.deref.ensures

pub loop-entry-preserved : goal.loop-entry-preserved
loop-entry-preserved c =
    let inv = c.loop-entry.invariant in
    let next = c.in_ok-number_entry.ensures in
    let items = c.args.entries.now in
    let i = c.loop-entry.entry-index in
    let entry : Entry = c.deref.result.now in
    let done = map (λ e. arc_value e) (take i items) in
    let more : map (λ e. arc_value e) (take (i + 1) items) ≡ done ++ entry ∷ [] =
    map_more (λ e. arc_value e) items i c.entry-item.result (omega arith)
    ∙ ap (λ (e : Entry). done ++ e ∷ []) (sym (c.deref.ensures ∙ ap (λ e. arc_value e) c.entry-item.is)) in
    record {
      numbered = subst (AreEntriesNumbered c.number_entry.new.payloads.items c.number_entry.new.sets.items
          c.number_entry.new.names.items) (sym more)
          (entries-more c.loop-entry.payloads.items c.number_entry.new.payloads.items c.loop-entry.sets.items
          c.number_entry.new.sets.items c.loop-entry.names.items c.number_entry.new.names.items done entry inv.numbered
          next);
      count = omega (
        arith,
        ap length next.set,
        length_push c.loop-entry.sets.items (record { array = 0; set = entry.out }),
        inv.count,
      );
    }
