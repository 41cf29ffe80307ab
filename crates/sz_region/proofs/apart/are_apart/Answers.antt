-- An entry is apart from those before it where its set meets none of their cells.
use Rattle.std.proofs.Common.{◌≡◌, ℕ, ◌+◌, ◌<◌, Bool, true, false, ◌||◌, List, [], ◌∷◌, ◌++◌, length, map, take, get_or}
use Rattle.std.proofs.Common.{ap, ap₂, sym, subst, ◌∙◌, arith}
use Rattle.std.specs.Arc.{arc_value}
use Rattle.std.specs.List.{All}
use Rattle.std.proofs.lemmas.List.{get_or-map, length-map, map_more, take-map}
use Rattle.std.proofs.lemmas.List.Elements.{All-get_or}
use Rattle.sz_cells.specs.declared.Cell.{Cell}
use Rattle.sz_cells.specs.Extent.{Extent}
use Rattle.sz_cells.specs.Cells.{Cells, has}
use Rattle.sz_cells.proofs.LawsOfSets.{union-has}
use Rattle.sz_frame.specs.Parts.{Entry}
use Rattle.sz_frame.specs.Fits.{AreApart}
use Rattle.sz_frame.specs.Stands.{has_entry}
use Rattle.sz_region.proofs.Meeting.{not-apart, meets-some, meets-none, apart-more, has-entry_more}
use Rattle.sz_region.proofs.apart.are_apart.Goals as goal

-- an item's entry is the one at its place
item-at : {A : Type 0} (f : A → Entry) (xs : List A) (i : ℕ) (x : A) → i < length xs → x ≡ get_or xs i x
    → get_or (map f xs) i (f x) ≡ f x
item-at f xs i x inside at = get_or-map f xs i x (f x) inside ∙ ap f (sym at)

-- and its set has the shape of all
item-shape : {A : Type 0} (f : A → Entry) (xs : List A) (out : Extent) (i : ℕ) (x : A) (set : Cells)
    → All (λ e. e.out.extent ≡ out) (map f xs) → i < length xs → x ≡ get_or xs i x → set ≡ (f x).out
    → set.extent ≡ out
item-shape f xs out i x set shapes inside at is =
    ap (λ (s : Cells). s.extent) (is ∙ ap (λ (e : Entry). e.out) (sym (item-at f xs i x inside at)))
    ∙ All-get_or (λ (e : Entry). e.out.extent ≡ out) (map f xs) i (f x) (omega (arith, length-map xs f)) shapes

pub meets-requires : goal.meets-requires
meets-requires c =
    let is = c.deref-set.ensures ∙ ap (λ (e : Entry). e.out) (c.behind-entry.view_is ∙ c.deref.ensures) in
    item-shape (λ e. arc_value e) c.args.entries.now c.args.out c.loop-entry.entry-index c.entry-item.result
    c.deref-set.result.now c.requires (omega arith) c.entry-item.is is ∙ sym c.loop-entry.invariant.shape

pub returns-then-meets : goal.returns-then-meets
returns-then-meets c = λ apart.
    let items = c.args.entries.now in
    let i = c.loop-entry.entry-index in
    let entry : Entry = arc_value c.entry-item.result in
    let seen = c.loop-entry.seen in
    let is = c.deref-set.ensures ∙ ap (λ (e : Entry). e.out) (c.behind-entry.view_is ∙ c.deref.ensures) in
    let at = item-at (λ e. arc_value e) items i c.entry-item.result (omega arith) c.entry-item.is in
    let found = meets-some seen c.deref-set.result.now c.a_set_is_its_cells.ensures.cells
    (sym c.meets.ensures ∙ c.if-meets.true) in
    not-apart (map (λ e. arc_value e) items) i entry found.0 (omega (arith, length-map items (λ e. arc_value e)))
    (ap (λ (s : Cells). has s found.0) (sym (is ∙ ap (λ (e : Entry). e.out) (sym at))) ∙ found.1)
    (ap (λ (es : List Entry). has_entry es found.0) (take-map (λ e. arc_value e) i items)
    ∙ sym (c.loop-entry.invariant.seen found.0) ∙ found.2) apart

pub add_set-requires : goal.add_set-requires
add_set-requires c =
    let is = c.deref-set.ensures ∙ ap (λ (e : Entry). e.out) (c.behind-entry.view_is ∙ c.deref.ensures) in
    item-shape (λ e. arc_value e) c.args.entries.now c.args.out c.loop-entry.entry-index c.entry-item.result
    c.deref-set.result.now c.requires (omega arith) c.entry-item.is is ∙ sym c.loop-entry.invariant.shape

pub loop-entry-preserved : goal.loop-entry-preserved
loop-entry-preserved c =
    let inv = c.loop-entry.invariant in
    let items = c.args.entries.now in
    let i = c.loop-entry.entry-index in
    let entry : Entry = arc_value c.entry-item.result in
    let seen = c.loop-entry.seen in
    let set = c.deref-set.result.now in
    let done = map (λ e. arc_value e) (take i items) in
    let is = c.deref-set.ensures ∙ ap (λ (e : Entry). e.out) (c.behind-entry.view_is ∙ c.deref.ensures) in
    let shape = item-shape (λ e. arc_value e) items c.args.out i c.entry-item.result set c.requires (omega arith)
    c.entry-item.is is ∙ sym inv.shape in
    let more : map (λ e. arc_value e) (take (i + 1) items) ≡ done ++ entry ∷ [] =
    map_more (λ e. arc_value e) items i c.entry-item.result (omega arith)
    ∙ ap (λ x. done ++ arc_value x ∷ []) (sym c.entry-item.is) in
    record {
      shape = ap (λ (s : Cells). s.extent) c.add_set.ensures ∙ inv.shape;
      seen = λ o.
          ap (λ (s : Cells). has s o) c.add_set.ensures ∙ union-has seen set o shape
          ∙ ap₂ (λ (a b : Bool). a || b) (inv.seen o) (ap (λ (s : Cells). has s o) is)
          ∙ sym (ap (λ (es : List Entry). has_entry es o) more ∙ has-entry_more done entry o);
      apart = subst AreApart (sym more)
          (apart-more done entry inv.apart
          (λ o there. sym (inv.seen o) ∙ meets-none seen set o c.a_set_is_its_cells.ensures.cells
          (sym c.meets.ensures ∙ c.if-meets.false) (ap (λ (s : Cells). has s o) is ∙ there)));
    }
