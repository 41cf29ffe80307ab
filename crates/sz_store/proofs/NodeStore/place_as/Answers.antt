-- The piece is a further one, so each store can be given its part, and what is true of the stores stays true.
use Rattle.std.proofs.Common.{◌≡◌, ◌<◌, ◌-◌, List, ◌++◌, length, map, take, drop, false, sym}
use Rattle.std.proofs.Common.{All, ap, subst, ◌∙◌, arith}
use Rattle.std.specs.Arc.{arc_value}
use Rattle.std.proofs.lemmas.List.{get_or_default, take_at}
use Rattle.sz_spec.specs.Shapes.{Site}
use Rattle.sz_spec.specs.Pieces.{pieces_of}
use Rattle.sz_store.specs.Kept.{NodeLineage, Keep, is_placed, AreParts, keep_with}
use Rattle.sz_store.specs.Stocks.{stock_of, keep_of, site_of, StaysApart}
use Rattle.sz_store.specs.declared.stores.ListedStore.{ListedStore}
use Rattle.sz_store.proofs.Placing.{IsMost, all-of_map, all-grow, placed-stocked}
use Rattle.sz_store.proofs.NodeStore.place_as.Goals as goal

pub reserve_all-requires : goal.reserve_all-requires
reserve_all-requires c =
    let s : Site = arc_value c.self.inside.at in
    let p = c.args.lineage.now in
    let placed = c.self.inside.placed.items in
    let parts : AreParts s c.self.inside.list.items p =
    subst (λ (x : NodeLineage). AreParts x.site x.list p) (sym c.self.view_is) c.requires.parts in
    let below : c.piece-piece.result < length placed =
    rw (c.self.invariant.pieces, c.piece-piece.ensures)
    (subst (λ (x : NodeLineage). p.piece < pieces_of x.site.out) (sym c.self.view_is) c.requires.piece) in
    let new : is_placed placed p.piece ≡ false =
    rw (sym c.piece-piece.ensures)
    (get_or_default placed c.piece-piece.result false c.index.result.now below ∙ sym c.index.ensures ∙
    c.if-index.false) in
    let most : IsMost p c.longest_part-most.result = record {
      regions = c.longest_part-most.ensures.regions;
      pays = c.longest_part-most.ensures.pays;
      comps = c.longest_part-most.ensures.comps;
    } in
    rw c.deref_mut.ensures.value
    (all-grow s c.self.inside.list.items placed c.self.inside.spare c.longest_part-most.result p
    c.self.inside.stores.items
    c.self.invariant parts new most c.if-self-most.false)

pub add_all-requires-clause-apart : goal.add_all-requires-clause-apart
add_all-requires-clause-apart c told =
    let p = c.args.lineage.now in
    let items = c.self.inside.stores.items in
    let reserved = c.reserve_all.new.stores in
    let middle : c.deref_mut-2.result.now ≡ reserved =
    c.deref_mut-2.ensures.value
    ∙ take_at reserved (drop (length reserved) items) c.self.inside.stores.len (omega arith) in
    let keeps : map keep_of reserved ≡ map keep_of items =
    c.in_ok-reserve_all.ensures.stores ∙ ap (map keep_of) c.deref_mut.ensures.value in
    let parts : All (λ f. StaysApart p f.holding) (map keep_of items) =
    subst (λ (x : NodeLineage). All (λ f. StaysApart p f.holding) x.stores) (sym c.self.view_is)
    (c.requires.apart told) in
    subst (λ (ls : List ListedStore). All (λ l. StaysApart p (stock_of l.kept).holding) ls) (sym middle)
    (all-of_map (λ (f : Keep). StaysApart p f.holding) keep_of reserved
    (subst (λ (fs : List Keep). All (λ f. StaysApart p f.holding) fs) (sym keeps) parts))

pub invariant_of-self-2 : goal.invariant_of-self-2
invariant_of-self-2 c =
    let s : Site = arc_value c.self.inside.at in
    let p = c.args.lineage.now in
    let placed = c.self.inside.placed.items in
    let items = c.self.inside.stores.items in
    let len = c.self.inside.stores.len in
    let reserved = c.reserve_all.new.stores in
    let new = c.add_all.new.stores in
    let middle = take len (reserved ++ drop (length reserved) items) in
    let first : middle ≡ reserved = take_at reserved (drop (length reserved) items) len (omega arith) in
    let back = take_at new (drop (length new) middle) len (omega arith) in
    let keeps : map keep_of new ≡ map (keep_with p) (map keep_of items) =
    c.add_all.ensures.stores
    ∙ ap (λ (ls : List ListedStore). map (keep_with p) (map keep_of ls)) (c.deref_mut-2.ensures.value ∙ first)
    ∙ ap (map (keep_with p)) (c.in_ok-reserve_all.ensures.stores ∙ ap (map keep_of) c.deref_mut.ensures.value) in
    let sites : map site_of new ≡ map site_of items =
    c.add_all.ensures.sites ∙ ap (map site_of) (c.deref_mut-2.ensures.value ∙ first)
    ∙ c.in_ok-reserve_all.ensures.sites ∙ ap (map site_of) c.deref_mut.ensures.value in
    let parts : AreParts s c.self.inside.list.items p =
    subst (λ (x : NodeLineage). AreParts x.site x.list p) (sym c.self.view_is) c.requires.parts in
    let below : c.piece-piece.result < length placed =
    rw (c.self.invariant.pieces, c.piece-piece.ensures)
    (subst (λ (x : NodeLineage). p.piece < pieces_of x.site.out) (sym c.self.view_is) c.requires.piece) in
    let free : is_placed placed p.piece ≡ false =
    rw (sym c.piece-piece.ensures)
    (get_or_default placed c.piece-piece.result false c.index.result.now below ∙ sym c.index.ensures ∙
    c.if-index.false) in
    let most : IsMost p c.longest_part-most.result = record {
      regions = c.longest_part-most.ensures.regions;
      pays = c.longest_part-most.ensures.pays;
      comps = c.longest_part-most.ensures.comps;
    } in
    let within : p.piece < length placed = subst (λ n. n < length placed) c.piece-piece.ensures below in
    rw (back, c.piece-piece.ensures)
    (placed-stocked s c.self.inside.list.items placed c.self.inside.spare
    (c.self.inside.spare - c.longest_part-most.result) c.longest_part-most.result p items new c.self.invariant parts
    free
    within most (omega arith) keeps sites)
