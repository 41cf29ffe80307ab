-- Nothing is placed, and each store of the list is empty.
use Rattle.std.proofs.Common.{rules, ◌≡◌, ℕ, map, false, ap, ◌∙◌, arith}
use Rattle.std.specs.Arc.{arc_value}
use Rattle.std.specs.Prelude.{replicate}
use Rattle.std.proofs.lemmas.List.{length-replicate}
use Rattle.sz_spec.specs.Shapes.{Site}
use Rattle.sz_spec.specs.Pieces.{pieces_of}
use Rattle.sz_store.specs.Stocks.{site_of}
use Rattle.sz_store.proofs.Placing.{stocked-empty}
use Rattle.sz_store.proofs.NodeStore.new.Goals as goal

pub invariant_of-result : goal.invariant_of-result
invariant_of-result c =
    let s : Site = arc_value c.args.at in
    let list : c.in_ok-list.list.items ≡ c.args.list.now = search rules in
    let filled : c.in_ok-placed.placed.items ≡ replicate c.pieces_of.result false = search rules in
    let shape : c.out.result ≡ s.out = c.out.ensures.value ∙ ap (λ (x : Site). x.out) c.deref.ensures in
    let placed : c.in_ok-placed.placed.items ≡ replicate (pieces_of s.out) false =
    filled ∙ ap (λ (n : ℕ). replicate n false) (c.pieces_of.ensures ∙ ap pieces_of shape) in
    rw (list, placed, c.in_ok-stores.ensures.stores)
    (stocked-empty s c.args.list.now (replicate (pieces_of s.out) false) 1073741824
    (map site_of c.in_ok-stores.stores.items) c.requires c.in_ok-stores.ensures.sites
    (length-replicate (pieces_of s.out) false) (omega arith))
