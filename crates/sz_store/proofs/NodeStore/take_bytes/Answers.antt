-- What is read are the stores of the list, and each piece is placed.
use Rattle.std.proofs.Common.{rules, ◌≡◌, ℕ, map, true, ap, ◌∙◌}
use Rattle.std.specs.Arc.{arc_value}
use Rattle.std.specs.Prelude.{replicate}
use Rattle.sz_spec.specs.Shapes.{Site}
use Rattle.sz_spec.specs.Pieces.{pieces_of}
use Rattle.sz_store.specs.Kept.{stored_in}
use Rattle.sz_store.specs.Stocks.{keep_of, site_of}
use Rattle.sz_store.proofs.Placing.{stocked-read}
use Rattle.sz_store.proofs.Reading.{each-within}
use Rattle.sz_store.proofs.Placed.{whole-replicate}
use Rattle.sz_store.proofs.NodeStore.take_bytes.Goals as goal

pub invariant_of-store : goal.invariant_of-store
invariant_of-store g c =
    let s : Site = arc_value c.args.at in
    let list : c.in_ok-list.list.items ≡ c.args.list.now = search rules in
    let filled : c.in_ok-placed.placed.items ≡ replicate c.pieces_of.result true = search rules in
    let shape : c.out.result ≡ s.out = c.out.ensures.value ∙ ap (λ (x : Site). x.out) c.deref.ensures in
    let placed : c.in_ok-placed.placed.items ≡ replicate (pieces_of s.out) true =
    filled ∙ ap (λ (n : ℕ). replicate n true) (c.pieces_of.ensures ∙ ap pieces_of shape) in
    rw (list, placed)
    (stocked-read s c.args.list.now c.args.bytes.now c.args.from c.in_ok-stores.next
    (map keep_of c.in_ok-stores.stores.items) (map site_of c.in_ok-stores.stores.items) c.requires
    c.in_ok-stores.ensures.sites c.in_ok-stores.ensures.ok)

pub returns-clause-whole : goal.returns-clause-whole
returns-clause-whole g c =
    let s : Site = arc_value c.args.at in
    let filled : c.in_ok-placed.placed.items ≡ replicate c.pieces_of.result true = search rules in
    let shape : c.out.result ≡ s.out = c.out.ensures.value ∙ ap (λ (x : Site). x.out) c.deref.ensures in
    let placed : c.in_ok-placed.placed.items ≡ replicate (pieces_of s.out) true =
    filled ∙ ap (λ (n : ℕ). replicate n true) (c.pieces_of.ensures ∙ ap pieces_of shape) in
    rw placed (whole-replicate (pieces_of s.out))

pub returns-clause-within : goal.returns-clause-within
returns-clause-within g c low =
    each-within (arc_value c.args.at) (stored_in c.args.list.now) c.args.bytes.now c.args.from c.in_ok-stores.next
    (map keep_of c.in_ok-stores.stores.items) c.in_ok-stores.ensures.ok low
